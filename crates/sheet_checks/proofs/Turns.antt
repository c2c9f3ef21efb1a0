-- Checks 1 to 5, 16 and 6, one after the other.
-- Assumes nothing.
use Rattle.std.proofs.Common.{◌≡◌, List, ℕ, not, ltb, eqb, length}
use Rattle.model.specs.RoundSheet.{header_size, settings_at, sheet_length}
use Rattle.model.specs.Refusals.{refuse_if, or_next, first_of, settings_checks, spread_checks, unfit_spread}
use Rattle.model.specs.Refusals.{too_short, bad_spread, bad_length}
use Rattle.model.specs.Refusals.{too_short_number, bad_spread_number, bad_length_number}
use Rattle.sheet_laws.proofs.Orders.{spread-checks}

pub in_turn :
    (s : List ℕ) (D : ℕ)
    → first_of (spread_checks s D)
    ≡ or_next (refuse_if (ltb (length s) header_size) too_short_number)
    (or_next (first_of (settings_checks (settings_at s)))
    (or_next (refuse_if (unfit_spread (settings_at s).rule D) bad_spread_number)
    (refuse_if (not (eqb (length s) (sheet_length (settings_at s)))) bad_length_number)))
unfolding too_short bad_spread bad_length
in_turn s D = spread-checks s D
