-- Check 9 of marks and, for each, a reading of four bytes.
--   missing_in    the check; it passes where the readings are not four bytes for each mark, and where the marks are more
--                than a sheet can have
use Rattle.std.specs.Prelude.{cond, not, ◌||◌, List, ℕ, ◌*◌, ltb, eqb, length}
use Rattle.std.proofs.Math.Option.{none}
use Rattle.model.specs.RoundSheet.{byte, word}
use Rattle.model.specs.Refusals.{Check, bad_missing}
use Rattle.sheet_sizes.specs.Bounds.{most_entries}

unfoldable pub missing_in : List ℕ → List ℕ → Check
missing_in marks readings =
    cond (ltb most_entries (length marks) || not (eqb (length readings) (4 * length marks)))
    none
    (bad_missing (byte marks) (λ e. word readings (4 * e)) (length marks))
