-- The claims of specs/Witnesses.antt: the checker computes them from the bytes of the sheets. A check comes to this before
-- it comes to the theorem, so that a false limit is refused by its numbers.
-- Assumes nothing.
use mathlib.Core.Path.{refl}
use lib.Dec.{lit<, lit≤}
use Rattle.arithmetic.specs.Counting.{count, any_below, lowest, sum}
use Rattle.arithmetic.specs.Writing.{table, overwrite}
use Rattle.model.specs.RoundSheet.{word, entry_count, entry_at, bytes4, reading_bytes, size_bytes, sheet_bytes}
use Rattle.model.specs.AnswerSheet.{answer_header, answer_bytes}
use Rattle.model.specs.Steps.{readings_of, accepted, accepted_at, numbered, midpoint_of, estimate, mean, round_of, round_by, round_at}
use Rattle.model.specs.Refusals.{first_of, too_short, bad_cabinets, bad_faults, bad_method, bad_window, bad_length, no_room}
use Rattle.model.specs.Refusals.{bad_mark, bad_missing, too_many_faults, bad_spread, settings_checks, spread_checks}
use Rattle.model.specs.Refusals.{entry_checks, settle_checks}
use Rattle.model.specs.Calls.{settle_spread}
use Rattle.sum_guarantee.specs.Witnesses.{SumReached, HalvesEven}

both : SumReached × HalvesEven
unfolding
    count any_below lowest sum table overwrite word entry_count entry_at bytes4 reading_bytes size_bytes sheet_bytes
    answer_header answer_bytes readings_of accepted accepted_at numbered midpoint_of estimate mean round_of round_by round_at first_of
    too_short bad_cabinets bad_faults bad_method bad_window bad_length no_room bad_mark bad_missing too_many_faults bad_spread
    settings_checks spread_checks entry_checks settle_checks settle_spread
both = (
  record {
    grants = refl;
    farthest = refl;
    summed = refl;
    most = refl;
    asked = lit≤ tt;
    allowed = refl;
    passes = lit< tt;
    value = refl;
  },
  record {
    zero = record { grants = refl; summed = refl; value = refl; goes = refl };
    one = record { grants = refl; summed = refl; value = refl; goes = refl };
    below_zero = record { grants = refl; summed = refl; value = refl; goes = refl };
    below = record { grants = refl; summed = refl; value = refl; goes = refl };
  },
)

pub sum-reached : SumReached
sum-reached = both.0

pub halves-even : HalvesEven
halves-even = both.1
