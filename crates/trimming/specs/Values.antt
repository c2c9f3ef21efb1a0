-- INNER: no reader needs this page to believe a public promise. The round by rules 2 and 3 of the readings that a list
-- of marks and a list of values hold (Rattle.held.specs.Held).
--   trimmed_in                the round by rule 2 or 3 of the readings
--   trimmed_of                what `trim` gives: how many are left, the estimate and the new value
--   mark_at, trimmed_marks     the mark of a reading; the marks that `trim` leaves
-- What the functions below it give:
--   number_in                 the number by which a reading is ordered
--   summed_by                 how many numbers the sum of a rule is of
use Rattle.std.specs.Prelude.{cond, List, ℕ, eqb, length}
use Rattle.arithmetic.specs.Naturals.{up}
use Rattle.arithmetic.specs.Writing.{table}
use Rattle.arithmetic.specs.Words.{two_to31}
use Rattle.model.specs.RoundSheet.{trimmed_midpoint}
use Rattle.model.specs.Steps.{Round, mark_of, is_kept, kept_count, trimmed_value, trimmed_with}
use Rattle.held.specs.Held.{readings_in, present_in, value_at}
use Rattle.estimates.specs.Values.{nothing}
use Rattle.estimates.specs.declared.Estimated.{Estimated}
use Rattle.dropping.specs.Dropping.{unfit_for}

abbrev pub trimmed_in : ℕ → ℕ → List ℕ → List ℕ → Round
trimmed_in rule m marks values =
    trimmed_with (length marks) m (readings_in marks values)
    (trimmed_value rule (length marks) m (readings_in marks values))

-- the estimate and the new value are moved up by 2^31
unfoldable pub trimmed_of : ℕ → ℕ → List ℕ → List ℕ → Estimated
trimmed_of rule m marks values =
    cond (unfit_for (length marks) (length values) m) nothing
    (record {
      count = kept_count (length marks) m;
      estimate = up two_to31 (trimmed_in rule m marks values).estimate;
      value = up two_to31 (trimmed_in rule m marks values).value;
    })

abbrev pub mark_at : ℕ → List ℕ → List ℕ → ℕ → ℕ
mark_at m marks values r = mark_of (is_kept (length marks) m (readings_in marks values) r) (readings_in marks values r)

-- the marks are left as they are where the lists do not fit
unfoldable pub trimmed_marks : ℕ → List ℕ → List ℕ → List ℕ
trimmed_marks m marks values =
    cond (unfit_for (length marks) (length values) m) marks (table (mark_at m marks values) (length marks))

-- ---- the functions below it

abbrev pub number_in : List ℕ → List ℕ → ℕ → ℕ
number_in marks values r = cond (present_in marks r) (value_at values r) two_to31

-- by the one rule the lowest and the highest, by the other all that are left
abbrev pub summed_by : ℕ → ℕ → ℕ
summed_by rule left = cond (eqb rule trimmed_midpoint) 2 left
