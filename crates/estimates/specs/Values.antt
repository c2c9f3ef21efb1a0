-- INNER: no reader needs this page to believe a public promise. Document 01's estimate and mean of the readings that
-- two lists hold: a list of marks, and a list of naturals that are ticks moved up by 2^31.
--   estimate_of_held        document 01's estimate of the present readings
--   mean_in                document 01's mean of the readings, the missing ones replaced
--   nothing, evaluated_of  what `evaluate` gives: all 0 where none is present, two lie farther apart than twice the
--                         widest span, there are more than 64 readings, or the lists are not equally long
-- What the function below it gives, over naturals:
--   estimate_at            the estimate of the present readings
use Rattle.std.specs.Prelude.{cond, List, ℕ, ℤ, length}
use Rattle.arithmetic.specs.Counting.{sum}
use Rattle.arithmetic.specs.Naturals.{up}
use Rattle.arithmetic.specs.Words.{two_to31}
use Rattle.model.specs.Steps.{estimate, mean, used_value}
use Rattle.round_laws.specs.Naturals.{estimate_nat}
use Rattle.held.specs.Held.{present_in, value_at, readings_in}
use Rattle.summaries.specs.Summaries.{present_count, ungathered}
use Rattle.estimates.specs.declared.Estimated.{Estimated}

-- "Estimate, over accepted readings only": those that are present in the lists
unfoldable pub estimate_of_held : ℕ → List ℕ → List ℕ → ℤ
estimate_of_held kind marks values = estimate kind (present_in marks) (length marks) (readings_in marks values)

-- "Missing or unaccepted readings are replaced by the estimate. The new value is the mean of N used values"
unfoldable pub mean_in : List ℕ → List ℕ → ℤ → ℤ
mean_in marks values e =
    mean (length marks) (sum (used_value (present_in marks) (readings_in marks values) e) (length marks))

abbrev pub nothing : Estimated
nothing = record { count = 0; estimate = 0; value = 0 }

-- the estimate and the mean are moved up by 2^31
unfoldable pub evaluated_of : ℕ → List ℕ → List ℕ → Estimated
evaluated_of kind marks values =
    cond (ungathered marks values) nothing
    (record {
      count = present_count marks;
      estimate = up two_to31 (estimate_of_held kind marks values);
      value = up two_to31 (mean_in marks values (estimate_of_held kind marks values));
    })

-- ---- the function below it

unfoldable pub estimate_at : ℕ → List ℕ → List ℕ → ℕ
estimate_at kind marks values = estimate_nat two_to31 kind (present_in marks) (length marks) (value_at values)
