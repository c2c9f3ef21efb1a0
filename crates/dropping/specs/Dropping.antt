-- INNER: no reader needs this page to believe a public promise. The m lowest and the m highest of the readings that a
-- list of marks and a list of numbers hold are dropped, equal ones by index.
--   unfit_for         the lists are not those of at most 64 readings, or none is left
--   trimmed_sum       the sum that a rule takes the mean of: that of the lowest and the highest left, or of all left
--   dropped_sum       the same; none where the lists do not fit
--   dropped_mark      the mark of a reading
--   dropped_marks     the marks; they are left as they are where the lists do not fit
use Rattle.std.specs.Prelude.{Bool, cond, Option, Some, None, ◌||◌, List, ℕ, ◌+◌, ◌*◌, ◌-◌, leb, eqb, length, get_or}
use Rattle.arithmetic.specs.Writing.{table}
use Rattle.model.specs.RoundSheet.{trimmed_midpoint}
use Rattle.round_laws.specs.Naturals.{kept_nat, ranked_nat, kept-total}
use Rattle.held.specs.Held.{value_at, kept_mark, unfit}

abbrev pub unfit_for : ℕ → ℕ → ℕ → Bool
unfit_for marks values m = unfit marks values || leb marks (2 * m)

abbrev pub trimmed_sum : ℕ → ℕ → ℕ → (ℕ → ℕ) → ℕ
trimmed_sum rule n m x =
    cond (eqb rule trimmed_midpoint) (ranked_nat n x m + ranked_nat n x (n - m - 1)) (kept-total n m x)

unfoldable pub dropped_sum : ℕ → ℕ → List ℕ → List ℕ → Option ℕ
dropped_sum rule m marks numbers =
    cond (unfit_for (length marks) (length numbers) m) None (Some (trimmed_sum rule (length marks) m (value_at numbers)))

abbrev pub dropped_mark : ℕ → List ℕ → List ℕ → ℕ → ℕ
dropped_mark m marks numbers r = kept_mark (kept_nat (length marks) m (value_at numbers) r) (get_or marks r 0)

unfoldable pub dropped_marks : ℕ → List ℕ → List ℕ → List ℕ
dropped_marks m marks numbers =
    cond (unfit_for (length marks) (length numbers) m) marks (table (dropped_mark m marks numbers) (length marks))
