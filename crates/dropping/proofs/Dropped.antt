-- What is dropped of the readings that two lists hold, by whether the lists fit, and by a test that says which are left.
-- Assumes nothing.
use mathlib.Core.Bool.{Bool, true, false}
use mathlib.Core.List.{List}
use mathlib.Core.Path.{◌≡◌, ap}
use Prim.Native.Nat.{ℕ, ◌*◌, ◌≤◌, ◌<◌}
use Rattle.std.specs.Prelude.{Some, None}
use borrow.Author.Tests.{leb-false}
use lib.ListN.{length, get_or}
use Rattle.arithmetic.specs.Writing.{table}
use Rattle.arithmetic.proofs.Bools.{or_left, or_right}
use Rattle.arithmetic.proofs.Writing.{table_ext}
use Rattle.model.specs.Ensemble.{max_cabinets}
use Rattle.round_laws.specs.Naturals.{kept_nat}
use Rattle.held.specs.Held.{value_at, kept_mark, unfit}
use Rattle.held.proofs.Held.{fit-few, fit-even}
use Rattle.dropping.specs.Dropping.{unfit_for, trimmed_sum, dropped_sum, dropped_mark, dropped_marks}

module _ (m : ℕ) (marks values : List ℕ) (fit : unfit_for (length marks) (length values) m ≡ false) where
  pub fits-few : length marks ≤ max_cabinets
  fits-few = fit-few (length marks) (length values) (or_left (unfit (length marks) (length values)) _ fit)

  pub fits-even : length values ≡ length marks
  fits-even = fit-even (length marks) (length values) (or_left (unfit (length marks) (length values)) _ fit)

  pub some_left : 2 * m < length marks
  some_left = leb-false (length marks) (2 * m) (or_right (unfit (length marks) (length values)) _ fit)

module _ (m : ℕ) (marks numbers : List ℕ) where
  pub sum-none : (rule : ℕ) → unfit_for (length marks) (length numbers) m ≡ true → None ≡ dropped_sum rule m marks numbers
  unfolding dropped_sum
  sum-none rule e = rw e

  pub marks-none : unfit_for (length marks) (length numbers) m ≡ true → marks ≡ dropped_marks m marks numbers
  unfolding dropped_marks
  marks-none e = rw e

  module _ (fit : unfit_for (length marks) (length numbers) m ≡ false) where
    pub sum-some : (rule : ℕ) → Some (trimmed_sum rule (length marks) m (value_at numbers)) ≡ dropped_sum rule m marks numbers
    unfolding dropped_sum
    sum-some rule = rw fit

    pub marks-some : table (dropped_mark m marks numbers) (length marks) ≡ dropped_marks m marks numbers
    unfolding dropped_marks
    marks-some = rw fit

  -- a test says which are left
  module _ (test : ℕ → Bool) (same : (r : ℕ) → r < length marks → test r ≡ kept_nat (length marks) m (value_at numbers) r)
    where
      pub marks-left :
          table (λ r. kept_mark (test r) (get_or marks r 0)) (length marks) ≡ table (dropped_mark m marks numbers) (length marks)
      marks-left =
          table_ext (λ r. kept_mark (test r) (get_or marks r 0)) (dropped_mark m marks numbers) (length marks)
          (λ r l. ap (λ (b : Bool). kept_mark b (get_or marks r 0)) (same r l))
