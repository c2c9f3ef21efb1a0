-- Rows that fit, and the counts of their copies.
-- Assumes nothing.
use mathlib.Core.Bool.{Bool, ◌&&◌}
use mathlib.Core.List.{List}
use mathlib.Core.Path.{◌≡◌, ap, ◌∙◌}
use Prim.Native.Nat.{ℕ, ◌*◌, ◌≤◌}
use borrow.Author.Tests.{le-ltb, eq-eqb}
use lib.Dec.{eqb}
use lib.ListN.{length, get_or}
use Rattle.arithmetic.specs.Counting.{count}
use Rattle.model.specs.Ensemble.{max_cabinets}
use Rattle.copies.specs.Copies.{copy_bits, holds_copy, copies_in}

module _ (marks row : List ℕ) where
  -- the test that the code makes of the copy t
  pub holds_test :
      (c v t : ℕ) {b : Bool} → v ≡ copy_bits row t → b ≡ (eqb (get_or marks t 0) 1 && eqb c v)
      → b ≡ holds_copy marks row c t
  holds_test c v t e f = f ∙ ap (λ (x : ℕ). eqb (get_or marks t 0) 1 && eqb c x) e

  -- a row with four bytes of each copy
  module _ (sized : length row ≡ 4 * length marks) where
    pub copies-fit :
        (v : ℕ) → length marks ≤ max_cabinets → copies_in marks row v ≡ count (holds_copy marks row v) (length marks)
    unfolding copies_in
    copies-fit v few =
        rw (le-ltb max_cabinets (length marks) few, eq-eqb (length row) (4 * length marks) sized)
