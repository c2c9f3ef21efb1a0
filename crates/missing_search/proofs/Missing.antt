-- Check 9 by the tests that the code makes.
-- Assumes nothing.
use mathlib.Core.Bool.{Bool, true, false, cond, not, ◌||◌}
use mathlib.Core.List.{List}
use mathlib.Core.Option.{none}
use mathlib.Core.Path.{◌≡◌, refl, sym, ◌∙◌}
use Prim.Native.Nat.{ℕ, ◌*◌, ◌≤◌}
use borrow.Author.Tests.{eqb-true, ltb-false, not-false}
use lib.Dec.{ltb, eqb}
use lib.ListN.{length}
use Rattle.arithmetic.specs.Counting.{lowest}
use Rattle.arithmetic.proofs.Bools.{or_left, or_right}
use Rattle.model.specs.RoundSheet.{byte, word}
use Rattle.model.specs.Refusals.{Check, not_zero, bad_missing}
use Rattle.sheet_sizes.specs.Bounds.{most_entries}
use Rattle.missing_search.specs.Missing.{missing_in}

module _ (marks readings : List ℕ) where
  -- what is asked of an entry
  abbrev pub fault : ℕ → Bool
  fault i = not_zero (byte marks i) (word readings (4 * i))

  -- nothing is found where no entry is at fault
  pub none_found : lowest fault (length marks) ≡ none → none ≡ missing_in marks readings
  unfolding missing_in bad_missing
  none_found h = rw h (go (ltb most_entries (length marks) || not (eqb (length readings) (4 * length marks))))
    where
      go : (b : Bool) → ◌≡◌ {A = Check} none (cond b none none)
      go true = refl
      go false = refl

  -- the whole check, by the test of the lengths
  module _
      {b : Bool}
      (test : b ≡ (ltb most_entries (length marks) || not (eqb (length readings) (4 * length marks)))) where
    pub unfit : b ≡ true → none ≡ missing_in marks readings
    unfolding missing_in
    unfit t = rw (sym test ∙ t)

    module _ (f : b ≡ false) where
      pub fit-long : length readings ≡ 4 * length marks
      fit-long =
          eqb-true (length readings) (4 * length marks)
          (not-false (eqb (length readings) (4 * length marks))
          (or_right (ltb most_entries (length marks)) (not (eqb (length readings) (4 * length marks))) (sym test ∙ f)))

      pub fit-few : length marks ≤ most_entries
      fit-few =
          ltb-false most_entries (length marks)
          (or_left (ltb most_entries (length marks)) (not (eqb (length readings) (4 * length marks))) (sym test ∙ f))

      pub missing-searched :
          missing_in marks readings ≡ bad_missing (byte marks) (λ i. word readings (4 * i)) (length marks)
      unfolding missing_in
      missing-searched = rw (sym test ∙ f)
