-- A search for the lowest index that passes a test, index by index; and what holds of the indices passed and of the
-- next.
-- Assumes nothing.
use mathlib.Core.Bool.{Bool, true, false}
use mathlib.Core.Option.{Option, none, some}
use mathlib.Core.Path.{◌≡◌, refl, sym, ap, ◌∙◌}
use Prim.Native.Nat.{ℕ, ◌+◌, ◌≤◌, ◌<◌}
use native.Mathlib.Nat.{le_antisymm}
use native.Mathlib.Numerals.{add-one}
use native.Mathlib.Omega.{arith}
use borrow.Author.Tests.{ltb-true, ltb-false}
use lib.Dec.{ltb}
use Rattle.arithmetic.specs.Counting.{lowest}
use Rattle.arithmetic.proofs.Counting.{lowest-some, lowest-missed}
use Rattle.model.specs.Refusals.{refusal, at_entry}

module _ (p : ℕ → Bool) where
  pub search_none : lowest p 0 ≡ none
  unfolding lowest
  search_none = refl

  pub search_more : (e : ℕ) → lowest p e ≡ none → p e ≡ false → lowest p (e + 1) ≡ none
  unfolding lowest
  search_more e h f = rw (add-one, h, f)

  -- a check by its lowest entry at fault, by where the search for it ends
  pub check_found :
      (number n e : ℕ) → e < n → lowest p e ≡ none → p e ≡ true → some (refusal number e) ≡ at_entry (lowest p n) number
  check_found number n e l h t =
      sym (ap (λ (o : Option ℕ). at_entry o number) (lowest-some p n e l t (lowest-missed p e h)))

  pub check_ended : (number n e : ℕ) → e ≤ n → n ≤ e → lowest p e ≡ none → none ≡ at_entry (lowest p n) number
  check_ended number n e a b h =
      sym (ap (λ (o : Option ℕ). at_entry o number) (ap (lowest p) (le_antisymm b a) ∙ h))

-- the first n numbers and the next one
pub first_or_next : (P : ℕ → Type 0) (n : ℕ) → ((e : ℕ) → e < n → P e) → P n → (e : ℕ) → e < n + 1 → P e
first_or_next P n below next e l = go (ltb e n) refl
  where
    go : (b : Bool) → ltb e n ≡ b → P e
    go true t = below e (ltb-true e n t)
    go false t = let same : e ≡ n = omega (arith, ltb-false e n t) in rw same next
