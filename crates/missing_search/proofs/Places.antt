-- The lowest entry at fault as a number: entry by entry it is the lower of two places, and the number past every entry
-- says that there is none.
-- Assumes nothing.
use mathlib.Core.Bool.{Bool, true, false, cond}
use mathlib.Core.Option.{Option, none, some}
use mathlib.Core.Logic.{⊎_elim}
use mathlib.Core.Path.{◌≡◌, refl, sym, ap, ap₂, ◌∙◌}
use Prim.Native.Nat.{ℕ, ◌+◌, ◌≤◌, ◌<◌, min}
use native.Mathlib.Numerals.{add-one}
use native.Mathlib.Omega.{arith}
use Rattle.arithmetic.specs.Counting.{or_index, lowest}
use Rattle.arithmetic.proofs.Counting.{lowest-cases, lowest-found}
use Rattle.sheet_sizes.specs.Bounds.{most_entries}
use Rattle.missing_search.specs.Places.{place_of}

lower-place :
    (o : Option ℕ) (b : Bool) (n : ℕ) → n ≤ most_entries → ((i : ℕ) → o ≡ some i → i < n)
    → min (place_of o) (cond b n most_entries) ≡ place_of (or_index o b n)
lower-place (some i) true n few below = let l = below i refl in omega arith
lower-place (some i) false n few below = let l = below i refl in omega arith
lower-place none true n few below = omega arith
lower-place none false n few below = omega arith

module _ (p : ℕ → Bool) where
  pub place_none : most_entries ≡ place_of (lowest p 0)
  unfolding lowest
  place_none = refl

  pub place-next :
      (n : ℕ) → n ≤ most_entries → {place here : ℕ} → place ≡ place_of (lowest p n) → here ≡ cond (p n) n most_entries
      → min place here ≡ place_of (lowest p (n + 1))
  unfolding lowest
  place-next n few a b =
      ap₂ min a b
      ∙ lower-place (lowest p n) (p n) n few (λ i e. (lowest-found p n i e).in_range)
      ∙ ap (λ (k : ℕ). place_of (lowest p k)) (sym (add-one n))

  module _ (n place : ℕ) (few : n ≤ most_entries) (said : place ≡ place_of (lowest p n)) where
    pub nowhere : place ≡ most_entries → lowest p n ≡ none
    nowhere h =
        ⊎_elim
        (λ w.
        let at : place ≡ w.0 = said ∙ ap place_of w.1 in
        let inside = w.2.in_range in
        absurd (omega arith))
        (λ w. w.0)
        (lowest-cases p n)

    pub somewhere : (place ≡ most_entries → ⊥) → lowest p n ≡ some place
    somewhere h =
        ⊎_elim
        (λ w. w.1 ∙ ap some (sym (said ∙ ap place_of w.1)))
        (λ w. absurd (h (said ∙ ap place_of w.0)))
        (lowest-cases p n)
