-- Among the indices below n that pass a test, one has the least number and one the greatest.
-- Assumes nothing.
use mathlib.Core.Bool.{Bool, true, false}
use mathlib.Core.Logic.{◌⊎◌, inl, inr, ⊎_elim}
use mathlib.Core.Path.{◌≡◌, refl, ap, ◌∙◌}
use Prim.Native.Nat.{ℕ, zero, suc, ◌+◌, ◌≤◌, ◌<◌}
use native.Mathlib.Nat.{le_trans, le_step, lt-suc_self, not-suc-le-zero, eq-zero-or-pos}
use native.Mathlib.Omega.{arith}
use lib.Dec.{leb}
use borrow.Author.Tests.{leb-true, leb-false}
use Rattle.arithmetic.specs.Counting.{bit, count}
use Rattle.arithmetic.proofs.Bools.{both_ways, clash}
use Rattle.arithmetic.proofs.Counting.{split-last, count-pos}

-- an index below n that passes p, and whose number comes before those of all others in the order R
pub record Extreme (R : ℕ → ℕ → Type 0) (p : ℕ → Bool) (x : ℕ → ℕ) (n : ℕ) : Type 0 where
  pub index : ℕ
  pub in_range : index < n
  pub passes : p index ≡ true
  pub first : (j : ℕ) → j < n → p j ≡ true → R (x index) (x j)

module _ (R : ℕ → ℕ → Type 0) (either : (a b : ℕ) → R a b ⊎ R b a) (trans : (a b c : ℕ) → R a b → R b c → R a c)
    (p : ℕ → Bool) (x : ℕ → ℕ) where
  self : (a : ℕ) → R a a
  self a = ⊎_elim (λ e. e) (λ e. e) (either a a)

  -- one index more, at which p fails
  skip : (n : ℕ) → p n ≡ false → Extreme R p x n → Extreme R p x (suc n)
  skip n e h =
      record {
        index = h.index;
        in_range = le_step h.in_range;
        passes = h.passes;
        first = λ j l t. ⊎_elim (λ b. h.first j b t) (λ s. clash t (ap p s ∙ e)) (split-last j n l);
      }

  -- one index more, whose number comes later
  keep : (n : ℕ) (h : Extreme R p x n) → R (x h.index) (x n) → Extreme R p x (suc n)
  keep n h o =
      record {
        index = h.index;
        in_range = le_step h.in_range;
        passes = h.passes;
        first = λ j l t. ⊎_elim (λ b. h.first j b t) (λ s. rw s o) (split-last j n l);
      }

  -- one index more, whose number comes before all others
  take : (n : ℕ) → p n ≡ true → ((j : ℕ) → j < n → p j ≡ true → R (x n) (x j)) → Extreme R p x (suc n)
  take n e f =
      record {
        index = n;
        in_range = lt-suc_self n;
        passes = e;
        first = λ j l t. ⊎_elim (λ b. f j b t) (λ s. rw s (self (x n))) (split-last j n l);
      }

  extreme : (n : ℕ) → 0 < count p n → Extreme R p x n
  unfolding count
  extreme zero h = absurd (not-suc-le-zero h)
  extreme (suc n) h = go (p n) refl (extreme n) h
    where
      go : (b : Bool) → p n ≡ b → (0 < count p n → Extreme R p x n) → 0 < count p n + bit b → Extreme R p x (suc n)
      go false e ih k = skip n e (ih (omega arith))
      go true e ih k =
          ⊎_elim
          (λ z. take n e (λ j l t. let c = count-pos p n j l t in absurd (omega arith)))
          (λ c.
          let b = ih c in
          ⊎_elim
          (keep n b)
          (λ o. take n e (λ j l t. trans (x n) (x b.index) (x j) o (b.first j l t)))
          (either (x b.index) (x n)))
          (eq-zero-or-pos (count p n))

le-either : (a b : ℕ) → (a ≤ b) ⊎ (b ≤ a)
le-either a b =
    ⊎_elim
    (λ t. inl (leb-true a b t))
    (λ f. let l = leb-false a b f in inr (omega arith))
    (both_ways (leb a b))

abbrev pub LeastOf : (ℕ → Bool) → (ℕ → ℕ) → ℕ → Type 0
LeastOf = Extreme (λ a b. a ≤ b)

abbrev pub GreatestOf : (ℕ → Bool) → (ℕ → ℕ) → ℕ → Type 0
GreatestOf = Extreme (λ a b. b ≤ a)

pub least : (p : ℕ → Bool) (x : ℕ → ℕ) (n : ℕ) → 0 < count p n → LeastOf p x n
least = extreme (λ a b. a ≤ b) le-either (λ a b c f g. le_trans f g)

pub greatest : (p : ℕ → Bool) (x : ℕ → ℕ) (n : ℕ) → 0 < count p n → GreatestOf p x n
greatest = extreme (λ a b. b ≤ a) (λ a b. le-either b a) (λ a b c f g. le_trans g f)
