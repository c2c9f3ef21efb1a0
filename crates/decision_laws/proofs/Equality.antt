-- The tests of equality: of whole numbers, and of copies.
-- Assumes nothing.
use mathlib.Core.Bool.{true, false}
use mathlib.Core.Logic.{◌⊎◌, inl, inr, ⊎_elim}
use mathlib.Core.Path.{◌≡◌, refl, sym, ap, ◌∙◌}
use Prim.Native.Nat.{ℕ}
use native.Mathlib.Omega.{arith}
use borrow.Author.Tests.{eq-eqb, eqb-true}
use lib.IntN.{ℤ, pos, negsuc}
use Rattle.arithmetic.specs.Counting.{eq_z}
use Rattle.arithmetic.proofs.Bools.{both_ways, clash}
use Rattle.model.specs.Ensemble.{Reading, missing, present}
use Rattle.model.specs.Steps.{same}

-- ---- whole numbers

pub eq_z-true : (a b : ℤ) → eq_z a b ≡ true → a ≡ b
eq_z-true (pos a) (pos b) e = ap pos (eqb-true a b e)
eq_z-true (pos a) (negsuc b) e = clash e refl
eq_z-true (negsuc a) (pos b) e = clash e refl
eq_z-true (negsuc a) (negsuc b) e = ap negsuc (eqb-true a b e)

pub eq_z-refl : (a : ℤ) → eq_z a a ≡ true
eq_z-refl (pos a) = eq-eqb a a refl
eq_z-refl (negsuc a) = eq-eqb a a refl

pub eq_eq_z : (a b : ℤ) → a ≡ b → eq_z a b ≡ true
eq_eq_z a b e = ap (eq_z a) (sym e) ∙ eq_z-refl a

pub eq_z-false : (a b : ℤ) → eq_z a b ≡ false → a ≡ b → ⊥
eq_z-false a b e q = clash (eq_eq_z a b q) e

-- two whole numbers are equal or they are not
pub equal_or_not : (a b : ℤ) → (a ≡ b) ⊎ (a ≡ b → ⊥)
equal_or_not a b = ⊎_elim (λ e. inl (eq_z-true a b e)) (λ e. inr (eq_z-false a b e)) (both_ways (eq_z a b))

-- ---- copies

-- a copy passes against the value z exactly where it is present and holds z
pub same_true : (z : ℤ) (c : Reading) → same (present z) c ≡ true → c ≡ present z
same_true z missing e = clash e refl
same_true z (present a) e = ap present (sym (eq_z-true z a e))

pub eq_same : (z : ℤ) (c : Reading) → c ≡ present z → same (present z) c ≡ true
eq_same z c e = ap (same (present z)) e ∙ eq_z-refl z

-- two copies that pass are present, and hold one value
pub same-present : (a b : Reading) → same a b ≡ true → (z : ℤ) × (a ≡ present z) × (b ≡ present z)
same-present missing b e = clash e refl
same-present (present z) b e = (z, refl, same_true z b e)

pub present_inj : {a b : ℤ} → present a ≡ present b → a ≡ b
present_inj e = cc

-- a copy is not both missing and present
pub missing-present {ℓ} : {X : Type ℓ} {z : ℤ} → missing ≡ present z → X
missing-present e = absurd (impossible (cc))
  where
    impossible : ◌≡◌ {A = ℕ} 0 1 → ⊥
    impossible q = omega arith

-- a copy holds one value only
pub same_unique : (a b : ℤ) (c : Reading) → same (present a) c ≡ true → same (present b) c ≡ true → a ≡ b
same_unique a b c p q = present_inj (sym (same_true a c p) ∙ same_true b c q)
