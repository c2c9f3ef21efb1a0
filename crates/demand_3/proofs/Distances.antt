-- Distances of whole numbers as differences of naturals, numbers of 32 bits moved up into the naturals, and the mean
-- of a sum above or below 0 as a mean of naturals.
-- Assumes nothing.
use mathlib.Core.Path.{◌≡◌, sym, ap, ap₂, ◌∙◌}
use Prim.Native.Nat.{ℕ, suc, ◌+◌, ◌*◌, ◌-◌, ◌≤◌, ◌<◌}
use native.Mathlib.Omega.{arith}
use lib.IntN.{ℤ, pos, ◌+ℤ◌, ◌-ℤ◌}
use lib.Signed.{mag}
use mir.Syntax.{w32}
use mir.Val.{SFits}
use Rattle.arithmetic.specs.Naturals.{down, up}
use Rattle.arithmetic.proofs.Shift.{down_cong, pos-down, neg_down, add_down, down-up, dist_down}
use Rattle.arithmetic.specs.Words.{two_to31}
use Rattle.model.specs.Steps.{mean}
use Rattle.round_laws.specs.Naturals.{Even, mean_nat}
use Rattle.round_laws.proofs.Shifted.{mean-down}
use Rattle.demand_3.specs.Guarantee.{apart}

-- the distance of two numbers that reach no further than k
pub dist_up : (k : ℕ) (a b : ℤ) → mag a < k → mag b < k → apart a b ≡ up k a - up k b + (up k b - up k a)
dist_up k a b ha hb =
    ap₂ apart (sym (down-up k a ha)) (sym (down-up k b hb)) ∙ dist_down k (up k a) (up k b)

-- a distance as two bounds
pub dist_above : (k d : ℕ) (a b : ℤ) → mag a < k → mag b < k → apart a b ≤ d → up k a ≤ up k b + d
dist_above k d a b ha hb h = let e = dist_up k a b ha hb in omega arith

pub dist_below : (k d : ℕ) (a b : ℤ) → mag a < k → mag b < k → apart a b ≤ d → up k b ≤ up k a + d
dist_below k d a b ha hb h = let e = dist_up k a b ha hb in omega arith

-- two bounds as a distance
pub dist_of : (k d a b : ℕ) → a ≤ b + d → b ≤ a + d → apart (down k a) (down k b) ≤ d
dist_of k d a b h i = let e = dist_down k a b in omega arith

-- how far a number of 32 bits reaches
pub fits-mag : (z : ℤ) → SFits w32 z → mag z < two_to31
fits-mag z h = h.sfits

-- an even number to move by, far enough for numbers of 32 bits and for another
abbrev pub even-far : ℤ → ℕ
even-far z = two_to31 + (suc (mag z) + suc (mag z))

pub far-most : (z : ℤ) → two_to31 ≤ even-far z
far-most z = omega arith

pub far-near : (z : ℤ) → mag z < even-far z
far-near z = omega arith

pub far-twice : (z : ℤ) → Even (even-far z)
far-twice z = record { half = 1_073_741_824 + suc (mag z); twice = omega arith }

-- ---- the mean

pub difference_down : (a b : ℕ) → pos a -ℤ pos b ≡ down b a
difference_down a b =
    ap₂ ◌-ℤ◌ (pos-down a) (pos-down b)
    ∙ ap (λ (z : ℤ). down 0 a +ℤ z) (neg_down 0 b)
    ∙ add_down 0 a b 0
    ∙ down_cong (0 + b) (a + 0) b a (omega arith)

-- as a mean of naturals moved up by an even K
module _ (n K : ℕ) (some-n : 0 < n) (even : Even K) where
  pub mean-above-zero : (e : ℕ) → mean n (pos e) ≡ down K (mean_nat n (n * K + e))
  mean-above-zero e =
      ap (mean n) (pos-down e ∙ down_cong 0 e (n * K) (n * K + e) (omega arith)) ∙ mean-down K n (n * K + e) some-n even

  pub mean-below-zero : (e s : ℕ) → s + e ≡ n * K → mean n (pos 0 -ℤ pos e) ≡ down K (mean_nat n s)
  mean-below-zero e s h =
      ap (mean n) (difference_down 0 e ∙ down_cong e 0 (n * K) s (omega arith)) ∙ mean-down K n s some-n even
