-- The paper's two inequalities over fractions are those of Interval.antt over whole numbers. Each fraction is worked out,
-- and the comparison is then one of products of naturals.
-- Assumes nothing.
use mathlib.Core.Bool.{true}
use mathlib.Core.Path.{◌≡◌, refl, sym, ap, ap₂, ◌∙◌, subst⁻¹}
use Prim.Native.Nat.{ℕ, ◌+◌, ◌*◌, ◌-◌, ◌≤◌, ◌<◌}
use native.Mathlib.Nat.{mul-one, one-mul, mul_comm, mul_assoc, mul_left_comm, mul-pos}
use native.Mathlib.Omega.{arith}
use borrow.Author.Tests.{lt-ltb}
use lib.Dec.{leb, ltb}
use lib.IntN.{ℤ, pos, nat_abs, ◌+ℤ◌, ◌-ℤ◌, ◌*ℤ◌}
use lib.Signed.{le_z}
use Rattle.arithmetic.specs.Naturals.{down}
use Rattle.arithmetic.proofs.Shift.{down_pos, sub-pos, mul_down, pos-le-down, down-le-pos}
use Rattle.interval.specs.Interval.{max_drift, stays_within, starts_within}
use Rattle.interval.specs.Fractions.{Fraction, whole, plus, minus, times, over, at_most, IsPositive, drift_of, two}
use Rattle.interval.specs.Fractions.{longest, behind, apart, paper_first, paper_second, paper_drift}
use Rattle.interval.specs.Fractions.{Quotients, Alike, PaperInequalities}
use Rattle.interval.proofs.Formula.{leb-same, stays-natural, starts-raced}

abbrev million : ℕ
million = 1000000

abbrev of : ℤ → ℕ → Fraction
of t b = record { top = t; bottom = b }

module _ (r : ℕ) (some : 1 ≤ r) (most : r ≤ max_drift) where
  abbrev slow : ℕ
  slow = 2000000 - r

  abbrev fast : ℕ
  fast = 2000000 + r

  -- ---- 2-ρ, 2+ρ and 2ρ

  slow_is : minus two (drift_of r) ≡ of (pos slow) million
  unfolding minus whole drift_of
  slow_is =
      ap (λ (z : ℤ). of z million)
      (ap (λ (x : ℕ). pos 2000000 -ℤ pos x) (mul-one r) ∙ sub-pos 2000000 r ∙ down_pos r 2000000 (omega arith))

  fast_is : plus two (drift_of r) ≡ of (pos fast) million
  unfolding plus whole drift_of
  fast_is = ap (λ (x : ℕ). of (pos (2000000 + x)) million) (mul-one r)

  twice_is : times two (drift_of r) ≡ of (pos (2 * r)) million
  unfolding times whole drift_of
  twice_is = refl

  -- ---- the first inequality

  module _ (δ c R : ℕ) where
    abbrev far : ℕ
    far = δ * slow

    abbrev near : ℕ
    near = c * slow

    longest_is : longest δ c r ≡ of (down (near * million) (far * million)) (million * (2 * r))
    unfolding longest over times minus whole
    longest_is =
        ap₂ (λ (a b : Fraction). over (times (minus (whole δ) (whole c)) a) b) slow_is twice_is
        ∙ ap (λ (z : ℤ). of z (million * (2 * r)))
        (ap (λ (z : ℤ). z *ℤ pos slow *ℤ pos million)
        (ap₂ (λ (x y : ℕ). pos x -ℤ pos y) (mul-one δ) (mul-one c) ∙ sub-pos δ c)
        ∙ ap (λ (z : ℤ). z *ℤ pos million) (mul_down c δ slow)
        ∙ mul_down near far million)

    scaled : R * (million * (2 * r)) ≡ 2 * r * R * million
    scaled = mul_left_comm R million (2 * r) ∙ ap (λ (x : ℕ). million * x) (mul_comm R (2 * r)) ∙ mul_comm million (2 * r * R)

    first-same : paper_first δ c r R ≡ stays_within δ c r R
    unfolding at_most whole
    first-same =
        ap (λ (f : Fraction). at_most (whole R) f) longest_is
        ∙ ap (λ (z : ℤ). le_z (pos (R * (million * (2 * r)))) z) (mul_down (near * million) (far * million) 1)
        ∙ pos-le-down (R * (million * (2 * r))) (near * million * 1) (far * million * 1)
        ∙ (let e = scaled in
        leb-same (R * (million * (2 * r)) + near * million * 1) (far * million * 1) (2 * r * R + near) far
        (λ l. omega arith) (λ l. omega arith))
        ∙ sym (stays-natural δ c r R (omega arith))

    -- as the paper first writes it
    apart_is : apart c r R ≡ of (pos (c * (million * slow) + 2 * R * r * million)) (million * slow)
    unfolding apart plus over times whole drift_of
    apart_is =
        ap (λ (f : Fraction). plus (whole c) (over (times (times two (whole R)) (drift_of r)) f)) slow_is
        ∙ ap₂ (λ (x y : ℕ). of (pos (c * (million * slow) + x)) y) (mul-one (2 * R * r * million)) (one-mul (million * slow))

    drifting-same : paper_drift δ c r R ≡ stays_within δ c r R
    unfolding at_most whole
    drifting-same =
        ap (λ (f : Fraction). at_most f (whole δ)) apart_is
        ∙ (let drifted = mul_assoc 2 R r ∙ ap (λ (x : ℕ). 2 * x) (mul_comm R r) ∙ sym (mul_assoc 2 r R) in
        let held = mul_left_comm c million slow in
        let wide = mul_left_comm δ million slow in
        leb-same ((c * (million * slow) + 2 * R * r * million) * 1) (δ * (million * slow)) (2 * r * R + near) far
        (λ l. omega arith) (λ l. omega arith))
        ∙ sym (stays-natural δ c r R (omega arith))

  -- ---- the second inequality

  module _ (c R : ℕ) where
    behind_is : behind c r R ≡ of (down (2 * R * million * slow) (2 * (R + c) * million * fast)) (slow * fast)
    unfolding behind minus over times plus whole
    behind_is =
        ap₂
        (λ (a b : Fraction). minus (over (times two (plus (whole R) (whole c))) a) (over (times two (whole R)) b))
        slow_is fast_is
        ∙ ap₂ of
        (ap₂ (λ (x y : ℕ). pos (2 * x * million * y) -ℤ pos (2 * R * million * (1 * slow)))
        (ap₂ (λ (x y : ℕ). x + y) (mul-one R) (mul-one c)) (one-mul fast)
        ∙ ap (λ (x : ℕ). pos (2 * (R + c) * million * fast) -ℤ pos (2 * R * million * x)) (one-mul slow)
        ∙ sub-pos (2 * (R + c) * million * fast) (2 * R * million * slow))
        (ap₂ (λ (x y : ℕ). x * y) (one-mul slow) (one-mul fast))

    second-same : paper_second c r R ≡ starts_within c r R
    unfolding at_most whole
    second-same =
        ap (λ (f : Fraction). at_most f (whole R)) behind_is
        ∙ ap (λ (z : ℤ). le_z z (pos (R * (slow * fast)))) (mul_down (2 * R * million * slow) (2 * (R + c) * million * fast) 1)
        ∙ down-le-pos (2 * R * million * slow * 1) (2 * (R + c) * million * fast * 1) (R * (slow * fast))
        ∙ (let slower = doubled R slow in
        let faster = doubled (R + c) fast in
        leb-same
        (2 * (R + c) * million * fast * 1) (R * (slow * fast) + 2 * R * million * slow * 1)
        ((R + c) * (2000000 * fast)) (R * (slow * fast) + R * (2000000 * slow))
        (λ l. omega arith) (λ l. omega arith))
        ∙ sym (starts-raced r most c R)
      where
        doubled : (x rate : ℕ) → 2 * x * million * rate ≡ x * (2000000 * rate)
        doubled x rate = ap (λ (y : ℕ). y * rate) (go x) ∙ mul_assoc x 2000000 rate
          where
            go : (x : ℕ) → 2 * x * million ≡ x * 2000000
            go x = omega arith

  -- ---- what is divided by, and what stands below a line

  some-slow : 0 < slow
  some-slow = omega arith

  some-fast : 0 < fast
  some-fast = omega arith

  above : (x : ℕ) → 0 < x → IsPositive (of (pos x) million)
  above x h = (lt-ltb 0 x h, omega arith)

  quotients-of : (δ c R : ℕ) → Quotients δ c r R
  quotients-of δ c R =
      record {
        twice_drift = subst⁻¹ IsPositive twice_is (above (2 * r) (omega arith));
        slowest = subst⁻¹ IsPositive slow_is (above slow some-slow);
        fastest = subst⁻¹ IsPositive fast_is (above fast some-fast);
        longest_bottom = subst⁻¹ (λ (f : Fraction). 0 < f.bottom) (longest_is δ c R) (omega arith);
        behind_bottom = subst⁻¹ (λ (f : Fraction). 0 < f.bottom) (behind_is c R) (mul-pos some-slow some-fast);
        apart_bottom = subst⁻¹ (λ (f : Fraction). 0 < f.bottom) (apart_is δ c R) (omega arith);
      }

pub paper_inequalities : PaperInequalities
paper_inequalities δ c r R some most =
    record {
      quotients = quotients-of r some most δ c R;
      first = first-same r some most δ c R;
      second = second-same r some most c R;
      drifting = drifting-same r some most δ c R;
    }
