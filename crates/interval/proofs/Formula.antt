-- The inequalities over naturals, and what meets both: all from the least to the greatest that the code finds.
-- Assumes nothing.
use mathlib.Core.Bool.{Bool, true, false, cond, ◌&&◌}
use mathlib.Core.Logic.{⊎_elim}
use mathlib.Core.Path.{◌≡◌, refl, sym, ap, ap₂, ◌∙◌}
use Prim.Native.Nat.{ℕ, zero, suc, ◌+◌, ◌*◌, ◌-◌, ◌/◌, ◌≤◌, ◌<◌}
use native.Mathlib.Nat.{mul-le-mul, mul-le-mul_right, mul-lt-mul_of_pos_right, mul_comm, add-mul, zero-mul, zero-div, le-div_iff_mul-le}
use native.Mathlib.Nat.{mul-add, mul_assoc, mul_left_comm, mul-pos, sub-add-eq, sub-eq-zero_of_le, pos_of_ne-zero, le_trans}
use native.Mathlib.Omega.{arith}
use borrow.Author.Tests.{le-leb, lt-leb, leb-true, leb-false, eqb-true, eqb-false}
use lib.Dec.{leb, eqb}
use lib.IntN.{ℤ, pos, ◌-ℤ◌, ◌*ℤ◌}
use lib.Signed.{le_z}
use Rattle.arithmetic.specs.Naturals.{down}
use Rattle.arithmetic.proofs.Bools.{both_ways, iff_eq, and_false}
use Rattle.arithmetic.proofs.Shift.{down_pos, sub-pos, sub-pos-down, mul_down, pos-le-down}
use Rattle.model.specs.Planner.{ceil_div}
use Rattle.planner_laws.proofs.Ceiling.{ceil_div_covers, ceil_div_least}
use Rattle.interval.specs.Interval.{max_drift, stays_within, starts_within, meets}
use Rattle.interval.specs.Formula.{coefficient, needed, least_by, greatest_by}

-- two comparisons of naturals are one where each follows from the other
pub leb-same : (a b c d : ℕ) → (a ≤ b → c ≤ d) → (c ≤ d → a ≤ b) → leb a b ≡ leb c d
leb-same a b c d f g =
    iff_eq (leb a b) (leb c d) (λ e. le-leb c d (f (leb-true a b e))) (λ e. le-leb a b (g (leb-true c d e)))

-- ---- the greatest, where the window is not wider than the precision, and where it is

pub greatest-narrow : (δ c r : ℕ) → δ ≤ c → greatest_by δ c r ≡ 0
unfolding greatest_by
greatest-narrow δ c r h =
    ap (λ (x : ℕ). x * (2000000 - r) / (2 * r)) (sub-eq-zero_of_le h)
    ∙ ap (λ (x : ℕ). x / (2 * r)) (zero-mul (2000000 - r))
    ∙ zero-div (2 * r)

pub greatest-wide : (δ c r : ℕ) → 1 ≤ r → r ≤ max_drift → c < δ → 1 ≤ greatest_by δ c r
unfolding greatest_by
greatest-wide δ c r some most h =
    let divisor : 0 < 2 * r = omega arith in
    let one : 1 ≤ δ - c = omega arith in
    let room : 1 * (2000000 - r) ≤ (δ - c) * (2000000 - r) = mul-le-mul_right (2000000 - r) one in
    let dividend : 1 * (2 * r) ≤ (δ - c) * (2000000 - r) = omega arith in
    (le-div_iff_mul-le divisor).1 dividend

-- ---- the inequalities over naturals, for a drift below 2,000,000

pub stays-natural :
    (δ c r R : ℕ) → r ≤ 2000000
    → stays_within δ c r R ≡ leb (2 * r * R + c * (2000000 - r)) (δ * (2000000 - r))
unfolding stays_within
stays-natural δ c r R h =
    ap₂ (λ (a b : ℤ). le_z (pos (2 * r * R)) (a *ℤ b)) (sub-pos δ c) (sub-pos 2000000 r ∙ down_pos r 2000000 h)
    ∙ ap (λ (a : ℤ). le_z (pos (2 * r * R)) a) (mul_down c δ (2000000 - r))
    ∙ pos-le-down (2 * r * R) (c * (2000000 - r)) (δ * (2000000 - r))

module _ (r : ℕ) (most : r ≤ max_drift) where
  pub square_le : r * r ≤ 1000000
  square_le = mul-le-mul {n₂ = 1000} {m₂ = 1000} most most

  pub coefficient_is : 4000000000000 - (4000000 * r + r * r) ≡ coefficient r
  unfolding coefficient
  coefficient_is = sub-add-eq 4000000000000 (4000000 * r) (r * r)

  pub some-coefficient : 0 < coefficient r
  some-coefficient = omega (arith, square_le, coefficient_is)

  pub starts-natural : (c R : ℕ) → starts_within c r R ≡ leb (needed c r) (R * coefficient r)
  unfolding starts_within needed
  starts-natural c R =
      let square = square_le in
      let fits : 4000000 * r + r * r ≤ 4000000000000 = omega arith in
      let factor =
      ap (λ (a : ℤ). a -ℤ pos (r * r)) (sub-pos 4000000000000 (4000000 * r))
      ∙ sub-pos-down (4000000 * r) 4000000000000 (r * r)
      ∙ down_pos (4000000 * r + r * r) 4000000000000 fits
      ∙ ap pos coefficient_is in
      ap (λ (a : ℤ). le_z (pos (2 * c * (2000000 + r) * 1000000)) (pos R *ℤ a)) factor

  -- 4·10^12 - 4·10^6·r - r² + 2,000,000(2,000,000+r) = (2,000,000-r)(2,000,000+r) + 2,000,000(2,000,000-r)
  factors :
      coefficient r + 2000000 * (2000000 + r) ≡ (2000000 - r) * (2000000 + r) + 2000000 * (2000000 - r)
  factors =
      let split = mul-add (2000000 - r) 2000000 r in
      let whole : 2000000 - r + r ≡ 2000000 = omega arith in
      let square : (2000000 - r) * r + r * r ≡ 2000000 * r = sym (add-mul (2000000 - r) r r) ∙ ap (λ (x : ℕ). x * r) whole in
      let bound = square_le in
      let is = coefficient_is in
      omega arith

  -- the second, with every R where the paper has it
  pub starts-raced : (c R : ℕ)
      → starts_within c r R
      ≡ leb
      ((R + c) * (2000000 * (2000000 + r)))
      (R * ((2000000 - r) * (2000000 + r)) + R * (2000000 * (2000000 - r)))
  unfolding needed
  starts-raced c R =
      let multiplied =
      sym (mul-add R (coefficient r) (2000000 * (2000000 + r)))
      ∙ ap (λ (x : ℕ). R * x) factors
      ∙ mul-add R ((2000000 - r) * (2000000 + r)) (2000000 * (2000000 - r)) in
      let both = add-mul R c (2000000 * (2000000 + r)) in
      let behind : c * (2000000 * (2000000 + r)) ≡ 2 * c * (2000000 + r) * 1000000 = behind_is c in
      starts-natural c R
      ∙ leb-same
      (2 * c * (2000000 + r) * 1000000) (R * coefficient r)
      ((R + c) * (2000000 * (2000000 + r)))
      (R * ((2000000 - r) * (2000000 + r)) + R * (2000000 * (2000000 - r)))
      (λ l. omega arith) (λ l. omega arith)
    where
      behind_is : (c : ℕ) → c * (2000000 * (2000000 + r)) ≡ 2 * c * (2000000 + r) * 1000000
      behind_is c =
          let twice = mul_assoc 2 c (2000000 + r) in
          let moved = mul_left_comm c 2000000 (2000000 + r) in
          omega arith

  -- ---- what meets each of them, for an R of at least 1

  pub stays-up-to : (δ c R : ℕ) → 1 ≤ r → 1 ≤ R → stays_within δ c r R ≡ leb R (greatest_by δ c r)
  unfolding greatest_by
  stays-up-to δ c R some one =
      stays-natural δ c r R (omega arith)
      ∙ ⊎_elim
      (λ (e : leb c δ ≡ true). wide (leb-true c δ e))
      (λ (e : leb c δ ≡ false). narrow (leb-false c δ e))
      (both_ways (leb c δ))
    where
      s : ℕ
      s = 2000000 - r

      divisor : 0 < 2 * r
      divisor = omega arith

      swap : R * (2 * r) ≡ 2 * r * R
      swap = mul_comm R (2 * r)

      wide : c ≤ δ → leb (2 * r * R + c * s) (δ * s) ≡ leb R ((δ - c) * s / (2 * r))
      wide h =
          let same : δ - c + c ≡ δ = omega arith in
          let split : (δ - c) * s + c * s ≡ δ * s = sym (add-mul (δ - c) c s) ∙ ap (λ (x : ℕ). x * s) same in
          let e = swap in
          iff_eq (leb (2 * r * R + c * s) (δ * s)) (leb R ((δ - c) * s / (2 * r)))
          (λ t.
          let l = leb-true (2 * r * R + c * s) (δ * s) t in
          le-leb R ((δ - c) * s / (2 * r)) ((le-div_iff_mul-le divisor).1 (omega arith)))
          (λ t.
          let l = (le-div_iff_mul-le divisor).0 (leb-true R ((δ - c) * s / (2 * r)) t) in
          le-leb (2 * r * R + c * s) (δ * s) (omega arith))

      narrow : δ < c → leb (2 * r * R + c * s) (δ * s) ≡ leb R ((δ - c) * s / (2 * r))
      narrow h =
          let below : δ * s < c * s = mul-lt-mul_of_pos_right h (omega arith) in
          let none : (δ - c) * s / (2 * r) ≡ 0 = greatest-narrow δ c r (omega arith) in
          lt-leb (2 * r * R + c * s) (δ * s) (omega arith)
          ∙ sym (lt-leb R ((δ - c) * s / (2 * r)) (omega arith))

  pub some-needed : (c : ℕ) → 0 < c → 0 < needed c r
  unfolding needed
  some-needed c h =
      let twice : 0 < 2 * c = omega arith in
      let rate : 0 < 2000000 + r = omega arith in
      let product = mul-pos twice rate in
      omega arith

  needed-none : (c : ℕ) → c ≡ 0 → needed c r ≡ 0
  unfolding needed
  needed-none c z =
      let none = ap (λ (x : ℕ). 2 * x * (2000000 + r)) z ∙ zero-mul (2000000 + r) in
      omega arith

  least-none : (c : ℕ) → eqb c 0 ≡ true → least_by c r ≡ 1
  unfolding least_by
  least-none c e = rw e refl

  least-some : (c : ℕ) → eqb c 0 ≡ false → least_by c r ≡ ceil_div (needed c r) (coefficient r)
  unfolding least_by
  least-some c e = rw e refl

  -- the least is at least 1
  pub least-positive : (c : ℕ) → 1 ≤ least_by c r
  least-positive c =
      ⊎_elim
      (λ (e : eqb c 0 ≡ true). let one = least-none c e in omega arith)
      (λ (e : eqb c 0 ≡ false). some (eqb-false c 0 e) (least-some c e))
      (both_ways (eqb c 0))
    where
      some : (c ≡ 0 → ⊥) → least_by c r ≡ ceil_div (needed c r) (coefficient r) → 1 ≤ least_by c r
      some h e =
          let need : 0 < needed c r = some-needed c (pos_of_ne-zero h) in
          let covers = ceil_div_covers (coefficient r) some-coefficient (needed c r) in
          let positive : 0 < ceil_div (needed c r) (coefficient r) =
          pos_of_ne-zero
          (λ z.
          let none = ap (λ (x : ℕ). x * coefficient r) z ∙ zero-mul (coefficient r) in
          absurd (nothing covers need none)) in
          omega arith
        where
          nothing : {a b : ℕ} → a ≤ b → 0 < a → b ≡ 0 → ⊥
          nothing l h e = omega arith

  pub starts_from : (c R : ℕ) → 1 ≤ R → starts_within c r R ≡ leb (least_by c r) R
  starts_from c R one =
      starts-natural c R
      ∙ ⊎_elim
      (λ (e : eqb c 0 ≡ true). perfect (eqb-true c 0 e) (least-none c e))
      (λ (e : eqb c 0 ≡ false). some (least-some c e))
      (both_ways (eqb c 0))
    where
      perfect : c ≡ 0 → least_by c r ≡ 1 → leb (needed c r) (R * coefficient r) ≡ leb (least_by c r) R
      perfect z e =
          let none = needed-none c z in
          le-leb (needed c r) (R * coefficient r) (omega arith) ∙ sym (le-leb (least_by c r) R (omega arith))

      some : least_by c r ≡ ceil_div (needed c r) (coefficient r) → leb (needed c r) (R * coefficient r) ≡ leb (least_by c r) R
      some e =
          let K = coefficient r in
          let L = ceil_div (needed c r) K in
          iff_eq (leb (needed c r) (R * K)) (leb L R)
          (λ t. le-leb L R (ceil_div_least K some-coefficient (leb-true (needed c r) (R * K) t)))
          (λ t.
          le-leb (needed c r) (R * K)
          (le_trans (ceil_div_covers K some-coefficient (needed c r)) (mul-le-mul_right K (leb-true L R t))))
          ∙ ap (λ (x : ℕ). leb x R) (sym e)

  -- ---- what meets both

  pub meets-between : (δ c R : ℕ) → 1 ≤ r → meets δ c r R ≡ (leb R (greatest_by δ c r) && leb (least_by c r) R)
  unfolding meets
  meets-between δ c R some =
      ⊎_elim
      (λ (e : leb 1 R ≡ true).
      let one = leb-true 1 R e in
      rw (e, stays-up-to δ c R some one, starts_from c R one) refl)
      (λ (e : leb 1 R ≡ false).
      let low = leb-false 1 R e in
      let least = least-positive c in
      rw e (sym (and_false (leb R (greatest_by δ c r)) (lt-leb (least_by c r) R (omega arith)))))
      (both_ways (leb 1 R))
