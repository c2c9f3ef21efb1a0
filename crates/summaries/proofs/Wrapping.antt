-- Numbers of which 32 bits are kept: a product by halves, and what is left where a product is taken off a sum.
-- Assumes nothing.
use Rattle.std.proofs.Common.{◌≡◌, ℕ, ◌+◌, ◌*◌, ◌/◌, ◌%◌, ◌<◌, ◌≤◌, sym, ap, ◌∙◌, mul_assoc, mul_comm, mul-le-mul, mul-add, arith}
use native.Mathlib.Nat.{div-add-mod, add-mod-mod, add-mul-mod_self_right}
use Rattle.arithmetic.specs.Words.{two_to32}
use Rattle.model.specs.Ensemble.{max_cabinets}

module _ (c low : ℕ) where
  -- low is 2^16 high + rest, and of c high the lower 16 bits count
  pub product_wraps : (c * (low % 65536) + c * (low / 65536) % 65536 * 65536) % two_to32 ≡ c * low % two_to32
  product_wraps =
      sym
      (ap (λ (k : ℕ). k % two_to32) whole
      ∙ add-mul-mod_self_right (c * (low % 65536) + c * (low / 65536) % 65536 * 65536) (c * (low / 65536) / 65536) two_to32)
    where
      whole :
          c * low
          ≡ c * (low % 65536) + c * (low / 65536) % 65536 * 65536 + c * (low / 65536) / 65536 * two_to32
      whole =
          let split = ap (λ (k : ℕ). c * k) (sym (div-add-mod low 65536)) in
          let spread = mul-add c (65536 * (low / 65536)) (low % 65536) in
          let turned : c * (65536 * (low / 65536)) ≡ 65536 * (c * (low / 65536)) =
          sym (mul_assoc c 65536 (low / 65536)) ∙ ap (λ (k : ℕ). k * (low / 65536)) (mul_comm c 65536)
          ∙ mul_assoc 65536 c (low / 65536) in
          omega (arith, div-add-mod (c * (low / 65536)) 65536)

  module _ (few : c ≤ max_cabinets) where
    pub upper_fits : low < two_to32 → c * (low / 65536) < two_to32
    upper_fits l =
        let h : low / 65536 ≤ 65535 = omega arith in
        omega (arith, mul-le-mul {n₂ = max_cabinets} {m₂ = 65535} few h)

    pub lower-fits : c * (low % 65536) < two_to32
    lower-fits =
        let h : low % 65536 ≤ 65535 = omega arith in
        omega (arith, mul-le-mul {n₂ = max_cabinets} {m₂ = 65535} few h)

-- what is left where p, 32 bits of a number, is taken off 32 bits of d and the number
pub taken_off :
    (r p d a s : ℕ) → r < two_to32 → d < two_to32
    → (r + p) % two_to32 ≡ s → p ≡ a % two_to32 → s ≡ (d + a) % two_to32
    → r ≡ d
taken_off r p d a s small fits left wraps total =
    let same : (r + p) % two_to32 ≡ (d + p) % two_to32 =
    left ∙ total ∙ sym (add-mod-mod d a two_to32) ∙ ap (λ (k : ℕ). (d + k) % two_to32) (sym wraps) in
    let low : p < two_to32 = omega (arith, wraps) in
    omega arith
