-- Laws of quotients that the kit does not have.
-- Assumes nothing.
use mathlib.Core.Path.{◌≡◌, ap, ◌∙◌}
use Prim.Native.Nat.{ℕ, suc, ◌+◌, ◌*◌, ◌-◌, ◌/◌, ◌%◌, ◌≤◌, ◌<◌}
use native.Mathlib.Nat.{div-add-mod', mod-lt, le-div_iff_mul-le, div-mul-le_self, le_trans, lt_of_le_of_lt, lt_of_mul-lt-mul_right, add-mul, mul-add-div_right}
use native.Mathlib.Omega.{arith}
use lib.Arith.{digits_div}

pub div_mono : {a b : ℕ} (c : ℕ) → 0 < c → a ≤ b → a / c ≤ b / c
div_mono {a} c h l = (le-div_iff_mul-le h).1 (le_trans (div-mul-le_self a c) l)

-- k divisors fewer
pub div_sub_mul : (a k c : ℕ) → 0 < c → k * c ≤ a → (a - k * c) / c + k ≡ a / c
div_sub_mul a k c h l =
    let e : k * c + (a - k * c) ≡ a = omega arith in
    let d = mul-add-div_right h k (a - k * c) in
    let f = ap (λ (x : ℕ). x / c) e in
    omega arith

-- the quotient below zero: how far the quotient of a lies below k, where k divisors pass a
pub div_from-above : (a k c : ℕ) → 0 < c → a < k * c → (k * c - suc a) / c + suc (a / c) ≡ k
div_from-above a k c h l =
    let q = a / c in
    let r = a % c in
    let e : q * c + r ≡ a = div-add-mod' a c in
    let s : r < c = mod-lt a h in
    let below : q < k = lt_of_mul-lt-mul_right c (lt_of_le_of_lt (div-mul-le_self a c) l) in
    let j = k - suc q in
    let split : (j + suc q) * c ≡ j * c + suc q * c = add-mul j (suc q) c in
    let same : j + suc q ≡ k = omega arith in
    let whole : (j + suc q) * c ≡ k * c = ap (λ (x : ℕ). x * c) same in
    let one : suc q * c ≡ q * c + c = native.Mathlib.Nat.suc-mul q c in
    let rest : k * c - suc a ≡ j * c + (c - suc r) = omega arith in
    let left : c - suc r < c = omega arith in
    let quotient : (k * c - suc a) / c ≡ j = ap (λ (x : ℕ). x / c) rest ∙ digits_div j left in
    omega arith
