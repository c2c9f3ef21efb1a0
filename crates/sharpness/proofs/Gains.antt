-- What the mean makes of the two swayed sums. With n = k + (m+t), k of the values at K and the others δ below, the
-- sum is (m+t)δ short of n times K; with k of the values at K and the others δ above, it is as much more. Where δ is 1
-- the mean is the same with m, not k, of them at K.
-- Assumes nothing.
use mathlib.Core.Bool.{Bool, true, false, cond}
use mathlib.Core.Path.{◌≡◌, refl, ap, ◌∙◌}
use Prim.Native.Nat.{ℕ, ◌+◌, ◌*◌, ◌-◌, ◌/◌, ◌%◌, ◌≤◌, ◌<◌}
use native.Mathlib.Nat.{add-mul, mul-add, mul_comm, add-mul-div_right, div-eq_of_lt}
use native.Mathlib.Omega.{arith}
use borrow.Author.Tests.{eqb-true, eq-eqb}
use Rattle.round_laws.specs.Naturals.{even_nat, half_up_nat, half_down_nat, mean_nat}
use Rattle.value_laws.proofs.Means.{odd-one, half-up-next, half-down-below, half-up-shift, half-down-shift}
use Rattle.value_laws.proofs.Means.{mean-even, mean-odd, mean-low, mean-high}
use Rattle.limit_laws.proofs.Means.{fall, up-sum, up-short, down-short}

-- a sum of more than half of n, and less than n and a half, has the mean 1, wherever a half goes
one-by : (n s c : ℕ) → 0 < n → c ≤ n → n ≤ s + s + c - n → s + s + c < 4 * n → (s + s + c) / (2 * n) ≡ 1
one-by n s c some-n few low high =
    ap (λ (y : ℕ). y / (2 * n)) moved
    ∙ add-mul-div_right (s + s + c - 2 * n) 1 (omega arith)
    ∙ ap (λ (y : ℕ). y + 1) (div-eq_of_lt less)
  where
    less : s + s + c - 2 * n < 2 * n
    less = omega arith

    moved : s + s + c ≡ s + s + c - 2 * n + 1 * (2 * n)
    moved = omega arith

up_one : (n s : ℕ) → 0 < n → n < 2 * s → 2 * s < 3 * n → half_up_nat n s ≡ 1
unfolding half_up_nat
up_one n s some-n low high = one-by n s n some-n (omega arith) (omega arith) (omega arith)

down-one : (n s : ℕ) → 0 < n → n < 2 * s → 2 * s < 3 * n → half_down_nat n s ≡ 1
unfolding half_down_nat
down-one n s some-n low high = one-by n s (n - 1) some-n (omega arith) (omega arith) (omega arith)

-- the mean of a sum that is short of n times B by x
pub low-mean :
    (n s B x w : ℕ) → 0 < n → s + x ≡ n * B → (B + w + half_up_nat n x) % 2 ≡ 0 → mean_nat n s + fall n w x ≡ B
unfolding fall
low-mean n s B x w some-n e even = go (even_nat (half_up_nat n s)) refl (even_nat w) refl
  where
    up_is : half_up_nat n s + half_down_nat n x ≡ B
    up_is = omega (arith, up-sum n some-n s B x e, up-short n some-n s B x (omega (arith, e)))

    turned : x + s ≡ n * B
    turned = omega (arith, e)

    down_is : half_down_nat n s + half_up_nat n x ≡ B
    down_is = omega (arith, up-sum n some-n x B s turned, down-short n some-n s B x (omega (arith, e)))

    go :
        (b : Bool) → even_nat (half_up_nat n s) ≡ b → (c : Bool) → even_nat w ≡ c
        → mean_nat n s + cond c (half_up_nat n x) (half_down_nat n x) ≡ B
    go true eb true ec =
        omega (
          arith,
          mean-even n some-n s eb,
          eqb-true (half_up_nat n s % 2) 0 eb,
          eqb-true (w % 2) 0 ec,
          up_is,
          down_is,
          half-up-next n some-n s,
          half-down-below n some-n s,
        )
    go true eb false ec = omega (arith, mean-even n some-n s eb, up_is)
    go false eb true ec = omega (arith, mean-odd n some-n s eb, down_is)
    go false eb false ec =
        omega (
          arith,
          mean-odd n some-n s eb,
          odd-one (half_up_nat n s) eb,
          odd-one w ec,
          up_is,
          down_is,
          half-up-next n some-n s,
          half-down-below n some-n s,
        )

module _ (n k m t δ K : ℕ) (parts : n ≡ k + (m + t)) where
  split : n * δ ≡ k * δ + (m + t) * δ
  split = ap (λ (y : ℕ). y * δ) parts ∙ add-mul k (m + t) δ

  -- k of the values at K, the others δ below
  pub low_sum : (T L : ℕ) → K ≡ L + δ → T + k * L ≡ n * L + k * K → T + (m + t) * δ ≡ n * K
  low_sum T L e h =
      let a = ap (λ (y : ℕ). k * y) e ∙ mul-add k L δ in
      let b = ap (λ (y : ℕ). n * y) e ∙ mul-add n L δ in
      omega (arith, split)

  -- c of the values at A, the others δ above
  high_sum : (c T A L : ℕ) → L ≡ A + δ → T + c * L ≡ n * L + c * A → T + c * δ ≡ n * A + n * δ
  high_sum c T A L e h =
      let a = ap (λ (y : ℕ). c * y) e ∙ mul-add c A δ in
      let b = ap (λ (y : ℕ). n * y) e ∙ mul-add n A δ in
      omega arith

  module _ (some-n : 0 < n) (T L : ℕ) (e : L ≡ K + δ) where
    -- k of them at K, where the new value is even
    pub high-mean :
        (K + half_up_nat n ((m + t) * δ)) % 2 ≡ 0 → T + k * L ≡ n * L + k * K → mean_nat n T ≡ K + half_up_nat n ((m + t) * δ)
    high-mean even h =
        ap (mean_nat n) moved
        ∙ mean-even n some-n ((m + t) * δ + K * n) (eq-eqb (half_up_nat n ((m + t) * δ + K * n) % 2) 0 still)
        ∙ omega (arith, half-up-shift n some-n ((m + t) * δ) K)
      where
        moved : T ≡ (m + t) * δ + K * n
        moved =
            let a = high_sum k T K L e h in
            omega (arith, split, mul_comm n K)

        still : half_up_nat n ((m + t) * δ + K * n) % 2 ≡ 0
        still = omega (arith, half-up-shift n some-n ((m + t) * δ) K)

    -- m of them, where δ is 1
    pub high-mean-one :
        δ ≡ 1 → 3 * m < n → k ≤ m → m < t → t < n → T + m * L ≡ n * L + m * K
        → mean_nat n T ≡ K + half_up_nat n ((m + t) * δ)
    high-mean-one one planned fewer more less h =
        omega (
          arith,
          ap (half_up_nat n) left,
          ap (half_down_nat n) left,
          half-up-shift n some-n (n - m) K,
          half-down-shift n some-n (n - m) K,
          up_one n (n - m) some-n (omega arith) (omega arith),
          down-one n (n - m) some-n (omega arith) (omega arith),
          mean-low n some-n T,
          mean-high n some-n T,
          ap (half_up_nat n) right,
          up_one n (m + t) some-n (omega arith) (omega arith),
        )
      where
        left : T ≡ n - m + K * n
        left =
            let a = high_sum m T K L e h in
            let c = ap (λ (y : ℕ). m * y) one in
            let d = ap (λ (y : ℕ). n * y) one in
            omega (arith, mul_comm n K)

        right : (m + t) * δ ≡ m + t
        right = omega (arith, ap (λ (y : ℕ). (m + t) * y) one)
