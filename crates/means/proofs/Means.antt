-- Half of a divisor left; odd sums; the mean's distance is at most the sum of distances; and the means of some numbers.
-- Assumes nothing.
use mathlib.Core.Bool.{Bool, true, false, not}
use mathlib.Core.Logic.{⊎_elim}
use mathlib.Core.Path.{◌≡◌, refl}
use Prim.Native.Nat.{ℕ, ◌+◌, ◌*◌, ◌/◌, ◌%◌, ◌≤◌, ◌<◌}
use native.Mathlib.Nat.{div-add-mod, mul-le-mul, one-mul, le_refl, pos_of_ne-zero}
use native.Mathlib.Omega.{arith}
use borrow.Author.Tests.{ltb-true, ltb-false, eqb-true, eqb-false, eq-eqb, ne_eqb}
use lib.Dec.{ltb, eqb}
use Rattle.arithmetic.specs.Counting.{bit}
use Rattle.arithmetic.proofs.Bools.{both_ways}
use Rattle.round_laws.specs.Naturals.{mean_nat}
use Rattle.value_laws.proofs.Means.{rounds-up, mean-split}
use Rattle.means.specs.Means.{floor_mean, nearest_mean}

-- a sum is odd where one of its two numbers is
pub odd-sum : (a b : ℕ) → bit (not (eqb (a % 2) (b % 2))) ≡ (a + b) % 2
odd-sum a b = go (eqb (a % 2) (b % 2)) refl
  where
    go : (e : Bool) → eqb (a % 2) (b % 2) ≡ e → bit (not e) ≡ (a + b) % 2
    go true e = let h = eqb-true (a % 2) (b % 2) e in omega arith
    go false e =
        ⊎_elim
        (λ k. let h = ltb-true (a % 2) (b % 2) k in omega arith)
        (λ k.
        let h = ltb-false (a % 2) (b % 2) k in
        ⊎_elim
        (λ j. let i = ltb-true (b % 2) (a % 2) j in omega arith)
        (λ j. let i = ltb-false (b % 2) (a % 2) j in absurd (eqb-false (a % 2) (b % 2) e (omega arith)))
        (both_ways (ltb (b % 2) (a % 2))))
        (both_ways (ltb (a % 2) (b % 2)))

module _ (n s whole : ℕ) (some : 0 < n) where
  -- what is added up is at most the sum: where it is rounded up, something is left
  pub rounded-small : s / n + bit (rounds-up n (s % n) whole) ≤ s
  rounded-small = go (rounds-up n (s % n) whole) refl
    where
      at_least : s / n ≤ n * (s / n)
      at_least = omega (arith, one-mul (s / n), mul-le-mul {n₂ = n} {m₂ = s / n} some (le_refl (s / n)))

      go : (b : Bool) → rounds-up n (s % n) whole ≡ b → s / n + bit b ≤ s
      go true e =
          let h = ltb-true n (2 * (s % n) + whole % 2) e in
          omega (arith, div-add-mod s n, at_least)
      go false e = omega (arith, div-add-mod s n, at_least)

module _ (n s : ℕ) where
  pub floor_none : n ≡ 0 → 0 ≡ floor_mean n s
  unfolding floor_mean
  floor_none e = rw (eq-eqb n 0 e)

  pub nearest_none : (low : ℕ) → n ≡ 0 → 0 ≡ nearest_mean n s low
  unfolding nearest_mean
  nearest_none low e = rw (eq-eqb n 0 e)

  module _ (some : n ≡ 0 → ⊥) where
    pub floor_is : s / n ≡ floor_mean n s
    unfolding floor_mean
    floor_is = rw (ne_eqb n 0 some)

    pub nearest_is : (low : ℕ) → mean_nat n (s + low * n) ≡ low + nearest_mean n s low
    unfolding nearest_mean
    nearest_is low =
        rw (ne_eqb n 0 some) (omega (arith, mean-split n (pos_of_ne-zero some) s low))

    pub nearest_split : (low : ℕ) → s / n + bit (rounds-up n (s % n) (low + s / n)) ≡ nearest_mean n s low
    nearest_split low = omega (arith, nearest_is low, mean-split n (pos_of_ne-zero some) s low)
