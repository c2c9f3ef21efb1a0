-- The mean of n numbers to the nearest, a half going to the even neighbour: how far it moves with the sum.
--   MeansClose           how far two means are apart whose sums differ by at most q
--   rise, fall           how far the mean comes above and below a whole number by x in the sum, at two numbers w apart
-- Assumes nothing.
use mathlib.Core.Bool.{Bool, true, false, cond}
use mathlib.Core.Logic.{⊎_elim}
use mathlib.Core.Path.{◌≡◌, refl}
use Prim.Native.Nat.{ℕ, suc, ◌+◌, ◌*◌, ◌-◌, ◌%◌, ◌≤◌, ◌<◌}
use native.Mathlib.Nat.{mul_comm, mul_assoc, le-div_iff_mul-le, add-mul-div_right}
use native.Mathlib.Nat.{mul-le-mul_left, mul-le-mul_right, mul-add, mul-suc, add-mul, one-mul}
use native.Mathlib.Omega.{arith}
use borrow.Author.Tests.{leb-true, leb-false, ltb-true, ltb-false, eqb-true}
use lib.Dec.{leb, ltb}
use Rattle.arithmetic.proofs.Bools.{both_ways}
use Rattle.arithmetic.specs.Naturals.{total}
use Rattle.arithmetic.proofs.Sums.{total_mono, total_add, total_scale}
use Rattle.model.specs.Planner.{ceil_div, past_div}
use Rattle.planner_laws.proofs.Ceiling.{ceil_div_covers}
use Rattle.round_laws.specs.Naturals.{even_nat, half_up_nat, half_down_nat, mean_nat}
use Rattle.value_laws.proofs.Means.{odd-one, half_up_nat-mono, half_down_nat-mono, half-down-below, half-up-next}
use Rattle.value_laws.proofs.Means.{half-up-shift, half-down-shift, half-up-zero, up_least, up-most, down-least, down-most}
use Rattle.value_laws.proofs.Means.{mean-even, mean-odd, mean-low, mean-high, mean_mono, mean_nearest}

-- two means a and b, the sum of the one being at most q above that of the other
pub record MeansClose (n a b q : ℕ) : Type 0 where
  pub past : a ≤ b + past_div q n
  -- equal sums have equal means
  pub equal : q ≡ 0 → a ≤ b
  -- without a half the mean moves with every shift
  pub odd : n % 2 ≡ 1 → a ≤ b + ceil_div q n

-- how far above a whole number the mean comes where the sum passes n times that number by x, the half going up; and how
-- far below another that is w less where the sum falls short by x: both halves go outward where the two are even, and so
-- w is
abbrev pub rise : ℕ → ℕ → ℕ
rise n x = half_up_nat n x

unfoldable pub fall : ℕ → ℕ → ℕ → ℕ
fall n w x = cond (even_nat w) (half_up_nat n x) (half_down_nat n x)

module _ (n : ℕ) (some-n : 0 < n) where
  -- an odd n leaves no half
  pub no_half : n % 2 ≡ 1 → (s : ℕ) → half_up_nat n s ≡ half_down_nat n s
  no_half odd s =
      ⊎_elim
      (λ k.
      let i = ltb-true (half_down_nat n s) (half_up_nat n s) k in
      let j = mul-le-mul_left n i in
      absurd (omega (arith, up_least n some-n s, down-most n some-n s, mul-suc n (half_down_nat n s))))
      (λ k. let i = ltb-false (half_down_nat n s) (half_up_nat n s) k in omega (arith, half-down-below n some-n s))
      (both_ways (ltb (half_down_nat n s) (half_up_nat n s)))

  odd_shift : n % 2 ≡ 1 → (s j : ℕ) → mean_nat n (s + j * n) ≤ mean_nat n s + j
  odd_shift odd s j =
      omega (arith, mean-high n some-n (s + j * n), half-up-shift n some-n s j, no_half odd s, mean-low n some-n s)

  -- ---- two means

  past-close : (s u q : ℕ) → s ≤ u + q → mean_nat n s ≤ mean_nat n u + past_div q n
  unfolding past_div
  past-close s u q l =
      let a = mean_nat n s in
      let b = mean_nat n u in
      let d : a * n ≤ q + (b + 1) * n =
      omega (
        arith,
        (mean_nearest n some-n s).below,
        (mean_nearest n some-n u).above,
        mul_comm n a,
        mul_comm n b,
        add-mul b 1 n,
        one-mul n,
      ) in
      omega (arith, (le-div_iff_mul-le some-n).1 d, add-mul-div_right q (b + 1) some-n)

  -- sums that differ by at most q
  pub mean-close : (s u q : ℕ) → s ≤ u + q → MeansClose n (mean_nat n s) (mean_nat n u) q
  mean-close s u q l =
      record {
        past = past-close s u q l;
        equal = λ z. mean_mono n some-n (omega arith);
        odd = λ odd.
            let c = ceil_div_covers n some-n q in
            let k : s ≤ u + ceil_div q n * n = omega arith in
            omega (arith, mean_mono n some-n k, odd_shift odd u (ceil_div q n));
      }

  -- sums of at most x more, and of at most x less, than n times a whole number

  up_by : (s b x : ℕ) → s ≤ n * b + x → half_up_nat n s ≤ b + half_up_nat n x
  up_by s b x l =
      let k : s ≤ x + b * n = omega (arith, mul_comm n b) in
      omega (arith, half_up_nat-mono n some-n k, half-up-shift n some-n x b)

  down_by : (s b x : ℕ) → s ≤ n * b + x → half_down_nat n s ≤ b + half_down_nat n x
  down_by s b x l =
      let k : s ≤ x + b * n = omega (arith, mul_comm n b) in
      omega (arith, half_down_nat-mono n some-n k, half-down-shift n some-n x b)

  -- whole numbers whose n-fold sum passes n times a, less n, are together at least a
  together : (a y z : ℕ) → n * a < n * y + n * z + n → a ≤ y + z
  together a y z l =
      ⊎_elim (leb-true a (y + z))
      (λ f.
      let g = leb-false a (y + z) f in
      let k : n * suc (y + z) ≤ n * a = mul-le-mul_left n g in
      absurd (omega (arith, mul-add n y z, mul-suc n (y + z))))
      (both_ways (leb a (y + z)))

  pub down-short : (s a x : ℕ) → n * a ≤ s + x → a ≤ half_down_nat n s + half_up_nat n x
  down-short s a x l = together a (half_down_nat n s) (half_up_nat n x) (omega (arith, down-most n some-n s, up-most n some-n x))

  pub up-short : (s a x : ℕ) → n * a ≤ s + x → a ≤ half_up_nat n s + half_down_nat n x
  up-short s a x l = together a (half_up_nat n s) (half_down_nat n x) (omega (arith, up-most n some-n s, down-most n some-n x))

  -- two sums that are together n times a: one rounded up and the other down are together at most a
  pub up-sum : (s a x : ℕ) → s + x ≡ n * a → half_up_nat n s + half_down_nat n x ≤ a
  up-sum s a x e =
      ⊎_elim (leb-true (half_up_nat n s + half_down_nat n x) a)
      (λ f.
      let g = leb-false (half_up_nat n s + half_down_nat n x) a f in
      let k : n * suc a ≤ n * (half_up_nat n s + half_down_nat n x) = mul-le-mul_left n g in
      absurd
      (omega (
        arith,
        up_least n some-n s,
        down-least n some-n x,
        mul-add n (half_up_nat n s) (half_down_nat n x),
        mul-suc n a,
      )))
      (both_ways (leb (half_up_nat n s + half_down_nat n x) a))

  pub mean-rise : (s b x : ℕ) → s ≤ n * b + x → mean_nat n s ≤ b + rise n x
  mean-rise s b x l = omega (arith, mean-high n some-n s, up_by s b x l)

  pub mean-fall : (s a x : ℕ) → n * a ≤ s + x → a ≤ mean_nat n s + rise n x
  mean-fall s a x l = omega (arith, mean-low n some-n s, down-short s a x l)

  -- both at once: where w is odd the two halves do not both go outward
  pub mean-apart : (s u a b w x : ℕ) → s ≤ n * b + x → n * a ≤ u + x → b ≤ a + w
      → mean_nat n s ≤ mean_nat n u + (w + (rise n x + fall n w x))
  unfolding fall
  mean-apart s u a b w x more less near = go (even_nat w) refl
    where
      go : (e : Bool) → even_nat w ≡ e → mean_nat n s ≤ mean_nat n u + (w + (half_up_nat n x + cond e (half_up_nat n x) (half_down_nat n x)))
      go true e = omega (arith, mean-rise s b x more, mean-fall u a x less)
      go false e =
          ⊎_elim
          (λ f.
          ⊎_elim
          (λ g. omega (arith, mean-rise s b x more, mean-even n some-n u g, up-short u a x less))
          (λ g. both f g)
          (both_ways (even_nat (half_up_nat n u))))
          (λ f. omega (arith, mean-odd n some-n s f, down_by s b x more, mean-fall u a x less))
          (both_ways (even_nat (half_up_nat n s)))
        where
          both :
              even_nat (half_up_nat n s) ≡ true → even_nat (half_up_nat n u) ≡ false
              → mean_nat n s ≤ mean_nat n u + (w + (half_up_nat n x + half_down_nat n x))
          both f g =
              ⊎_elim (leb-true (mean_nat n s) (mean_nat n u + (w + (half_up_nat n x + half_down_nat n x))))
              (λ k.
              let i = leb-false (mean_nat n s) (mean_nat n u + (w + (half_up_nat n x + half_down_nat n x))) k in
              absurd
              (omega (
                arith,
                eqb-true (half_up_nat n s % 2) 0 f,
                odd-one (half_up_nat n u) g,
                odd-one w e,
                mean-even n some-n s f,
                mean-odd n some-n u g,
                up_by s b x more,
                down-short u a x less,
                up-short u a x less,
                half-up-next n some-n x,
                half-up-next n some-n u,
                half-down-below n some-n u,
              )))
              (both_ways (leb (mean_nat n s) (mean_nat n u + (w + (half_up_nat n x + half_down_nat n x)))))

  -- ---- the limits that document 01 and document 02 write

  pub rise_ceil : (x : ℕ) → rise n x ≤ ceil_div x n
  rise_ceil x =
      let c : x ≤ 0 + ceil_div x n * n = omega (arith, ceil_div_covers n some-n x) in
      omega (arith, half_up_nat-mono n some-n c, half-up-shift n some-n 0 (ceil_div x n), half-up-zero n some-n)

  pub fall-rise : (w x : ℕ) → fall n w x ≤ rise n x
  unfolding fall
  fall-rise w x = go (even_nat w)
    where
      go : (e : Bool) → cond e (half_up_nat n x) (half_down_nat n x) ≤ half_up_nat n x
      go true = omega arith
      go false = half-down-below n some-n x

  pub rise-past : (x : ℕ) → 2 * rise n x ≤ past_div (2 * x) n
  unfolding past_div
  rise-past x =
      let y = half_up_nat n x in
      let d : 2 * y * n ≤ 2 * x + 1 * n = omega (arith, up_least n some-n x, mul_assoc 2 y n, mul_comm n y, one-mul n) in
      omega (arith, (le-div_iff_mul-le some-n).1 d, add-mul-div_right (2 * x) 1 some-n)

  -- where no half is left twice the rise is at most the quotient rounded up
  pub rise-odd : n % 2 ≡ 1 → (x : ℕ) → 2 * rise n x ≤ ceil_div (2 * x) n
  unfolding ceil_div
  rise-odd odd x =
      let y = half_up_nat n x in
      let d : 2 * y * n ≤ 2 * x + (n - 1) = omega (arith, up_least n some-n x, mul_assoc 2 y n, mul_comm n y) in
      (le-div_iff_mul-le some-n).1 d

  -- numbers that stray by d times w from others: their means stray by at most the sum of d times w, over n
  module _ (w : ℕ) (d : ℕ → ℕ) (most : ℕ) (sums : total d n ≤ most) where
    pub total-close :
        (f g : ℕ → ℕ) → ((i : ℕ) → i < n → f i ≤ g i + d i * w) → total f n ≤ total g n + most * w
    total-close f g h =
        let a = total_mono f (λ i. g i + d i * w) n h in
        let b = total_add g (λ i. d i * w) n in
        let c = total_scale d w n in
        let e = mul-le-mul_right w sums in
        omega arith
