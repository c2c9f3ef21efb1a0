-- The mean of n numbers to the nearest, a half going to the even neighbour. It is one of the two means whose halves all
-- go up, or all go down, which are the same where there is no half. It never falls, moves with a shift of its sum by n
-- times an even number, and lies between any bounds of the numbers. It is the whole part of their quotient, and 1 more by
-- the remainder.
--   Nearest       what it keeps
--   rounds-up     whether it is 1 more: by what is left of n, and by the whole part
-- Assumes nothing.
use mathlib.Core.Bool.{Bool, true, false, cond}
use mathlib.Core.Logic.{⊎_elim}
use mathlib.Core.Path.{◌≡◌, refl, ap, ◌∙◌}
use Prim.Native.Nat.{ℕ, suc, ◌+◌, ◌*◌, ◌-◌, ◌/◌, ◌%◌, ◌≤◌, ◌<◌}
use native.Mathlib.Nat.{add-mul-div_right, div-eq_of_lt, div-add-mod, mod-lt, div-eq_of_lt-le, add-mul, mul_comm, mul_assoc}
use native.Mathlib.Nat.{div-mul-le_self, lt-div-mul-add, mul-le-mul_left}
use native.Mathlib.Omega.{arith}
use borrow.Author.Tests.{leb-true, leb-false, ltb-true, ltb-false, eqb-true, eqb-false}
use lib.Dec.{leb, ltb, eqb}
use Rattle.arithmetic.specs.Counting.{bit}
use Rattle.arithmetic.proofs.Bools.{both_ways}
use Rattle.arithmetic.proofs.Division.{div_mono}
use Rattle.arithmetic.specs.Naturals.{total}
use Rattle.arithmetic.proofs.Sums.{total_mono, total_const}
use Rattle.round_laws.specs.Naturals.{Even, even_nat, half_up_nat, half_down_nat, mean_nat}

-- an even number more is as even
even_add : (x j : ℕ) → Even j → even_nat (x + j) ≡ even_nat x
even_add x j e =
    let t = e.twice in
    let same : (x + j) % 2 ≡ x % 2 = omega arith in
    ap (λ (y : ℕ). eqb y 0) same

pub odd-one : (x : ℕ) → even_nat x ≡ false → x % 2 ≡ 1
odd-one x e =
    ⊎_elim
    (λ k. let i = ltb-true 0 (x % 2) k in omega arith)
    (λ k. let i = ltb-false 0 (x % 2) k in absurd (eqb-false (x % 2) 0 e (omega arith)))
    (both_ways (ltb 0 (x % 2)))

-- y is a nearest whole number to s / n, and even where s / n is a half
pub record Nearest (n s y : ℕ) : Type 0 where
  pub below : 2 * (n * y) ≤ 2 * s + n
  pub above : 2 * s ≤ 2 * (n * y) + n
  pub even-below : 2 * (n * y) ≡ 2 * s + n → y % 2 ≡ 0
  pub even-above : 2 * s ≡ 2 * (n * y) + n → y % 2 ≡ 0

-- more than half of n is left, or half and the whole part is odd
abbrev pub rounds-up : ℕ → ℕ → ℕ → Bool
rounds-up n rest whole = ltb n (2 * rest + whole % 2)

module _ (n : ℕ) (some-n : 0 < n) where
  twice-pos : 0 < 2 * n
  twice-pos = omega arith

  -- ---- halves that all go up, or all down

  pub half_up_nat-mono : {a b : ℕ} → a ≤ b → half_up_nat n a ≤ half_up_nat n b
  unfolding half_up_nat
  half_up_nat-mono l = div_mono (2 * n) twice-pos (omega arith)

  pub half_down_nat-mono : {a b : ℕ} → a ≤ b → half_down_nat n a ≤ half_down_nat n b
  unfolding half_down_nat
  half_down_nat-mono l = div_mono (2 * n) twice-pos (omega arith)

  pub half-down-below : (s : ℕ) → half_down_nat n s ≤ half_up_nat n s
  unfolding half_up_nat half_down_nat
  half-down-below s = div_mono (2 * n) twice-pos (omega arith)

  shift_by : (s c j : ℕ) → (s + j * n + (s + j * n) + c) / (2 * n) ≡ (s + s + c) / (2 * n) + j
  shift_by s c j = ap (λ (y : ℕ). y / (2 * n)) moved ∙ add-mul-div_right (s + s + c) j twice-pos
    where
      moved : s + j * n + (s + j * n) + c ≡ s + s + c + j * (2 * n)
      moved =
          let a = mul_comm j (2 * n) in
          let b = mul_assoc 2 n j in
          let d = mul_comm n j in
          omega arith

  pub half-up-shift : (s j : ℕ) → half_up_nat n (s + j * n) ≡ half_up_nat n s + j
  unfolding half_up_nat
  half-up-shift s j = shift_by s n j

  pub half-down-shift : (s j : ℕ) → half_down_nat n (s + j * n) ≡ half_down_nat n s + j
  unfolding half_down_nat
  half-down-shift s j = shift_by s (n - 1) j

  pub half-up-next : (s : ℕ) → half_up_nat n s ≤ half_down_nat n s + 1
  unfolding half_up_nat half_down_nat
  half-up-next s =
      let l : s + s + n ≤ s + s + (n - 1) + 1 * (2 * n) = omega arith in
      omega (arith, div_mono (2 * n) twice-pos l, add-mul-div_right (s + s + (n - 1)) 1 twice-pos)

  pub half-up-zero : half_up_nat n 0 ≡ 0
  unfolding half_up_nat
  half-up-zero = div-eq_of_lt (omega arith)

  pub up_least : (s : ℕ) → 2 * (n * half_up_nat n s) ≤ 2 * s + n
  unfolding half_up_nat
  up_least s =
      let y = (s + s + n) / (2 * n) in
      omega (arith, div-mul-le_self (s + s + n) (2 * n), mul_comm y (2 * n), mul_assoc 2 n y)

  pub up-most : (s : ℕ) → 2 * s + n < 2 * (n * half_up_nat n s) + 2 * n
  unfolding half_up_nat
  up-most s =
      let y = (s + s + n) / (2 * n) in
      omega (arith, lt-div-mul-add {a = s + s + n} twice-pos, mul_comm y (2 * n), mul_assoc 2 n y)

  pub down-least : (s : ℕ) → 2 * (n * half_down_nat n s) < 2 * s + n
  unfolding half_down_nat
  down-least s =
      let y = (s + s + (n - 1)) / (2 * n) in
      omega (arith, div-mul-le_self (s + s + (n - 1)) (2 * n), mul_comm y (2 * n), mul_assoc 2 n y)

  pub down-most : (s : ℕ) → 2 * s + n ≤ 2 * (n * half_down_nat n s) + 2 * n
  unfolding half_down_nat
  down-most s =
      let y = (s + s + (n - 1)) / (2 * n) in
      omega (arith, lt-div-mul-add {a = s + s + (n - 1)} twice-pos, mul_comm y (2 * n), mul_assoc 2 n y)

  -- ---- the mean

  -- by the neighbour that is even
  pub mean-even : (s : ℕ) → even_nat (half_up_nat n s) ≡ true → mean_nat n s ≡ half_up_nat n s
  unfolding mean_nat
  mean-even s e = rw e

  pub mean-odd : (s : ℕ) → even_nat (half_up_nat n s) ≡ false → mean_nat n s ≡ half_down_nat n s
  unfolding mean_nat
  mean-odd s e = rw e

  pub mean-low : (s : ℕ) → half_down_nat n s ≤ mean_nat n s
  mean-low s =
      ⊎_elim
      (λ e. omega (arith, mean-even s e, half-down-below s))
      (λ e. omega (arith, mean-odd s e))
      (both_ways (even_nat (half_up_nat n s)))

  pub mean-high : (s : ℕ) → mean_nat n s ≤ half_up_nat n s
  mean-high s =
      ⊎_elim
      (λ e. omega (arith, mean-even s e))
      (λ e. omega (arith, mean-odd s e, half-down-below s))
      (both_ways (even_nat (half_up_nat n s)))

  pub mean_mono : {a b : ℕ} → a ≤ b → mean_nat n a ≤ mean_nat n b
  mean_mono {a} {b} l =
      ⊎_elim
      (λ e.
      ⊎_elim
      (λ f. omega (arith, mean-even a e, mean-even b f, half_up_nat-mono l))
      (λ f.
      -- one is even and the other odd, so they differ
      let i = eqb-true (half_up_nat n a % 2) 0 e in
      let j = eqb-false (half_up_nat n b % 2) 0 f in
      ⊎_elim
      (λ k. let g = ltb-true (half_up_nat n a) (half_up_nat n b) k in omega (arith, mean-even a e, mean-odd b f, half-up-next b))
      (λ k. let g = ltb-false (half_up_nat n a) (half_up_nat n b) k in absurd (j (omega (arith, half_up_nat-mono l))))
      (both_ways (ltb (half_up_nat n a) (half_up_nat n b))))
      (both_ways (even_nat (half_up_nat n b))))
      (λ e. omega (arith, mean-odd a e, half_down_nat-mono l, mean-low b))
      (both_ways (even_nat (half_up_nat n a)))

  pub mean_nearest : (s : ℕ) → Nearest n s (mean_nat n s)
  mean_nearest s =
      ⊎_elim
      (λ e.
      let y = half_up_nat n s in
      let even = eqb-true (half_up_nat n s % 2) 0 e in
      rw (mean-even s e)
      (record {
        below = up_least s;
        above = omega (arith, up-most s);
        even-below = λ _. even;
        even-above = λ _. even;
      }))
      (λ e.
      rw (mean-odd s e)
      (record {
        below = omega (arith, down-least s);
        above = omega (arith, down-most s);
        even-below = λ h. absurd (omega (arith, down-least s));
        even-above = λ h. beside (half_up_nat n s) (half_down_nat n s) (odd-one (half_up_nat n s) e) (apart h);
      }))
      (both_ways (even_nat (half_up_nat n s)))
    where
      beside : (u d : ℕ) → u % 2 ≡ 1 → u ≡ suc d → d % 2 ≡ 0
      beside u d o e = omega arith

      -- at a half the two differ
      apart : 2 * s ≡ 2 * (n * half_down_nat n s) + n → half_up_nat n s ≡ suc (half_down_nat n s)
      apart h =
          ⊎_elim
          (λ k. let i = ltb-true (half_down_nat n s) (half_up_nat n s) k in omega (arith, half-up-next s))
          (λ k.
          let i = ltb-false (half_down_nat n s) (half_up_nat n s) k in
          let j = mul-le-mul_left n i in
          absurd (omega (arith, up-most s)))
          (both_ways (ltb (half_down_nat n s) (half_up_nat n s)))

  pub mean-shift : (s j : ℕ) → Even j → mean_nat n (s + j * n) ≡ mean_nat n s + j
  unfolding mean_nat
  mean-shift s j even =
      rw (half-up-shift s j, half-down-shift s j, even_add (half_up_nat n s) j even)
      (pick (even_nat (half_up_nat n s)) (half_up_nat n s) (half_down_nat n s))
    where
      pick : (b : Bool) (x y : ℕ) → cond b (x + j) (y + j) ≡ cond b x y + j
      pick true x y = refl
      pick false x y = refl

  -- the mean of n equal numbers
  mean_const : (j : ℕ) → mean_nat n (n * j) ≡ j
  mean_const j =
      let c : n * j ≡ 0 + j * n = omega (arith, mul_comm n j) in
      let u = ap (half_up_nat n) c in
      let d = ap (half_down_nat n) c in
      omega (arith, half-up-shift 0 j, half-down-shift 0 j, half-up-zero, mean-low (n * j), mean-high (n * j))

  pub mean-zero : mean_nat n 0 ≡ 0
  mean-zero = omega (arith, mean-high 0, half-up-zero)

  pub mean_upper : (s j : ℕ) → s ≤ n * j → mean_nat n s ≤ j
  mean_upper s j l =
      let c = mean_const j in
      let d = mean_mono l in
      omega arith

  pub mean-lower : (s j : ℕ) → n * j ≤ s → j ≤ mean_nat n s
  mean-lower s j l =
      let c = mean_const j in
      let d = mean_mono l in
      omega arith

  -- the mean of numbers between two bounds lies between them
  pub mean-above : (f : ℕ → ℕ) (a : ℕ) → ((i : ℕ) → i < n → a ≤ f i) → a ≤ mean_nat n (total f n)
  mean-above f a h =
      let t = total_mono (λ _. a) f n h in
      let c = total_const a n in
      mean-lower (total f n) a (omega arith)

  pub mean-below : (f : ℕ → ℕ) (b : ℕ) → ((i : ℕ) → i < n → f i ≤ b) → mean_nat n (total f n) ≤ b
  mean-below f b h =
      let t = total_mono f (λ _. b) n h in
      let c = total_const b n in
      mean_upper (total f n) b (omega arith)

  -- ---- by the whole part and the remainder

  module _ (s : ℕ) where
    whole : n * (s / n) + s % n ≡ s
    whole = div-add-mod s n

    -- 2s + c is 2n times the whole part, and twice what is left and c, which together are less than 4n
    split_by :
        (c : ℕ) (b : Bool) → leb (2 * n) (2 * (s % n) + c) ≡ b → c ≤ n → (s + s + c) / (2 * n) ≡ s / n + bit b
    split_by c b e few = div-eq_of_lt-le {k = s / n + bit b} (2 * n) {m = s + s + c} (low b e) (high b e)
      where
        twice : s / n * (2 * n) ≡ 2 * (n * (s / n))
        twice = mul_comm (s / n) (2 * n) ∙ mul_assoc 2 n (s / n)

        low : (b : Bool) → leb (2 * n) (2 * (s % n) + c) ≡ b → (s / n + bit b) * (2 * n) ≤ s + s + c
        low true e =
            let h = leb-true (2 * n) (2 * (s % n) + c) e in
            omega (arith, whole, twice, add-mul (s / n) 1 (2 * n))
        low false e = omega (arith, whole, twice, add-mul (s / n) 0 (2 * n))

        high : (b : Bool) → leb (2 * n) (2 * (s % n) + c) ≡ b → s + s + c < (s / n + bit b + 1) * (2 * n)
        high true e =
            let r = mod-lt s some-n in
            omega (arith, whole, twice, add-mul (s / n) 2 (2 * n))
        high false e =
            let h = leb-false (2 * n) (2 * (s % n) + c) e in
            omega (arith, whole, twice, add-mul (s / n) 1 (2 * n))

    up_is : half_up_nat n s ≡ s / n + bit (leb (2 * n) (2 * (s % n) + n))
    unfolding half_up_nat
    up_is = split_by n _ refl (omega arith)

    down_is : half_down_nat n s ≡ s / n + bit (leb (2 * n) (2 * (s % n) + (n - 1)))
    unfolding half_down_nat
    down_is = split_by (n - 1) _ refl (omega arith)

    -- n numbers that are together s above n times low
    pub mean-split : (low : ℕ) → low + (s / n + bit (rounds-up n (s % n) (low + s / n))) ≡ mean_nat n (s + low * n)
    unfolding mean_nat
    mean-split low =
        rw (half-up-shift s low, half-down-shift s low, up_is, down_is)
        (pick (leb (2 * n) (2 * (s % n) + n)) (leb (2 * n) (2 * (s % n) + (n - 1))) refl refl)
      where
        pick :
            (u d : Bool) → leb (2 * n) (2 * (s % n) + n) ≡ u → leb (2 * n) (2 * (s % n) + (n - 1)) ≡ d
            → low + (s / n + bit (rounds-up n (s % n) (low + s / n)))
            ≡ cond (even_nat (s / n + bit u + low)) (s / n + bit u + low) (s / n + bit d + low)
        pick u d eu ed =
            rounded u d (rounds-up n (s % n) (low + s / n)) (even_nat (s / n + bit u + low)) eu ed refl refl
          where
            rounded :
                (u d e v : Bool) → leb (2 * n) (2 * (s % n) + n) ≡ u → leb (2 * n) (2 * (s % n) + (n - 1)) ≡ d
                → rounds-up n (s % n) (low + s / n) ≡ e → even_nat (s / n + bit u + low) ≡ v
                → low + (s / n + bit e) ≡ cond v (s / n + bit u + low) (s / n + bit d + low)
            -- less than half is left
            rounded false true e v eu ed ee ev =
                let i = leb-false (2 * n) (2 * (s % n) + n) eu in
                let j = leb-true (2 * n) (2 * (s % n) + (n - 1)) ed in
                absurd (omega arith)
            rounded false false true v eu ed ee ev =
                let i = leb-false (2 * n) (2 * (s % n) + n) eu in
                let j = ltb-true n (2 * (s % n) + (low + s / n) % 2) ee in
                absurd (omega arith)
            rounded false false false true eu ed ee ev = omega arith
            rounded false false false false eu ed ee ev = omega arith
            -- more than half is left
            rounded true true true true eu ed ee ev = omega arith
            rounded true true true false eu ed ee ev = omega arith
            rounded true true false v eu ed ee ev =
                let i = leb-true (2 * n) (2 * (s % n) + (n - 1)) ed in
                let j = ltb-false n (2 * (s % n) + (low + s / n) % 2) ee in
                absurd (omega arith)
            -- half is left
            rounded true false true true eu ed ee ev = omega arith
            rounded true false true false eu ed ee ev =
                let i = leb-false (2 * n) (2 * (s % n) + (n - 1)) ed in
                let j = ltb-true n (2 * (s % n) + (low + s / n) % 2) ee in
                absurd (eqb-false ((s / n + 1 + low) % 2) 0 ev (omega arith))
            rounded true false false true eu ed ee ev =
                let i = leb-true (2 * n) (2 * (s % n) + n) eu in
                let j = ltb-false n (2 * (s % n) + (low + s / n) % 2) ee in
                let k = eqb-true ((s / n + 1 + low) % 2) 0 ev in
                absurd (omega arith)
            rounded true false false false eu ed ee ev = omega arith
