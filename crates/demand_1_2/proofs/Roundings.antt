-- The definitions' quotients are what their names say: rounded down, rounded up, the whole part plus one, and nearest
-- with a half going to the even neighbour.
-- Assumes nothing.
use mathlib.Core.Path.{◌≡◌, refl, sym, ap, ap₂, ◌∙◌, subst}
use Prim.Native.Nat.{ℕ, zero, suc, ◌+◌, ◌*◌, ◌-◌, ◌/◌, ◌%◌, ◌≤◌, ◌<◌}
use native.Mathlib.Nat.{div-mul-le_self, lt-div-mul-add, mul_comm, mul-suc, mul-add, mul_assoc, add-mul, one-mul}
use native.Mathlib.Nat.{mul-le-mul_right}
use native.Mathlib.Omega.{arith}
use borrow.Author.Tests.{le-leb, lt-ltb}
use lib.IntN.{ℤ, pos, negsuc, neg_ℤ, ◌+ℤ◌, ◌*ℤ◌, *ℤ_comm}
use lib.Signed.{mag, ◌≤ℤ◌, ◌<ℤ◌}
use Rattle.arithmetic.specs.Counting.{floor_div}
use Rattle.arithmetic.proofs.Bools.{to-T}
use Rattle.arithmetic.specs.Naturals.{down, up}
use Rattle.arithmetic.proofs.Shift.{down-ind, down_cong, down-up, up-down, pos-down, add_down, add_pos-down, mul_down}
use Rattle.model.specs.Steps.{mean}
use Rattle.model.specs.Planner.{ceil_div, past_div}
use Rattle.planner_laws.proofs.Ceiling.{ceil_div_covers}
use Rattle.round_laws.specs.Naturals.{Even, mean_nat}
use Rattle.round_laws.proofs.Shifted.{mean-down}
use Rattle.value_laws.proofs.Means.{Nearest, mean_nearest}
use Rattle.demand_1_2.specs.Demand2.{RoundedDown, RoundedUp, PastWhole, Twice, NearestWhole}
use Rattle.demand_1_2.proofs.Represented.{le-of-down}

-- ---- down

neg_below : (p x : ℕ) → x < p → neg_ℤ (pos p) ≤ℤ negsuc x
neg_below zero x h = absurd (omega arith)
neg_below (suc p) x h = record { le = to-T (le-leb x p (omega arith)) }

neg_above : (p n x : ℕ) → 0 < p → p ≤ x + n → negsuc x <ℤ (neg_ℤ (pos p) +ℤ pos n)
unfolding down
neg_above zero n x s h = absurd (omega arith)
neg_above (suc p) n x s h =
    down-ind (suc p) n (λ z. negsuc x <ℤ z)
    (λ l. record { lt = tt })
    (λ l. record { lt = to-T (lt-ltb (suc p - suc n) x (omega arith)) })

pub rounded-down : (a : ℤ) (n : ℕ) → 0 < n → RoundedDown a n (floor_div a n)
rounded-down (pos a) n some-n =
    let c = mul_comm n (a / n) in
    let l = div-mul-le_self a n in
    let u = lt-div-mul-add {a = a} some-n in
    record {
      at_most = record { le = to-T (le-leb (n * (a / n)) a (omega arith)) };
      next = record { lt = to-T (lt-ltb a (n * (a / n) + n) (omega arith)) };
    }
rounded-down (negsuc a) n some-n =
    let c = mul_comm n (a / n) in
    let e = mul-suc n (a / n) in
    let l = div-mul-le_self a n in
    let u = lt-div-mul-add {a = a} some-n in
    record {
      at_most = neg_below (n * suc (a / n)) a (omega arith);
      next = neg_above (n * suc (a / n)) n a (omega arith) (omega arith);
    }

-- ---- products of numbers moved down

mul_down-left : (c k y : ℕ) → pos c *ℤ down k y ≡ down (c * k) (c * y)
mul_down-left c k y =
    *ℤ_comm (pos c) (down k y) ∙ mul_down k y c ∙ ap₂ (λ (a b : ℕ). down a b) (mul_comm k c) (mul_comm y c)

down_inj : (k a b : ℕ) → down k a ≡ down k b → a ≡ b
down_inj k a b e = sym (up-down k a) ∙ ap (up k) e ∙ up-down k b

-- ---- nearest

-- the sum, and a quotient of it, moved up by an even number
module _ (n k S y : ℕ) where
  twice-down : down (n * k) S +ℤ down (n * k) S ≡ down (2 * n * k) (2 * S)
  twice-down =
      add_down (n * k) S (n * k) S
      ∙ down_cong (n * k + n * k) (S + S) (2 * n * k) (2 * S) (omega (arith, mul_assoc 2 n k))

  sum-down : down (n * k) S +ℤ down (n * k) S +ℤ pos n ≡ down (2 * n * k) (2 * S + n)
  sum-down = ap (λ z. z +ℤ pos n) twice-down ∙ add_pos-down (2 * n * k) (2 * S) n

  product_down : pos (2 * n) *ℤ down k y ≡ down (2 * n * k) (2 * (n * y))
  product_down = mul_down-left (2 * n) k y ∙ ap (down (2 * n * k)) (mul_assoc 2 n y)

  half-down-sum : pos (2 * n) *ℤ down k y +ℤ pos n ≡ down (2 * n * k) (2 * (n * y) + n)
  half-down-sum = ap (λ z. z +ℤ pos n) product_down ∙ add_pos-down (2 * n * k) (2 * (n * y)) n

  twice_of : Even k → y % 2 ≡ 0 → Twice (down k y)
  twice_of even e =
      let t = even.twice in
      record {
        half = down even.half (y / 2);
        twice =
            down_cong k y (even.half + even.half) (y / 2 + y / 2) (omega arith)
            ∙ sym (add_down even.half (y / 2) even.half (y / 2));
      }

  nearest_down : Even k → Nearest n S y → NearestWhole (down (n * k) S) n (down k y)
  nearest_down even h =
      record {
        at_most = rw (product_down, sum-down) (le-of-down (2 * n * k) (2 * (n * y)) (2 * S + n) h.below);
        at_least = rw (half-down-sum, twice-down) (le-of-down (2 * n * k) (2 * S) (2 * (n * y) + n) h.above);
        half_below = λ e.
            twice_of even
            (h.even-below (down_inj (2 * n * k) (2 * (n * y)) (2 * S + n) (sym product_down ∙ e ∙ sum-down)));
        half_above = λ e.
            twice_of even
            (h.even-above (down_inj (2 * n * k) (2 * S) (2 * (n * y) + n) (sym twice-down ∙ e ∙ half-down-sum)));
      }

pub mean_nearest_whole : (n : ℕ) (s : ℤ) → 0 < n → NearestWhole s n (mean n s)
mean_nearest_whole n s some-n =
    subst (λ z. NearestWhole z n (mean n z)) (down-up (n * k) s far)
    (rw (mean-down k n S some-n even) (nearest_down n k S (mean_nat n S) even (mean_nearest n some-n S)))
  where
    k : ℕ
    k = suc (mag s) + suc (mag s)

    even : Even (suc (mag s) + suc (mag s))
    even = record { half = suc (mag s); twice = refl }

    S : ℕ
    S = up (n * (suc (mag s) + suc (mag s))) s

    far : mag s < n * (suc (mag s) + suc (mag s))
    far =
        let l = mul-le-mul_right (suc (mag s) + suc (mag s)) some-n in
        omega (arith, one-mul (suc (mag s) + suc (mag s)))

-- ---- up

-- the quotient passes the dividend by less than one divisor
ceil_div_near : (n : ℕ) → 0 < n → (a : ℕ) → ceil_div a n * n < a + n
unfolding ceil_div
ceil_div_near n some-n a = omega (arith, div-mul-le_self (a + (n - 1)) n)

pub rounded-up : (a n : ℕ) → 0 < n → RoundedUp a n (ceil_div a n)
rounded-up a n some-n =
    let c = mul_comm n (ceil_div a n) in
    let l = ceil_div_covers n some-n a in
    let u = ceil_div_near n some-n a in
    record { covers = omega arith; least = omega arith }

-- ---- the whole part plus one

pub past-whole : (a n : ℕ) → 0 < n → PastWhole a n (past_div a n)
unfolding past_div
past-whole a n some-n =
    let c = mul_comm n (a / n + 1) in
    let e = add-mul (a / n) 1 n in
    let o = one-mul n in
    record {
      above = omega (arith, lt-div-mul-add {a = a} some-n);
      next = omega (arith, div-mul-le_self a n);
    }
