-- Counting the indices of an interval, and the sum of a function with two values.
--   between a b i        a ≤ i < b
-- Assumes nothing.
use mathlib.Core.Bool.{Bool, true, false, cond, ◌&&◌}
use mathlib.Core.Path.{◌≡◌, refl}
use Prim.Native.Nat.{ℕ, zero, suc, ◌+◌, ◌*◌, ◌-◌, ◌≤◌, ◌<◌}
use native.Mathlib.Nat.{add-mul, suc-mul, zero-mul}
use native.Mathlib.Omega.{arith}
use borrow.Author.Tests.{ltb-true, ltb-false, leb-true, leb-false}
use lib.Dec.{leb, ltb}
use Rattle.arithmetic.specs.Counting.{bit, count}
use Rattle.arithmetic.proofs.Bools.{and_left, and_right}
use Rattle.arithmetic.specs.Naturals.{total}

abbrev pub between : ℕ → ℕ → ℕ → Bool
between a b i = leb a i && ltb i b

pub between-low : (a b i : ℕ) → between a b i ≡ true → a ≤ i
between-low a b i e = leb-true a i (and_left (leb a i) (ltb i b) e)

pub between-high : (a b i : ℕ) → between a b i ≡ true → i < b
between-high a b i e = ltb-true i b (and_right (leb a i) (ltb i b) e)

pub count-below : (k n : ℕ) → count (λ i. ltb i k) n ≡ n - (n - k)
unfolding count
count-below k zero = omega arith
count-below k (suc n) = go (ltb n k) refl (count (λ i. ltb i k) n) (count-below k n)
  where
    go : (c : Bool) → ltb n k ≡ c → (y : ℕ) → y ≡ n - (n - k) → y + bit c ≡ suc n - (suc n - k)
    go true e y ih = omega (arith, ltb-true n k e)
    go false e y ih = omega (arith, ltb-false n k e)

pub count-between : (a b n : ℕ) → a ≤ b → count (between a b) n ≡ n - a - (n - b)
unfolding count
count-between a b zero h = omega arith
count-between a b (suc n) h = go (leb a n) refl (ltb n b) refl (count (between a b) n) (count-between a b n h)
  where
    go :
        (c : Bool) → leb a n ≡ c → (d : Bool) → ltb n b ≡ d → (y : ℕ) → y ≡ n - a - (n - b)
        → y + bit (c && d) ≡ suc n - a - (suc n - b)
    go true e true f y ih = omega (arith, leb-true a n e, ltb-true n b f)
    go true e false f y ih = omega (arith, leb-true a n e, ltb-false n b f)
    go false e d f y ih = omega (arith, leb-false a n e)

-- A where p passes, L elsewhere
pub total-two : (p : ℕ → Bool) (A L n : ℕ) → total (λ i. cond (p i) A L) n + count p n * L ≡ n * L + count p n * A
unfolding total count
total-two p A L zero = omega (arith, zero-mul L, zero-mul A)
total-two p A L (suc n) = go (p n) (total (λ i. cond (p i) A L) n) (count p n) (total-two p A L n)
  where
    go :
        (b : Bool) (y c : ℕ) → y + c * L ≡ n * L + c * A
        → y + cond b A L + (c + bit b) * L ≡ suc n * L + (c + bit b) * A
    go true y c ih = omega (arith, add-mul c 1 L, add-mul c 1 A, suc-mul n L)
    go false y c ih = omega (arith, add-mul c 0 L, add-mul c 0 A, suc-mul n L)
