-- Sums of naturals and of whole numbers over the indices below n.
-- Assumes nothing.
use mathlib.Core.Bool.{Bool}
use mathlib.Core.Path.{◌≡◌, refl, sym, ap, ap₂, ◌∙◌}
use Prim.Native.Nat.{ℕ, zero, suc, ◌+◌, ◌*◌, ◌≤◌, ◌<◌, zero-le}
use native.Mathlib.Nat.{zero-mul, suc-mul, add-le-add}
use native.Mathlib.Omega.{arith}
use lib.IntN.{ℤ, ◌+ℤ◌}
use Rattle.arithmetic.specs.Counting.{bit, count, sum}
use Rattle.arithmetic.proofs.Counting.{initial, last}
use Rattle.arithmetic.specs.Naturals.{down, total}
use Rattle.arithmetic.proofs.Shift.{add_down, down_cong, pos-down}

pub total_ext : (f g : ℕ → ℕ) (n : ℕ) → ((i : ℕ) → i < n → f i ≡ g i) → total f n ≡ total g n
unfolding total
total_ext f g zero h = refl
total_ext f g (suc n) h = ap₂ (λ (a b : ℕ). a + b) (total_ext f g n (initial h)) (last h)

pub total_mono : (f g : ℕ → ℕ) (n : ℕ) → ((i : ℕ) → i < n → f i ≤ g i) → total f n ≤ total g n
unfolding total
total_mono f g zero h = zero-le
total_mono f g (suc n) h = add-le-add (total_mono f g n (initial h)) (last h)

pub total_add : (f g : ℕ → ℕ) (n : ℕ) → total (λ i. f i + g i) n ≡ total f n + total g n
unfolding total
total_add f g zero = refl
total_add f g (suc n) =
    let ih = total_add f g n in
    omega arith

pub total_const : (k n : ℕ) → total (λ _. k) n ≡ n * k
unfolding total
total_const k zero = sym (zero-mul k)
total_const k (suc n) = ap (λ (x : ℕ). x + k) (total_const k n) ∙ sym (suc-mul n k)

pub total_scale : (f : ℕ → ℕ) (k n : ℕ) → total (λ i. f i * k) n ≡ total f n * k
unfolding total
total_scale f k zero = sym (zero-mul k)
total_scale f k (suc n) =
    ap (λ (x : ℕ). x + f n * k) (total_scale f k n) ∙ sym (native.Mathlib.Nat.add-mul (total f n) (f n) k)

-- a count is a sum of bits
pub count-total : (p : ℕ → Bool) (n : ℕ) → count p n ≡ total (λ i. bit (p i)) n
unfolding total count
count-total p zero = refl
count-total p (suc n) = ap (λ (x : ℕ). x + bit (p n)) (count-total p n)

pub sum_ext : (f g : ℕ → ℤ) (n : ℕ) → ((i : ℕ) → i < n → f i ≡ g i) → sum f n ≡ sum g n
unfolding sum
sum_ext f g zero h = refl
sum_ext f g (suc n) h = ap₂ (λ (a b : ℤ). a +ℤ b) (sum_ext f g n (initial h)) (last h)

-- the sum of numbers moved down by k is the sum moved down by k for each
pub sum-down : (k : ℕ) (f : ℕ → ℕ) (n : ℕ) → sum (λ i. down k (f i)) n ≡ down (n * k) (total f n)
unfolding sum total
sum-down k f zero = pos-down 0 ∙ down_cong 0 0 (0 * k) 0 (ap (λ (x : ℕ). 0 + x) (zero-mul k))
sum-down k f (suc n) =
    ap (λ z. z +ℤ down k (f n)) (sum-down k f n)
    ∙ add_down (n * k) (total f n) k (f n)
    ∙ ap (λ (x : ℕ). down x (total f n + f n)) (sym (suc-mul n k))
