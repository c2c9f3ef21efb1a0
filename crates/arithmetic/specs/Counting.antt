-- Counting, summing and searching over the indices 0 to n-1. Each recurses on the number of indices passed.
--   count p n    how many of the indices pass the test p
--   any_below p n whether one of them does
--   lowest p n   the lowest that does
--   highest p n  the highest that does
--   sum f n      the sum of f over them
--   eq_z a b      whether two whole numbers are equal
--   floor_div a n the whole part of a / n, rounded down below zero too
use Rattle.std.specs.Prelude.{Bool, true, false, cond, ◌||◌, ℕ, zero, suc, ◌+◌, eqb, ℤ, pos, negsuc, ◌+ℤ◌}
use Rattle.std.proofs.Math.Option.{Option, none, some}
use Rattle.std.specs.Int.Signed.{shr_z}

-- 1 where a test passes, else 0
abbrev pub bit : Bool → ℕ
bit false = 0
bit true = 1

unfoldable pub count : (ℕ → Bool) → ℕ → ℕ
count p zero = 0
count p (suc n) = count p n + bit (p n)

unfoldable pub any_below : (ℕ → Bool) → ℕ → Bool
any_below p zero = false
any_below p (suc n) = any_below p n || p n

-- an answer that is there stands; else the index n answers if it passes
abbrev pub or_index : Option ℕ → Bool → ℕ → Option ℕ
or_index (some i) b n = some i
or_index none b n = cond b (some n) none

unfoldable pub lowest : (ℕ → Bool) → ℕ → Option ℕ
lowest p zero = none
lowest p (suc n) = or_index (lowest p n) (p n) n

unfoldable pub highest : (ℕ → Bool) → ℕ → Option ℕ
highest p zero = none
highest p (suc n) = cond (p n) (some n) (highest p n)

unfoldable pub sum : (ℕ → ℤ) → ℕ → ℤ
sum f zero = pos 0
sum f (suc n) = sum f n +ℤ f n

abbrev pub eq_z : ℤ → ℤ → Bool
eq_z (pos a) (pos b) = eqb a b
eq_z (pos a) (negsuc b) = false
eq_z (negsuc a) (pos b) = false
eq_z (negsuc a) (negsuc b) = eqb a b

-- the greatest whole number that is at most a / n: the library's shift to the right, for any divisor
abbrev pub floor_div : ℤ → ℕ → ℤ
floor_div a n = shr_z a n
