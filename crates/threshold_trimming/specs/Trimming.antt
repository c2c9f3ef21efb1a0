-- INNER: no reader needs this page to believe a public promise. What the functions give that drop the m lowest and the
-- m highest readings by thresholds (Rattle.thresholds.specs.Thresholds), x being the numbers.
--   EndOf                     where the numbers of a threshold end: behind the first `ties` that are equal to it, or
--                             behind all where there are fewer
--   before                    a number comes before an end: it is below `at`, or equal and its place before `place`
--   is_left, left_at            it comes behind the one end and before the other; the same of an index
--   between, between_total     a number is at least low and below high; the sum of those of the first n
--   least_from, greatest_to     the least of the first n numbers from low on, and the greatest up to high
use Rattle.std.specs.Prelude.{Bool, cond, not, ◌&&◌, ◌||◌, ◌≡◌, ℕ, zero, suc, ◌-◌, min, max, ◌≤◌, ltb, leb, eqb}
use Rattle.arithmetic.specs.Counting.{count}
use Rattle.arithmetic.specs.Naturals.{total}
use Rattle.arithmetic.specs.Words.{two_to32}
use Rattle.thresholds.specs.declared.Threshold.{Threshold}
use Rattle.threshold_trimming.specs.declared.End.{End}
use Rattle.threshold_trimming.specs.declared.Left.{Left}

pub record EndOf (x : ℕ → ℕ) (n : ℕ) (t : Threshold) (e : End) : Type 0 where
  pub same : e.at ≡ t.at
  pub up_to : e.place ≤ n
  pub passed : count (λ s. eqb (x s) t.at) e.place ≡ min t.ties (count (λ s. eqb (x s) t.at) n)

abbrev pub before : ℕ → ℕ → End → Bool
before v r e = ltb v e.at || (eqb v e.at && ltb r e.place)

abbrev pub is_left : ℕ → ℕ → Left → Bool
is_left v r l = not (before v r l.low) && before v r l.high

abbrev pub left_at : (ℕ → ℕ) → Left → ℕ → Bool
left_at x l r = is_left (x r) r l

abbrev pub between : ℕ → ℕ → ℕ → Bool
between low high v = leb low v && ltb v high

abbrev pub between_total : (ℕ → ℕ) → ℕ → ℕ → ℕ → ℕ
between_total x low high n = total (λ r. cond (between low high (x r)) (x r) 0) n

unfoldable pub least_from : (ℕ → ℕ) → ℕ → ℕ → ℕ
least_from x low zero = two_to32 - 1
least_from x low (suc n) = min (cond (ltb (x n) low) (two_to32 - 1) (x n)) (least_from x low n)

unfoldable pub greatest_to : (ℕ → ℕ) → ℕ → ℕ → ℕ
greatest_to x high zero = 0
greatest_to x high (suc n) = max (greatest_to x high n) (cond (ltb high (x n)) 0 (x n))
