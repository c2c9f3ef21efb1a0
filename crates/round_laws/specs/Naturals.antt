-- INNER: no reader needs this page to believe a public promise. Document 01's "Steps of a round" on naturals, as the
-- code does them. The laws named here (proofs/Shifted, proofs/Natural) say that each is document 01's step of the
-- readings that are these naturals moved down by k; the code has k = 2^31.
--   shift, shifted     the reading that a natural stands for; that of each cabinet
--   within_nat, spans  a reading lies in the span that starts at another: `within-shift`
--   accepted_nat       a reading is accepted: `accepted-shifted`
--   numbered_nat       the element numbered h from below: `numbered-shifted`
--   average_nat, median_nat, midpoint_nat, estimate_nat   the estimates: `average-shifted`, .., `estimate-shifted`
--   used_nat           what a cabinet counts for: `used-shifted`
--   Even, even_nat     a number that is twice another; whether one is: `even-down`
--   half_up_nat, half_down_nat the mean to the nearest, a half going up, and one going down
--   mean_nat           the mean to the nearest, a half going to the even neighbour: `mean-down`, where k is even
-- The new value by rules 2 and 3 (document 02, request 5), where a missing reading is the natural k:
--   precedes_nat, rank_nat, kept_nat    the order, and what is left of it: `rank_down`, `kept-down`
--   ranked_nat         the number before which so many come: `ranked-down`
--   kept-total, trimmed_nat    the sum of those left; the new value: `trimmed-down`
use Rattle.std.specs.Prelude.{Bool, true, false, cond, ◌&&◌, ◌||◌, ◌≡◌, ℕ, ◌+◌, ◌*◌, ◌-◌, ◌/◌, ◌%◌, leb, ltb, eqb}
use Rattle.std.proofs.Math.Option.{Option, none, some}
use Rattle.arithmetic.specs.Counting.{count, any_below, lowest}
use Rattle.arithmetic.specs.Naturals.{down, total}
use Rattle.model.specs.Ensemble.{Reading, missing, present, Readings}
use Rattle.model.specs.RoundSheet.{trimmed_midpoint, average, median}

-- the reading of one cabinet
abbrev pub shift : ℕ → Bool → ℕ → Reading
shift k true x = present (down k x)
shift k false x = missing

abbrev pub shifted : ℕ → (ℕ → Bool) → (ℕ → ℕ) → Readings
shifted k pres x r = shift k (pres r) (x r)

-- ---- acceptance

-- the present reading b lies in the span of width w from the present reading a
abbrev pub within_nat : ℕ → Bool → ℕ → Bool → ℕ → Bool
within_nat w p a q b = p && (q && (leb a b && leb b (a + w)))

module _ (w : ℕ) (pres : ℕ → Bool) (x : ℕ → ℕ) where
  -- r's reading lies in the span that starts at s's
  abbrev pub spans : ℕ → ℕ → Bool
  spans s r = within_nat w (pres s) (x s) (pres r) (x r)

  unfoldable pub accepted_nat : ℕ → ℕ → ℕ → Bool
  accepted_nat need n r = any_below (λ s. spans s r && leb need (count (spans s) n)) n

-- ---- estimates, over cabinets acc that are present

abbrev pub nat_at : ℕ → (ℕ → ℕ) → Option ℕ → ℕ
nat_at k x (some r) = x r
nat_at k x none = k

-- whether r's number is numbered h from below among those that acc admits
abbrev pub is_numbered : (ℕ → Bool) → ℕ → (ℕ → ℕ) → ℕ → ℕ → Bool
is_numbered acc n x h r =
    acc r && (leb h (count (λ s. acc s && leb (x s) (x r)) n) && ltb (count (λ s. acc s && ltb (x s) (x r)) n) h)

unfoldable pub numbered_nat : ℕ → (ℕ → Bool) → ℕ → (ℕ → ℕ) → ℕ → ℕ
numbered_nat k acc n x h = nat_at k x (lowest (is_numbered acc n x h) n)

unfoldable pub average_nat : (ℕ → Bool) → ℕ → (ℕ → ℕ) → ℕ
average_nat acc n x = total (λ r. cond (acc r) (x r) 0) n / count acc n

unfoldable pub median_nat : ℕ → (ℕ → Bool) → ℕ → (ℕ → ℕ) → ℕ
median_nat k acc n x = numbered_nat k acc n x ((count acc n + 1) / 2)

unfoldable pub midpoint_nat : ℕ → (ℕ → Bool) → ℕ → (ℕ → ℕ) → ℕ
midpoint_nat k acc n x = (numbered_nat k acc n x 1 + numbered_nat k acc n x (count acc n)) / 2

unfoldable pub estimate_nat : ℕ → ℕ → (ℕ → Bool) → ℕ → (ℕ → ℕ) → ℕ
estimate_nat k kind acc n x =
    cond (eqb kind average) (average_nat acc n x)
    (cond (eqb kind median) (median_nat k acc n x) (midpoint_nat k acc n x))

-- ---- the new value

pub record Even (k : ℕ) : Type 0 where
  pub half : ℕ
  pub twice : k ≡ half + half

abbrev pub even_nat : ℕ → Bool
even_nat x = eqb (x % 2) 0

-- the mean of n numbers with the sum s
unfoldable pub half_up_nat : ℕ → ℕ → ℕ
half_up_nat n s = (s + s + n) / (2 * n)

unfoldable pub half_down_nat : ℕ → ℕ → ℕ
half_down_nat n s = (s + s + (n - 1)) / (2 * n)

unfoldable pub mean_nat : ℕ → ℕ → ℕ
mean_nat n s = cond (even_nat (half_up_nat n s)) (half_up_nat n s) (half_down_nat n s)

abbrev pub used_nat : (ℕ → Bool) → (ℕ → ℕ) → ℕ → ℕ → ℕ
used_nat acc x e r = cond (acc r) (x r) e

-- ---- rules 2 and 3

abbrev pub precedes_nat : (ℕ → ℕ) → ℕ → ℕ → Bool
precedes_nat x s r = ltb (x s) (x r) || (eqb (x s) (x r) && ltb s r)

unfoldable pub rank_nat : ℕ → (ℕ → ℕ) → ℕ → ℕ
rank_nat n x r = count (λ s. precedes_nat x s r) n

unfoldable pub kept_nat : ℕ → ℕ → (ℕ → ℕ) → ℕ → Bool
kept_nat n m x r = leb m (rank_nat n x r) && ltb (rank_nat n x r) (n - m)

-- the number of the one index before which h come
unfoldable pub ranked_nat : ℕ → (ℕ → ℕ) → ℕ → ℕ
ranked_nat n x h = total (λ r. cond (eqb (rank_nat n x r) h) (x r) 0) n

unfoldable pub kept-total : ℕ → ℕ → (ℕ → ℕ) → ℕ
kept-total n m x = total (λ r. cond (kept_nat n m x r) (x r) 0) n

unfoldable pub trimmed_nat : ℕ → ℕ → ℕ → (ℕ → ℕ) → ℕ
trimmed_nat rule n m x =
    cond (eqb rule trimmed_midpoint) (mean_nat 2 (ranked_nat n x m + ranked_nat n x (n - m - 1)))
    (mean_nat (n - 2 * m) (kept-total n m x))
