-- INNER: no reader needs this page to believe a public promise. Between which of a list's numbers those lie that are
-- left when the m lowest and the m highest are dropped, equal ones by index.
--   up_to_number         how many numbers are at most a number
--   Split, Splits      the k lowest numbers are those below `at`, and the first `ties` of those equal to it. Where more
--                      than one `at` fits, which is given is free
--   misfit, Found      what `find_both` gives: at most 64 numbers are asked, of which some are left
-- What the functions below it give:
--   Taken, Bounds      a number of the list; the range from the lowest of them to the highest
--   max_unit, guessed   the most that even numbers lie apart; where to look next in a range
use Rattle.std.specs.Prelude.{Bool, true, false, cond, ◌||◌, List, ◌≡◌, ℕ, ◌+◌, ◌*◌, ◌-◌, ◌/◌, min, ◌≤◌, ◌<◌, ltb, leb, length}
use Rattle.std.specs.Prelude.{Option, MatchOption}
use Rattle.arithmetic.specs.Counting.{count}
use Rattle.arithmetic.specs.Words.{two_to32}
use Rattle.model.specs.Ensemble.{max_cabinets}
use Rattle.held.specs.Held.{value_at}
use Rattle.thresholds.specs.declared.Range.{Range}
use Rattle.thresholds.specs.declared.Threshold.{Threshold}
use Rattle.thresholds.specs.declared.Thresholds.{Thresholds}

abbrev pub up_to_number : List ℕ → ℕ → ℕ
up_to_number values v = count (λ t. leb (value_at values t) v) (length values)

-- of n numbers x; where there are ties, k + 1 of the numbers, or all, are at most `at`
pub record Split (x : ℕ → ℕ) (n k : ℕ) (s : Threshold) : Type 0 where
  pub exact : count (λ t. ltb (x t) s.at) n + s.ties ≡ k
  pub tied : 0 < s.ties → min (k + 1) n ≤ count (λ t. leb (x t) s.at) n

abbrev pub Splits : List ℕ → ℕ → Threshold → Type 0
Splits values k t = Split (value_at values) (length values) k t

abbrev pub misfit : ℕ → ℕ → Bool
misfit n m = ltb max_cabinets n || leb n (2 * m)

-- the threshold of the m lowest, and that of all but the m highest
pub record SplitsBoth (values : List ℕ) (m : ℕ) (r : Thresholds) : Type 0 where
  pub fits : misfit (length values) m ≡ false
  pub lowest : Splits values m r.low
  pub highest : Splits values (length values - m) r.high

abbrev pub Found : List ℕ → ℕ → Option Thresholds → Type 0
Found values m r = MatchOption r (misfit (length values) m ≡ true) (SplitsBoth values m)

-- ---- the functions below it

abbrev pub Taken : List ℕ → ℕ → Type 0
Taken values v = (i : ℕ) × (i < length values) × (value_at values i ≡ v)

pub record Bounds (values : List ℕ) (r : Range) : Type 0 where
  pub least : (j : ℕ) → j < length values → r.low ≤ value_at values j
  pub greatest : (j : ℕ) → j < length values → value_at values j ≤ r.high
  pub low_taken : Taken values r.low
  pub high_taken : Taken values r.high

abbrev pub max_unit : ℕ
max_unit = two_to32 / 64

-- as far from the nearer end as even numbers would be, and no farther than the middle
unfoldable pub guessed : Range → ℕ → ℕ → ℕ → ℕ
guessed r unit left right =
    cond (leb left right) (r.low + min (unit * min left right + 1) (r.high - r.low - (r.high - r.low) / 2))
    (r.high - min (unit * min left right) ((r.high - r.low) / 2))
