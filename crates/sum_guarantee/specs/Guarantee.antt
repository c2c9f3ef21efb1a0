-- Document 02, "Paper 3. Sums in 32 bits" (docs/FORMAT.md, 5): the mean of a round by the distances of its used values
-- from the lowest accepted reading, rounded as "Paper 4" has it, and how large their sum can be. It is said of every
-- sheet by FCA or CCA and every spread that settling grants, whatever the faults: nothing is asked of the cabinets. The
-- theorem is `sum-guarantee` of proofs/Guarantee.antt.
--
-- The round is `round_at` of crates/model/specs/Steps.antt, whose new value is the mean that it defines: what request 3
-- asks for is another way to the same value.
--
--   readings      what the sheet's cabinet reads of each cabinet
--   width         how wide a span of the sheet is
--   distance      how far a used value lies above a reading
--   rounded       a number and the whole part of a quotient, and 1 more by the remainder
--   apart_limit, sum_limit, widest_sum, close_limit     the limits of one distance, and of the sum of all
--   SumLimits     what holds of a sheet that settling grants
--   SumGuarantee  of all sheets by FCA or CCA, spreads and answer buffers
use Rattle.std.specs.Prelude.{not, ◌&&◌, ◌||◌, List, ◌≡◌, ℕ, ◌+◌, ◌*◌, ◌-◌, ◌/◌, ◌%◌, ◌≤◌, ◌<◌, ltb, eqb, ℤ, pos, ◌+ℤ◌, ◌-ℤ◌, ◌≤ℤ◌}
use Rattle.arithmetic.specs.Counting.{bit, sum}
use Rattle.model.specs.Ensemble.{Readings, max_cabinets, max_window, max_spread}
use Rattle.model.specs.RoundSheet.{settings_at, entry_count, entry_at}
use Rattle.model.specs.Steps.{readings_of, is_even, round_at, span_width}
use Rattle.model.specs.Calls.{granted, settle_spread}
use Rattle.demand_1_2.specs.Demand2.{LowestAccepted, BySpans}

abbrev pub readings : List ℕ → Readings
readings s = readings_of (settings_at s) (entry_at s (entry_count (settings_at s)))

abbrev pub width : List ℕ → ℕ → ℕ
width s D = span_width (settings_at s) D

abbrev pub distance : List ℕ → ℕ → ℤ → ℕ → ℤ
distance s D low r = (round_at s D).used r -ℤ low

-- "divide by N, add the whole part back to it, and round by the remainder": up where it is more than half of N; and,
-- document 02, request 4, where it is half of N and the lowest reading with the whole part added is odd
abbrev pub rounded : ℕ → ℕ → ℤ → ℤ
rounded n total low =
    let whole = low +ℤ pos (total / n) in
    let rest = total % n in
    whole +ℤ pos (bit (ltb n (2 * rest) || (eqb n (2 * rest) && not (is_even whole))))

-- ---- The limits

-- "The used values lie within twice the span of the lowest accepted reading"
abbrev pub apart_limit : List ℕ → ℕ → ℕ
apart_limit s D = 2 * width s D

-- "That sum is proved at most 2N times the span"
abbrev pub sum_limit : List ℕ → ℕ → ℕ
sum_limit s D = 2 * (settings_at s).n * width s D

-- the same where N, the window and the spread are greatest: 140,800,000
abbrev pub widest_sum : ℕ
widest_sum = 2 * max_cabinets * (max_window + max_spread)

-- beyond what is asked: N+m-1 times the span, which Witnesses.antt reaches
abbrev pub close_limit : List ℕ → ℕ → ℕ
close_limit s D = ((settings_at s).n + (settings_at s).m - 1) * width s D

-- ---- The statement

pub record SumLimits (s : List ℕ) (D : ℕ) : Type 0 where
  -- "the lowest accepted reading"
  pub low : ℤ
  pub is_lowest : LowestAccepted (settings_at s) D (readings s) low
  -- no used value lies below it
  pub above : (r : ℕ) → r < (settings_at s).n → pos 0 ≤ℤ distance s D low r
  pub within : (r : ℕ) → r < (settings_at s).n → distance s D low r ≤ℤ pos (apart_limit s D)
  -- "Sum the distances from it"
  pub total : ℕ
  pub is_total : sum (distance s D low) (settings_at s).n ≡ pos total
  pub at_most : total ≤ sum_limit s D
  pub narrow : sum_limit s D ≤ widest_sum
  pub closer : total ≤ close_limit s D
  pub value : (round_at s D).value ≡ rounded (settings_at s).n total low

abbrev pub SumGuarantee : Type 0
SumGuarantee =
    (s : List ℕ) (D : ℕ) (answer : List ℕ) (size : ℕ)
    → BySpans s → (settle_spread s D answer).verdict ≡ granted size → SumLimits s D
