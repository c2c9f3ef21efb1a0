-- Document 02, "Paper 5. Trimming rules" (docs/FORMAT.md, 14): what rules 2 and 3 drop and what they make of the rest,
-- said in the request's words of `rank`, `is_kept` and `trimmed_round` (crates/model/specs/Steps.antt), the definitions
-- that settling's promise is an equation with. It holds of any readings of which one is left, whatever the faults. The
-- theorem is `trimmed-rounds` of proofs/Rounds.antt.
--
--   Ordered          the order of the readings
--   Dropped          what is dropped of it
--   KeptReading, Extremes    a reading that is left; the lowest and the highest of those
--   Shows            what the answer sheet shows
--   TrimmedRounds    all of it, of all settings and readings
--   TrimmedSheets    what a sheet by rules 2 and 3 is settled to, and what is asked of it; no plan has them. The
--                    theorem is `trimmed_sheets`
use Rattle.std.specs.Prelude.{true, false, cond, List, ◌⊎◌, ◌≡◌, ℕ, ◌*◌, ◌-◌, ◌≤◌, ◌<◌, leb, ltb, ℤ, pos, ◌+ℤ◌, ◌≤ℤ◌, ◌<ℤ◌}
use Rattle.arithmetic.specs.Counting.{count, sum}
use Rattle.model.specs.declared.Settings.{Settings}
use Rattle.model.specs.Ensemble.{missing, present, Readings, ticks}
use Rattle.model.specs.RoundSheet.{trimmed_midpoint, trimmed_mean, trims, average, settings_at, entry_at}
use Rattle.model.specs.Steps.{rank, is_kept, kept_count, trimmed_round, round_at}
use Rattle.model.specs.Planner.{Plan}
use Rattle.model.specs.Calls.{granted, settle_spread, plan, step, Target}
use Rattle.demand_1_2.specs.Demand2.{NearestWhole}

-- a lower reading comes before a higher one. "A missing reading counts as 0; equal readings order by cabinet number"
pub record Ordered (n : ℕ) (v : Readings) : Type 0 where
  pub by_value : (r s : ℕ) → r < n → s < n → ticks (v r) <ℤ ticks (v s) → rank n v r < rank n v s
  pub by_number : (r s : ℕ) → r < n → s < n → ticks (v r) ≡ ticks (v s) → r < s → rank n v r < rank n v s

-- "drops the m lowest and m highest of N"; "the count is N-2m"
pub record Dropped (n m : ℕ) (v : Readings) : Type 0 where
  pub lowest : count (λ r. ltb (rank n v r) m) n ≡ m
  pub highest : count (λ r. leb (n - m) (rank n v r)) n ≡ m
  pub left : count (is_kept n m v) n ≡ kept_count n m
  pub others : (r : ℕ) → is_kept n m v r ≡ false → (rank n v r < m) ⊎ (n - m ≤ rank n v r)

-- z is what counts for a cabinet that is left
pub record KeptReading (n m : ℕ) (v : Readings) (z : ℤ) : Type 0 where
  pub cabinet : ℕ
  pub in_range : cabinet < n
  pub kept : is_kept n m v cabinet ≡ true
  pub reads : ticks (v cabinet) ≡ z

-- "the extremes left"
pub record Extremes (n m : ℕ) (v : Readings) (low high : ℤ) : Type 0 where
  pub low_kept : KeptReading n m v low
  pub high_kept : KeptReading n m v high
  pub between :
      (r : ℕ) → r < n → is_kept n m v r ≡ true → (low ≤ℤ ticks (v r)) × (ticks (v r) ≤ℤ high)

-- "half the sum of the extremes left", "the mean of those left", each to the nearest, a half to the even neighbour
pub record Values (c : Settings) (v : Readings) : Type 0 where
  pub by_midpoint :
      c.rule ≡ trimmed_midpoint
      → (low high : ℤ) → Extremes c.n c.m v low high
      → NearestWhole (low +ℤ high) 2 (trimmed_round c v).value
  pub by_mean :
      c.rule ≡ trimmed_mean
      → NearestWhole (sum (λ r. cond (is_kept c.n c.m v r) (ticks (v r)) (pos 0)) c.n) (kept_count c.n c.m)
      (trimmed_round c v).value

-- "A kept present reading has mark 1, a dropped one 2, a missing one 0; .. kept present places use their reading, all
-- other places and the estimate field show the new value"
pub record Shows (c : Settings) (v : Readings) : Type 0 where
  pub count : (trimmed_round c v).count ≡ kept_count c.n c.m
  pub estimate : (trimmed_round c v).estimate ≡ (trimmed_round c v).value
  pub kept :
      (r : ℕ) (z : ℤ) → v r ≡ present z → is_kept c.n c.m v r ≡ true
      → ((trimmed_round c v).mark r ≡ 1) × ((trimmed_round c v).used r ≡ z)
  pub dropped :
      (r : ℕ) (z : ℤ) → v r ≡ present z → is_kept c.n c.m v r ≡ false
      → ((trimmed_round c v).mark r ≡ 2) × ((trimmed_round c v).used r ≡ (trimmed_round c v).value)
  -- kept or not
  pub missing :
      (r : ℕ) → v r ≡ missing → ((trimmed_round c v).mark r ≡ 0) × ((trimmed_round c v).used r ≡ (trimmed_round c v).value)

pub record Trimmed (c : Settings) (v : Readings) : Type 0 where
  pub ordered : Ordered c.n v
  pub dropped : Dropped c.n c.m v
  pub some : (low : ℤ) × (high : ℤ) × Extremes c.n c.m v low high
  pub values : Values c v
  pub shows : Shows c v

abbrev pub TrimmedRounds : Type 0
TrimmedRounds = (c : Settings) (v : Readings) → 2 * c.m < c.n → Trimmed c v

-- ---- Of sheets, and of plans

pub record TrimmedSheets : Type 0 where
  -- a sheet by rule 2 or 3 settles to that round of the readings as they were sent
  pub round :
      (s : List ℕ) (D : ℕ) → trims (settings_at s).rule ≡ true
      → round_at s D ≡ trimmed_round (settings_at s) (entry_at s (settings_at s).n)
  -- "The estimator byte must be 0, else refusal 4"; "D must be 0 here, else refusal 16"
  pub asked :
      (s : List ℕ) (D : ℕ) (answer : List ℕ) (size : ℕ) → trims (settings_at s).rule ≡ true
      → (settle_spread s D answer).verdict ≡ granted size
      → ((settings_at s).rule ≤ trimmed_mean) × ((settings_at s).estimator ≡ average) × (D ≡ 0)
  -- "The planner still refuses these rules under 4": nothing by them is granted
  pub unplanned : (c : Settings) (κ k : ℕ) (p : Plan) → plan c κ k ≡ granted p → trims c.rule ≡ false
  pub unstepped : (p q : Plan) → step p ≡ granted q → trims p.settings.rule ≡ false
  pub uncounted : (c : Settings) (κ target k : ℕ) → Target c κ target (granted k) → trims c.rule ≡ false
