-- Beyond what document 02 asks: what the two inequalities are for. Section 4.1 of document 004 argues it of sound
-- clocks; here both are said of all such clocks, whose rates may change, and each inequality holds just where its
-- sentence does. The theorems are `clocks_kept`, `intervals_kept`, `early-start` and `late-start` of
-- proofs/Clocks.antt. Readings and times are counted in k-ths of a tick, for every k, so that they are any fractions of
-- one.
--   Rated            what a sound clock goes in a true time
--   StaysTogether    two clocks, at most c apart, are at most δ apart until the slower has gone R
--   StartsTogether   a clock that is at most c behind comes to its next round at most R, in true time, after another
--   KeptWhere        each of the two inequalities holds just where its sentence does
--   ClocksKept       of every drift in its range
--   IntervalKept, IntervalsKept    so both sentences hold for an interval that is granted, and for no other R of at
--                    least 1
--   NeverEarly       what the paper wants of the second: a clock that has gone R twice, and was not set meanwhile,
--                    finds no other still in its first
--   EarlyStart       the second inequality is not enough for that, as one case shows; and what is
--   LateStart        the clock that is behind has gone R + c when it starts. The two can be more than δ apart by then,
--                    as one case shows; and what is enough for that
use Rattle.std.specs.Prelude.{true, ◌≡◌, ℕ, ◌+◌, ◌*◌, ◌-◌, ◌≤◌}
use Rattle.model.specs.Calls.{granted}
use Rattle.interval.specs.Interval.{max_drift, stays_within, starts_within, Interval, interval}

-- "Rate Restriction: |dc/dt - 1| < ρ/2", of a clock that goes a in the true time T; it may be ρ/2
pub record Rated (r T a : ℕ) : Type 0 where
  pub slowest : (2_000_000 - r) * T ≤ 2_000_000 * a
  pub fastest : 2_000_000 * a ≤ (2_000_000 + r) * T

-- the clocks read x and y at the start, and go a and b
abbrev pub StaysTogether : ℕ → ℕ → ℕ → ℕ → Type 0
StaysTogether δ c r R =
    (k T x y a b : ℕ) → x ≤ y + k * c → y ≤ x + k * c → Rated r T a → Rated r T b → a ≤ k * R
    → (x + a ≤ y + b + k * δ) × (y + b ≤ x + a + k * δ)

-- the one goes at most R + c in the true time T, the other at least R in the true time S
abbrev pub StartsTogether : ℕ → ℕ → ℕ → Type 0
StartsTogether c r R =
    (k S T a b : ℕ) → Rated r T a → a ≤ k * (R + c) → Rated r S b → k * R ≤ b → T ≤ S + k * R

pub record KeptWhere (δ c r R : ℕ) : Type 0 where
  pub stays : stays_within δ c r R ≡ true → StaysTogether δ c r R
  pub stays_only : StaysTogether δ c r R → stays_within δ c r R ≡ true
  pub starts : starts_within c r R ≡ true → StartsTogether c r R
  pub starts_only : StartsTogether c r R → starts_within c r R ≡ true

abbrev pub ClocksKept : Type 0
ClocksKept = (δ c r R : ℕ) → r ≤ max_drift → KeptWhere δ c r R

pub record IntervalKept (δ c r : ℕ) (i : Interval) : Type 0 where
  pub stays : (R : ℕ) → i.least ≤ R → R ≤ i.greatest → StaysTogether δ c r R
  pub starts : (R : ℕ) → i.least ≤ R → R ≤ i.greatest → StartsTogether c r R
  pub no_other : (R : ℕ) → 1 ≤ R → StaysTogether δ c r R → StartsTogether c r R → (i.least ≤ R) × (R ≤ i.greatest)

abbrev pub IntervalsKept : Type 0
IntervalsKept = (δ c r : ℕ) (i : Interval) → interval δ c r ≡ granted i → IntervalKept δ c r i

-- "the processor with the slowest clock has started its i-1st clock by the time the processor with the fastest clock
-- needs that value in order to start its ith clock". The paper compares with R in true time, in which a fast clock goes
-- more than R
abbrev pub NeverEarly : ℕ → ℕ → ℕ → Type 0
NeverEarly c r R =
    (k S T a b : ℕ) → Rated r T a → a ≤ k * (R + c) → Rated r S b → k * (R + R) ≤ b → T ≤ S

pub record EarlyStart : Type 0 where
  pub grants : interval 1_000_000 998_998 1000 ≡ granted (record { least = 1_000_499; greatest = 1_001_499 })
  pub early : NeverEarly 998_998 1000 1_000_499 → ⊥
  -- R ≥ c(2+ρ)/(2-3ρ), and no less
  pub enough : (c r R : ℕ) → r ≤ max_drift → c * (2_000_000 + r) ≤ R * (2_000_000 - 3 * r) → NeverEarly c r R
  pub no_less : (c r R : ℕ) → r ≤ max_drift → NeverEarly c r R → c * (2_000_000 + r) ≤ R * (2_000_000 - 3 * r)

pub record LateStart : Type 0 where
  pub late : StaysTogether 1_000_000 998_998 1000 (1_001_499 + 998_998) → ⊥
  -- R at most the greatest less c
  pub enough : (δ c r : ℕ) (i : Interval) → interval δ c r ≡ granted i
      → (R : ℕ) → i.least ≤ R → R + c ≤ i.greatest → StaysTogether δ c r (R + c)
