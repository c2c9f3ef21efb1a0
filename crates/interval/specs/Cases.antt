-- Numbers of the interval, computed; the theorem is `interval-cases` of proofs/Cases.antt. The first three are those
-- that document 02's request 6 was taken up with.
--   from              an interval
--   IntervalCases     what the call gives
use Rattle.std.specs.Prelude.{◌≡◌, ℕ}
use Rattle.model.specs.Refusals.{refusal, bad_interval_number, no_interval_number}
use Rattle.model.specs.Calls.{Verdict, granted, refused}
use Rattle.interval.specs.Interval.{Interval, interval}
use Rattle.interval.specs.Guarantee.{most_interval}

abbrev pub from : ℕ → ℕ → Verdict Interval
from least greatest = granted (record { least = least; greatest = greatest })

abbrev pub none_there : Verdict Interval
none_there = refused (refusal no_interval_number 0)

abbrev pub out : Verdict Interval
out = refused (refusal bad_interval_number 0)

pub record IntervalCases : Type 0 where
  -- one R, and none with a window and a precision that are three ticks larger
  pub single : interval 998 997 1000 ≡ from 999 999
  pub eaten : interval 1001 1000 1000 ≡ none_there
  -- a precision of 0
  pub perfect : interval 1 0 1 ≡ from 1 999_999
  -- the widest window, and no R is greater
  pub widest : interval 1_000_000 0 1 ≡ from 1 most_interval
  -- without ρ² the least would be 667
  pub squared : interval 667 666 1000 ≡ from 668 999
  -- a window that is not wider than the precision
  pub equal : interval 5 5 1 ≡ none_there
  pub narrower : interval 4 5 1 ≡ none_there
  -- three, with a precision near the widest window; and all inputs at the upper ends of their ranges
  pub three : interval 1_000_000 999_000 999 ≡ from 1_000_499 1_000_501
  pub ends : interval 1_000_000 1_000_000 1000 ≡ none_there
  -- an input just outside its range; of these the last three have no R that meets both either, and 17 comes first
  pub wide : interval 1_000_001 0 1 ≡ out
  pub imprecise : interval 5 1_000_001 1 ≡ out
  pub driftless : interval 4 5 0 ≡ out
  pub fast : interval 5 5 1001 ≡ out
