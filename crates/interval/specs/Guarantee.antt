-- Document 02, "Paper 6. How long between rounds": what the call gives, said of every R. The theorems are
-- `interval-guarantee` and `no_interval_reasons` of proofs/Guarantee.antt.
--   InRange             every input is in its range
--   IsInterval          the least and the greatest: both meet, all that meets lies between them, all between them meets
--   most_interval        the greatest R that there is, which Cases.antt reaches
--   Answered            an answer that is right
--   IntervalGuarantee   what the call gives is right, and nothing else is
--   NoIntervalWhy, NoIntervalReasons    the two reasons for there being none, which `plan` tells apart
use Rattle.std.specs.Prelude.{true, false, ◌⊎◌, ◌≡◌, ℕ, ◌≤◌, ◌<◌}
use Rattle.model.specs.Ensemble.{max_window}
use Rattle.model.specs.Refusals.{refusal, bad_interval_number, no_interval_number}
use Rattle.model.specs.Calls.{Verdict, granted, refused}
use Rattle.interval.specs.Interval.{max_precision, max_drift, stays_within, starts_within, meets, Interval, interval}

-- "From δ (0 to 1,000,000), precision c (0 to 1,000,000) and drift ρ of 1 to 1,000 parts per million"
pub record InRange (δ c r : ℕ) : Type 0 where
  pub window : δ ≤ max_window
  pub precision : c ≤ max_precision
  pub some_drift : 1 ≤ r
  pub drift : r ≤ max_drift

pub record IsInterval (δ c r : ℕ) (i : Interval) : Type 0 where
  pub least_meets : meets δ c r i.least ≡ true
  pub greatest_meets : meets δ c r i.greatest ≡ true
  pub all_between : (R : ℕ) → meets δ c r R ≡ true → (i.least ≤ R) × (R ≤ i.greatest)
  pub between_meets : (R : ℕ) → i.least ≤ R → R ≤ i.greatest → meets δ c r R ≡ true

-- it needs 40 bits
abbrev pub most_interval : ℕ
most_interval = 999_999_500_000

abbrev pub Answered : ℕ → ℕ → ℕ → Verdict Interval → Type 0
Answered δ c r (granted i) = InRange δ c r × (IsInterval δ c r i × (i.greatest ≤ most_interval))
Answered δ c r (refused x) =
    ((InRange δ c r → ⊥) × (x ≡ refusal bad_interval_number 0))
    ⊎ (InRange δ c r × (((R : ℕ) → meets δ c r R ≡ false) × (x ≡ refusal no_interval_number 0)))

pub record IntervalGuarantee : Type 0 where
  pub right : (δ c r : ℕ) → Answered δ c r (interval δ c r)
  pub only : (δ c r : ℕ) (v : Verdict Interval) → Answered δ c r v → v ≡ interval δ c r

pub record NoIntervalWhy (δ c r : ℕ) : Type 0 where
  -- the window is not wider than the precision: no R of at least 1 meets the first inequality
  pub narrow : δ ≤ c → (R : ℕ) → 1 ≤ R → stays_within δ c r R ≡ false
  -- else an R of 1 meets the first, and some R the second: there is none only where none meets both
  pub wide : c < δ → stays_within δ c r 1 ≡ true
  pub enough : ℕ
  pub second : (R : ℕ) → enough ≤ R → starts_within c r R ≡ true

abbrev pub NoIntervalReasons : Type 0
NoIntervalReasons = (δ c r : ℕ) → InRange δ c r → NoIntervalWhy δ c r
