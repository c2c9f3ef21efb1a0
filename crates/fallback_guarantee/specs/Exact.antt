-- Document 02, "Paper 7. Fall back to the direct sheet": the limits of Guarantee.antt to the tick, and for an odd N, as
-- demand 3 has them (crates/demand_3/specs/Exact.antt and Odd.antt). The theorem is `fallback-exact` of
-- proofs/Guarantee.antt.
--   FallbackExact           what holds of all cabinets that are not refused, each by either of its sheets
--   FallbackExactLimits     of all stations, good sets and true values
use Rattle.std.specs.Prelude.{Bool, ◌≡◌, ℕ, ◌-◌, ◌%◌, ◌<◌, ℤ}
use Rattle.run.specs.Run.{Station, N, m}
use Rattle.demand_3.specs.Guarantee.{Good, bad}
use Rattle.demand_3.specs.Exact.{exact_gap, exact_error}
use Rattle.demand_3.specs.Odd.{odd_wide_gap}
use Rattle.fallback_guarantee.specs.Guarantee.{Apart, Astray}

pub record FallbackExact (st : Station) (good : ℕ → Bool) (true-value : ℤ) : Type 0 where
  pub precise : Apart st good (exact_gap st (bad st good))
  pub accurate : Astray st good true-value (exact_error st (bad st good))
  -- an odd N, where no mean is a half
  pub odd : N st % 2 ≡ 1 → Apart st good (odd_wide_gap st (bad st good))

abbrev pub FallbackExactLimits : Type 0
FallbackExactLimits =
    (st : Station) (good : ℕ → Bool) (true-value : ℤ) → Good st good true-value
    → bad st good < N st - m st → FallbackExact st good true-value
