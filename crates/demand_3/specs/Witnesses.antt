-- Rounds that reach the limits of demand 3, so that none of them can be a tick tighter: the rounds that
-- crates/run/specs/Rounds.antt writes out, with what their cabinets hold then, beside the limits of Guarantee.antt. The
-- theorems are in proofs/Computed/Witnesses.antt.
--
--   gap, error                how far two cabinets are apart after a round, how far one is from true time
--   faulty_count               how many cabinets are faulty
--   Meets                     what demand 3 asks of a run before it promises anything
--   WideReached               three of seven are bad: both limits for m < t < N-m, those of Guarantee.antt and the
--                             exact ones
--   ExactReached              the same at a window of 2: the exact limits, which are below those there
--   HalfReached               two of four are bad: the exact limits and the gap of Guarantee.antt, where the means are
--                             halves
--   CloseReached              FCA: both limits for t ≤ m
--   OneMoreNeeded             where 2mδ/N is whole, ⌈2mδ/N⌉ can be too small for the next window
--   OddReached                seven cabinets with a window of 7: the limits for an odd N, below those for any
--   PairAlike, StillAlike     two cabinets, m 0; four, δ 0: they hold one value
--   MedianReached             CCA with median: the next window by mδ/N
--   AverageReached            CCA with average: the next window by 2mδ/N, where that by mδ/N would be too small
--   BothKindsCounted          t counts sound cabinets with a bad first reading: cases 7 and 8 as one round, which
--                             passes the limit of the paper's Theorem 2
--   MixedRefused              the same: at most m are faulty, yet a sound cabinet refuses
--   DirectRounds, CrusadersRounds       FCA and CCA: two rounds, the second settled at the second window
use Rattle.std.specs.Prelude.{Bool, not, List, [], ◌∷◌, ◌≡◌, ℕ, ◌*◌, ◌≤◌, ◌<◌, ℤ, pos, length}
use Rattle.arithmetic.specs.Counting.{count}
use Rattle.model.specs.Planner.{ceil_div, past_div, max_rounds}
use Rattle.model.specs.Refusals.{refusal, too_many_faults_number}
use Rattle.model.specs.Calls.{refused}
use Rattle.run.specs.Run.{Station, N, m, δ, Start, Sends, Allowed, State, start, settled}
use Rattle.run.specs.Rounds.{below, wide_station, wide_sends, exact_station, exact_sends, half_station, half_sends}
use Rattle.run.specs.Rounds.{close_station, close_sends, one_more_station, one_more_sends, median_station, median_sends}
use Rattle.run.specs.Rounds.{average_station, average_sends}
use Rattle.run.specs.Rounds.{odd_wide_station, odd_wide_sends, odd_close_station, odd_close_sends, pair_station, pair_sends}
use Rattle.run.specs.Rounds.{odd_rows_station, odd_rows_sends, still_station, still_sends}
use Rattle.run.specs.Rounds.{both_station, both_sends, mixed_station, mixed_sends}
use Rattle.run.specs.Rounds.{direct_station, direct_first, direct_second, direct_next}
use Rattle.run.specs.Rounds.{crusaders_station, crusaders_first, crusaders_second, crusaders_next}
use Rattle.demand_3.specs.Guarantee.{new_value, apart, Good, bad, close_gap, close_error, wide_gap, wide_error, Each}
use Rattle.demand_3.specs.Exact.{exact_gap, exact_error}
use Rattle.demand_3.specs.Odd.{odd_close_gap, odd_wide_gap}

abbrev pub gap : Station → State → Sends → ℕ → ℕ → ℕ
gap st now x p q = apart (new_value st now x p) (new_value st now x q)

abbrev pub error : Station → State → Sends → ℕ → ℤ → ℕ
error st now x p true-value = apart (new_value st now x p) true-value

-- how many of the N are faulty
abbrev pub faulty_count : Station → ℕ
faulty_count st = count (λ p. not (st.sound p)) (N st)

pub record Meets (st : Station) (rounds : List Sends) (good : ℕ → Bool) (true-value : ℤ) : Type 0 where
  pub starts : Start st
  pub most : length rounds ≤ max_rounds
  pub allowed : Each (Allowed st) rounds
  pub goodness : Good st good true-value

-- ---- More than m bad

pub record WideReached : Type 0 where
  pub meets : Meets wide_station (wide_sends ∷ []) (below 4) (pos 0)
  pub counts : bad wide_station (below 4) ≡ 3
  -- 20
  pub widest : gap wide_station (start wide_station) wide_sends 0 1 ≡ wide_gap wide_station 3
  -- 14
  pub farthest : error wide_station (start wide_station) wide_sends 1 (pos 0) ≡ wide_error wide_station 3
  -- the exact limits are the same here
  pub same_gap : exact_gap wide_station 3 ≡ wide_gap wide_station 3
  pub same-error : exact_error wide_station 3 ≡ wide_error wide_station 3

pub record ExactReached : Type 0 where
  pub meets : Meets exact_station (exact_sends ∷ []) (below 4) (pos 0)
  pub counts : bad exact_station (below 4) ≡ 3
  -- 4, where the wider limit is the whole part of 34/7 plus one, 5
  pub widest : gap exact_station (start exact_station) exact_sends 0 1 ≡ exact_gap exact_station 3
  pub document_gap : wide_gap exact_station 3 ≡ 5
  -- 3, where the wider limit is 2 + ⌈10/7⌉ = 4
  pub farthest : error exact_station (start exact_station) exact_sends 1 (pos 0) ≡ exact_error exact_station 3
  pub document_error : wide_error exact_station 3 ≡ 4

pub record HalfReached : Type 0 where
  pub meets : Meets half_station (half_sends ∷ []) (below 2) (pos 1)
  pub counts : bad half_station (below 2) ≡ 2
  -- 6: the means, -1 1/2 and 3 1/2, both go outward
  pub widest : gap half_station (start half_station) half_sends 0 1 ≡ exact_gap half_station 2
  pub same_gap : exact_gap half_station 2 ≡ wide_gap half_station 2
  -- 3
  pub farthest : error half_station (start half_station) half_sends 1 (pos 1) ≡ exact_error half_station 2

-- ---- At most m bad

pub record CloseReached : Type 0 where
  pub meets : Meets close_station (close_sends ∷ []) (below 3) (pos 1)
  pub counts : bad close_station (below 3) ≡ 1
  -- 2
  pub widest :
      gap close_station (start close_station) close_sends 0 1
      ≡ close_gap close_station (start close_station) close_sends
  -- 1
  pub farthest :
      error close_station (start close_station) close_sends 1 (pos 1)
      ≡ close_error close_station (start close_station) close_sends

-- N 4, m 1, δ 2: 2mδ/N is 1, and the means of 6/4 and 2/4 go to 2 and 0
pub record OneMoreNeeded : Type 0 where
  pub meets : Meets one_more_station (one_more_sends ∷ []) (below 3) (pos 1)
  pub counts : bad one_more_station (below 3) ≡ 1
  -- 2
  pub widest :
      gap one_more_station (start one_more_station) one_more_sends 0 1
      ≡ close_gap one_more_station (start one_more_station) one_more_sends
  -- ⌈4/4⌉ is 1
  pub above :
      ceil_div (2 * (m one_more_station * δ one_more_station)) (N one_more_station)
      < gap one_more_station (start one_more_station) one_more_sends 0 1

pub record OddReached : Type 0 where
  pub meets : Meets odd_close_station (odd_close_sends ∷ []) (below 5) (pos 0)
  pub counts : bad odd_close_station (below 5) ≡ 2
  -- 4, where the next window is 5
  pub widest :
      gap odd_close_station (start odd_close_station) odd_close_sends 0 1
      ≡ odd_close_gap odd_close_station (start odd_close_station)
  pub next-window : close_gap odd_close_station (start odd_close_station) odd_close_sends ≡ 5
  pub rows-meets : Meets odd_rows_station (odd_rows_sends ∷ []) (below 5) (pos 0)
  pub rows-counts : bad odd_rows_station (below 5) ≡ 2
  -- 2, where the next window is 3
  pub rows-widest :
      gap odd_rows_station (start odd_rows_station) odd_rows_sends 0 1
      ≡ odd_close_gap odd_rows_station (start odd_rows_station)
  pub rows-next-window : close_gap odd_rows_station (start odd_rows_station) odd_rows_sends ≡ 3
  pub more-meets : Meets odd_wide_station (odd_wide_sends ∷ []) (below 4) (pos 0)
  pub more-counts : bad odd_wide_station (below 4) ≡ 3
  -- 17, where the wider limit is 18
  pub more-widest : gap odd_wide_station (start odd_wide_station) odd_wide_sends 0 1 ≡ odd_wide_gap odd_wide_station 3
  pub wider : wide_gap odd_wide_station 3 ≡ 18
  -- 12: what a round adds to the accuracy is a whole number here, with nothing more
  pub more-farthest : error odd_wide_station (start odd_wide_station) odd_wide_sends 1 (pos 0) ≡ wide_error odd_wide_station 3

-- 0 and 1 are settled to 0 by both
pub record PairAlike : Type 0 where
  pub meets : Meets pair_station (pair_sends ∷ []) (below 2) (pos 0)
  pub counts : bad pair_station (below 2) ≡ 0
  pub no_window : close_gap pair_station (start pair_station) pair_sends ≡ 0
  pub none_apart : gap pair_station (start pair_station) pair_sends 0 1 ≡ 0

-- all are settled to 5, whatever the faulty one sends
pub record StillAlike : Type 0 where
  pub meets : Meets still_station (still_sends ∷ []) (below 3) (pos 5)
  pub counts : bad still_station (below 3) ≡ 1
  pub no_window : close_gap still_station (start still_station) still_sends ≡ 0
  pub none_apart : gap still_station (start still_station) still_sends 0 1 ≡ 0

pub record MedianReached : Type 0 where
  pub meets : Meets median_station (median_sends ∷ []) (below 3) (pos 0)
  pub counts : bad median_station (below 3) ≡ 1
  -- 2
  pub widest :
      gap median_station (start median_station) median_sends 0 1
      ≡ close_gap median_station (start median_station) median_sends

pub record AverageReached : Type 0 where
  pub meets : Meets average_station (average_sends ∷ []) (below 3) (pos 1)
  pub counts : bad average_station (below 3) ≡ 1
  -- 2
  pub widest :
      gap average_station (start average_station) average_sends 0 1
      ≡ close_gap average_station (start average_station) average_sends
  -- by mδ/N it would be 1
  pub above :
      past_div (m average_station * δ average_station) (N average_station)
      < gap average_station (start average_station) average_sends 0 1

-- ---- What t counts

pub record BothKindsCounted : Type 0 where
  pub meets : Meets both_station (both_sends ∷ []) (below 5) (pos 0)
  pub counts : bad both_station (below 5) ≡ 2
  pub faulty : faulty_count both_station ≡ 1
  -- "The gap from 7 is 6 = ⌈40/7⌉"
  pub widest : gap both_station (start both_station) both_sends 0 1 ≡ close_gap both_station (start both_station) both_sends
  -- with the faulty ones alone, as in the paper's Theorem 2, the limit by 20/7 would be 3
  pub above :
      past_div (2 * (faulty_count both_station * δ both_station)) (N both_station)
      < gap both_station (start both_station) both_sends 0 1

pub record MixedRefused : Type 0 where
  pub meets : Meets mixed_station (mixed_sends ∷ []) (below 2) (pos 0)
  pub counts : bad mixed_station (below 2) ≡ 2
  -- no more than m are faulty
  pub faulty : faulty_count mixed_station ≡ m mixed_station
  -- "too many faults"
  pub refuses :
      (settled mixed_station (start mixed_station) mixed_sends 0).verdict ≡ refused (refusal too_many_faults_number 0)

-- ---- Two rounds

pub record DirectRounds : Type 0 where
  pub meets : Meets direct_station (direct_first ∷ direct_second ∷ []) (below 3) (pos 0)
  pub counts : bad direct_station (below 3) ≡ 1
  -- 26
  pub widest : gap direct_station direct_next direct_second 0 1 ≡ close_gap direct_station direct_next direct_second

pub record CrusadersRounds : Type 0 where
  pub meets : Meets crusaders_station (crusaders_first ∷ crusaders_second ∷ []) (below 3) (pos 0)
  pub counts : bad crusaders_station (below 3) ≡ 1
  -- 26
  pub widest :
      gap crusaders_station (start crusaders_station) crusaders_first 0 1
      ≡ close_gap crusaders_station (start crusaders_station) crusaders_first
  -- 26
  pub farthest :
      error crusaders_station (start crusaders_station) crusaders_first 0 (pos 0)
      ≡ close_error crusaders_station (start crusaders_station) crusaders_first
  pub limit : close_gap crusaders_station crusaders_next crusaders_second ≡ 7
