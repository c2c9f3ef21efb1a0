-- Rounds in which one sound cabinet settles its crusaders sheet and another falls back, and which reach the limits of
-- Guarantee.antt, so that none of them can be a tick tighter; they pass what is planned for the next round, so that "no
-- planned window follows". The checker computes them from what is sent, through every byte of every sheet. The theorems
-- are in proofs/Computed.antt.
--
--   turned                             what faulty cabinets send to cabinet 1, to the others, and relay to cabinet 0
--   mixed_station, mixed_sends           two of four bad
--   odd_mixed_station, odd_mixed_sends     three of seven bad
--   Mixed                              cabinet 0 settles its crusaders sheet, and cabinet 1 falls back
--   MixedReached, OddMixedReached      the limits that they reach
use Rattle.std.specs.Prelude.{cond, List, [], ◌∷◌, ◌≡◌, ℕ, ◌+◌, ◌<◌, eqb, ℤ, pos, negsuc, replicate}
use Rattle.model.specs.Ensemble.{Reading, missing}
use Rattle.model.specs.RoundSheet.{cca, median}
use Rattle.model.specs.AnswerSheet.{answer_length}
use Rattle.model.specs.Planner.{next_window, growth}
use Rattle.model.specs.Cases.{settings, at, minus}
use Rattle.sheet_pairs.specs.Fallback.{crusaders, direct}
use Rattle.run.specs.Run.{Station, κ, Start, Sends, Allowed}
use Rattle.run.specs.Rounds.{below, listed, station}
use Rattle.demand_3.specs.Guarantee.{apart, Good, bad, wide_gap, wide_error}
use Rattle.demand_3.specs.Exact.{exact_gap}
use Rattle.demand_3.specs.Odd.{odd_wide_gap}
use Rattle.fallback_guarantee.specs.Stations.{SettlesBy, value}

-- each faulty cabinet sends `high` to cabinet 1 and `low` to the others. To cabinet 0 it relays `relays`, the value of
-- cabinet 0, of cabinet 1, and so on; to the others nothing. The answer buffers hold 255s
abbrev pub turned : ℕ → Reading → Reading → List Reading → Sends
turned n low high relays =
    record {
      sent = λ r s. cond (eqb s 1) high low;
      relayed = λ r s p. cond (eqb p 0) (listed relays r) missing;
      buffer = λ p. replicate (answer_length n) 255;
    }

-- N 4, m 1, δ 2, κ 1; cabinets 0 and 1 are good and read 0 and 2 where true time is 1; 2 and 3 are faulty
unfoldable pub mixed_station : Station
mixed_station = station (settings 4 1 cca median 2) 1 2 (at 0 ∷ at 2 ∷ [])

unfoldable pub mixed_sends : Sends
mixed_sends = turned 4 (minus 2) (at 4) (at 0 ∷ at 2 ∷ minus 2 ∷ minus 2 ∷ [])

-- N 7, m 2, δ 7, κ 7; cabinets 0 to 3 are good and read 0, 0, 7, 7 where true time is 0; 4, 5 and 6 are faulty
unfoldable pub odd_mixed_station : Station
odd_mixed_station = station (settings 7 2 cca median 7) 7 4 (at 0 ∷ at 0 ∷ at 7 ∷ at 7 ∷ [])

unfoldable pub odd_mixed_sends : Sends
odd_mixed_sends =
    turned 7 (minus 7) (at 14) (at 0 ∷ at 0 ∷ at 7 ∷ at 7 ∷ minus 7 ∷ minus 7 ∷ minus 7 ∷ [])

-- the direct sheets settle by the median too
module _ (st : Station) (x : Sends) where
  pub record Mixed (goods : ℕ) (true-value low high : ℤ) : Type 0 where
    pub starts : Start st
    pub allowed : Allowed st x
    pub goodness : Good st (below goods) true-value
    -- cabinet 0 settles its crusaders sheet
    pub low_settles : SettlesBy st (λ p. median) x crusaders 0
    pub low_value : value st (λ p. median) x 0 ≡ low
    -- cabinet 1 falls back
    pub high_falls : SettlesBy st (λ p. median) x direct 1
    pub high_value : value st (λ p. median) x 1 ≡ high
    -- what is planned for the next round is passed: the window, and the accuracy
    pub window_passed : next_window st.settings < apart low high
    pub accuracy_passed : κ st + growth st.settings < apart high true-value

-- -2 and 4: the means, -6/4 and 14/4, are halves, and both go outward
pub record MixedReached : Type 0 where
  pub mixed : Mixed mixed_station mixed_sends 2 (pos 1) (negsuc 1) (pos 4)
  pub counts : bad mixed_station (below 2) ≡ 2
  -- 6
  pub widest : apart (negsuc 1) (pos 4) ≡ wide_gap mixed_station 2
  pub same_gap : exact_gap mixed_station 2 ≡ wide_gap mixed_station 2
  -- 3
  pub farthest : apart (pos 4) (pos 1) ≡ wide_error mixed_station 2

-- -5 and 12
pub record OddMixedReached : Type 0 where
  pub mixed : Mixed odd_mixed_station odd_mixed_sends 4 (pos 0) (negsuc 4) (pos 12)
  pub counts : bad odd_mixed_station (below 4) ≡ 3
  -- 17, where the wider limit is 18
  pub widest : apart (negsuc 4) (pos 12) ≡ odd_wide_gap odd_mixed_station 3
  pub same_gap : exact_gap odd_mixed_station 3 ≡ odd_wide_gap odd_mixed_station 3
  pub wider : wide_gap odd_mixed_station 3 ≡ 18
  -- 12
  pub farthest : apart (pos 12) (pos 0) ≡ wide_error odd_mixed_station 3
