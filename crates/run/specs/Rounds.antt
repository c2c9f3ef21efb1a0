-- Rounds of a run, written out and computed: a station, what its faulty cabinets send, and what the definitions of
-- Run.antt then give, which the checker computes through every byte of every sheet. The theorem is `rounds-computed` of
-- proofs/Computed.antt. Which limits these rounds reach is said in crates/demand_3/specs/Witnesses.antt.
--
--   below, listed, station, two_faced    runs written out as lists
--   held_after                           what cabinets hold after a round
--   wide_station, wide_sends ..           the stations, and what their faulty cabinets send
--   unstepped                           a state whose plan has not gone forward
--   RoundsComputed                      what the cabinets of these stations hold after their rounds
use Rattle.std.specs.Prelude.{Bool, List, [], ◌∷◌, ◌≡◌, ℕ, zero, suc, ltb, get_or, replicate}
use Rattle.arithmetic.specs.Writing.{table}
use Rattle.model.specs.declared.Settings.{Settings}
use Rattle.model.specs.Ensemble.{Reading, missing, Readings}
use Rattle.model.specs.RoundSheet.{fca, cca, average, median, midpoint}
use Rattle.model.specs.AnswerSheet.{answer_length}
use Rattle.model.specs.Refusals.{refusal, too_many_faults_number}
use Rattle.model.specs.Calls.{refused}
use Rattle.model.specs.Cases.{settings, at, minus}
use Rattle.run.specs.Run.{Station, Sends, State, start, next, settled, state_after}

-- ---- Runs written out

-- the cabinets 0 to k-1
abbrev pub below : ℕ → ℕ → Bool
below k p = ltb p k

-- readings as a list; those past its end are missing
unfoldable pub listed : List Reading → Readings
listed readings p = get_or readings p missing

-- settings, κ, the number of sound cabinets (they come first), and their first readings
abbrev pub station : Settings → ℕ → ℕ → List Reading → Station
station c κ sound first = record { settings = c; accuracy = κ; sound = below sound; first = listed first }

-- each faulty cabinet sends to cabinet 0 the first reading of `told`, to cabinet 1 the second, and so on. Under CCA it
-- relays likewise what `relays` has, as the value of every cabinet. The answer buffers are just long enough, and hold
-- 255s
abbrev pub two_faced : ℕ → List Reading → List Reading → Sends
two_faced n told relays =
    record {
      sent = λ r. listed told;
      relayed = λ r s. listed relays;
      buffer = λ p. replicate (answer_length n) 255;
    }

-- what cabinets 0 to k-1 hold after a round
abbrev pub held_after : Station → State → Sends → ℕ → List Reading
held_after st now x k = table (next st now x).held k

-- the same readings with a plan that has not gone forward: the window of the first round once more
abbrev pub unstepped : Station → State → State
unstepped st now = record { plan = (start st).plan; held = now.held }

-- ---- More than m bad

-- N 7, m 2, δ 8, κ 8; cabinets 0 to 3 are good and read 0, 0, 8, 8 where true time is 0; 4, 5 and 6 are faulty
unfoldable pub wide_station : Station
wide_station = station (settings 7 2 fca median 8) 8 4 (at 0 ∷ at 0 ∷ at 8 ∷ at 8 ∷ [])

-- the three send -8 to cabinet 0 and 16 to cabinet 1
unfoldable pub wide_sends : Sends
wide_sends = two_faced 7 (minus 8 ∷ at 16 ∷ []) []

-- N 7, m 2, δ 2, κ 2; cabinets 0 to 3 are good and read 0, 0, 2, 2 where true time is 0; 4, 5 and 6 are faulty
unfoldable pub exact_station : Station
exact_station = station (settings 7 2 fca median 2) 2 4 (at 0 ∷ at 0 ∷ at 2 ∷ at 2 ∷ [])

-- the three send -2 to cabinet 0 and 4 to cabinet 1
unfoldable pub exact_sends : Sends
exact_sends = two_faced 7 (minus 2 ∷ at 4 ∷ []) []

-- N 7, m 2, δ 7, κ 7; cabinets 0 to 3 are good and read 0, 0, 7, 7 where true time is 0; 4, 5 and 6 are faulty
unfoldable pub odd_wide_station : Station
odd_wide_station = station (settings 7 2 fca median 7) 7 4 (at 0 ∷ at 0 ∷ at 7 ∷ at 7 ∷ [])

-- the three send -7 to cabinet 0 and 14 to cabinet 1
unfoldable pub odd_wide_sends : Sends
odd_wide_sends = two_faced 7 (minus 7 ∷ at 14 ∷ []) []

-- N 4, m 1, δ 2, κ 1; cabinets 0 and 1 are good and read 0 and 2 where true time is 1; 2 and 3 are faulty
unfoldable pub half_station : Station
half_station = station (settings 4 1 fca median 2) 1 2 (at 0 ∷ at 2 ∷ [])

-- the two send -2 to cabinet 0 and 4 to cabinet 1
unfoldable pub half_sends : Sends
half_sends = two_faced 4 (minus 2 ∷ at 4 ∷ []) []

-- ---- At most m bad

-- N 4, m 1, δ 2, κ 0; cabinets 0, 1, 2 are good and read 1, which is true time; 3 is faulty
unfoldable pub close_station : Station
close_station = station (settings 4 1 fca median 2) 0 3 (at 1 ∷ at 1 ∷ at 1 ∷ [])

-- it sends -1 to cabinet 0, 3 to cabinet 1 and nothing to cabinet 2
unfoldable pub close_sends : Sends
close_sends = two_faced 4 (minus 1 ∷ at 3 ∷ []) []

-- N 4, m 1, δ 2, κ 1; cabinets 0, 1, 2 are good and read 0, 1, 2 where true time is 1; 3 is faulty
unfoldable pub one_more_station : Station
one_more_station = station (settings 4 1 fca median 2) 1 3 (at 0 ∷ at 1 ∷ at 2 ∷ [])

-- it sends 3 to cabinet 0, -1 to cabinet 1 and nothing to cabinet 2
unfoldable pub one_more_sends : Sends
one_more_sends = two_faced 4 (at 3 ∷ minus 1 ∷ []) []

-- N 7, m 2, δ 7, κ 0; cabinets 0 to 4 are good and read 0, which is true time; 5 and 6 are faulty
unfoldable pub odd_close_station : Station
odd_close_station = station (settings 7 2 fca median 7) 0 5 (at 0 ∷ at 0 ∷ at 0 ∷ at 0 ∷ at 0 ∷ [])

-- they send -7 to cabinet 0, 7 to cabinet 1 and nothing to the others
unfoldable pub odd_close_sends : Sends
odd_close_sends = two_faced 7 (minus 7 ∷ at 7 ∷ []) []

-- the same by CCA with median
unfoldable pub odd_rows_station : Station
odd_rows_station = station (settings 7 2 cca median 7) 0 5 (at 0 ∷ at 0 ∷ at 0 ∷ at 0 ∷ at 0 ∷ [])

-- they send 7 to cabinets 0, 1 and 2, and relay 7 to cabinet 0 alone: their rows are decided there, and elsewhere they
-- are known faulty
unfoldable pub odd_rows_sends : Sends
odd_rows_sends = two_faced 7 (at 7 ∷ at 7 ∷ at 7 ∷ []) (at 7 ∷ [])

-- N 4, m 1, δ 0, κ 0; cabinets 0, 1, 2 are good and read 5, which is true time; 3 is faulty
unfoldable pub still_station : Station
still_station = station (settings 4 1 fca median 0) 0 3 (at 5 ∷ at 5 ∷ at 5 ∷ [])

-- it sends 4 to cabinet 0, 6 to cabinet 1 and 5 to cabinet 2
unfoldable pub still_sends : Sends
still_sends = two_faced 4 (at 4 ∷ at 6 ∷ at 5 ∷ []) []

-- N 2, m 0, δ 1, κ 1; both are good and read 0 and 1 where true time is 0
unfoldable pub pair_station : Station
pair_station = station (settings 2 0 fca median 1) 1 2 (at 0 ∷ at 1 ∷ [])

unfoldable pub pair_sends : Sends
pair_sends = two_faced 2 [] []

-- N 4, m 1, δ 4, κ 2; cabinets 0, 1, 2 are good and read 0, 0, 2 where true time is 0; 3 is faulty
unfoldable pub median_station : Station
median_station = station (settings 4 1 cca median 4) 2 3 (at 0 ∷ at 0 ∷ at 2 ∷ [])

-- it sends 4 to cabinets 0 and 1, and relays 4 to cabinet 0 alone: its row is decided there, and elsewhere it is known
-- faulty
unfoldable pub median_sends : Sends
median_sends = two_faced 4 (at 4 ∷ at 4 ∷ []) (at 4 ∷ [])

-- N 4, m 1, δ 3, κ 1; cabinets 0, 1, 2 are good and read 0, 1, 1 where true time is 1; 3 is faulty
unfoldable pub average_station : Station
average_station = station (settings 4 1 cca average 3) 1 3 (at 0 ∷ at 1 ∷ at 1 ∷ [])

-- its row is decided 4 at cabinet 0 alone
unfoldable pub average_sends : Sends
average_sends = two_faced 4 (at 4 ∷ at 4 ∷ []) (at 4 ∷ [])

-- ---- Faulty cabinets, and sound ones with a bad first reading

-- N 7, m 2, δ 10, κ 10; cabinets 0 to 4 are good and read 0, 0, 10, 10, 10 where true time is 0; 5 is sound and holds
-- 20; 6 is faulty
unfoldable pub both_station : Station
both_station = station (settings 7 2 fca median 10) 10 6 (at 0 ∷ at 0 ∷ at 10 ∷ at 10 ∷ at 10 ∷ at 20 ∷ [])

-- it sends 20 to cabinet 0, which is case 7, and 0 to the others, which is case 8
unfoldable pub both_sends : Sends
both_sends = two_faced 7 (at 20 ∷ at 0 ∷ at 0 ∷ at 0 ∷ at 0 ∷ at 0 ∷ []) []

-- N 4, m 1, δ 10, κ 0; cabinets 0 and 1 are good and read 0, which is true time; 2 is sound and holds 100; 3 is faulty
unfoldable pub mixed_station : Station
mixed_station = station (settings 4 1 fca median 10) 0 3 (at 0 ∷ at 0 ∷ at 100 ∷ [])

-- it sends everybody -100
unfoldable pub mixed_sends : Sends
mixed_sends = two_faced 4 (minus 100 ∷ minus 100 ∷ minus 100 ∷ []) []

-- ---- Two rounds

-- FCA with midpoint: N 4, m 1, windows 100, 51, 26, κ 0; cabinets 0, 1, 2 are good and read 0, which is true time; 3 is
-- faulty
unfoldable pub direct_station : Station
direct_station = station (settings 4 1 fca midpoint 100) 0 3 (at 0 ∷ at 0 ∷ at 0 ∷ [])

unfoldable pub direct_first : Sends
direct_first = two_faced 4 (minus 100 ∷ at 100 ∷ at 0 ∷ []) []

unfoldable pub direct_second : Sends
direct_second = two_faced 4 (minus 51 ∷ at 51 ∷ at 90 ∷ []) []

-- after the first round
unfoldable pub direct_next : State
direct_next = next direct_station (start direct_station) direct_first

-- what it sends, round after round
unfoldable pub direct_sends : ℕ → Sends
direct_sends zero = direct_first
direct_sends (suc k) = direct_second

-- CCA with median: N 4, m 1, windows 102, 26, 7, κ 0; cabinets 0, 1, 2 are good and read 0, which is true time; 3 is
-- faulty
unfoldable pub crusaders_station : Station
crusaders_station = station (settings 4 1 cca median 102) 0 3 (at 0 ∷ at 0 ∷ at 0 ∷ [])

-- its row is decided 102 at cabinet 0 alone
unfoldable pub crusaders_first : Sends
crusaders_first = two_faced 4 (at 102 ∷ at 102 ∷ []) (at 102 ∷ [])

-- its row is decided 50 at cabinet 1 alone
unfoldable pub crusaders_second : Sends
crusaders_second = two_faced 4 (at 50 ∷ at 50 ∷ []) (missing ∷ at 50 ∷ [])

-- after the first round
unfoldable pub crusaders_next : State
crusaders_next = next crusaders_station (start crusaders_station) crusaders_first

-- ---- What the cabinets hold

pub record RoundsComputed : Type 0 where
  -- cabinets 2 and 3 refuse
  pub wide : held_after wide_station (start wide_station) wide_sends 4 ≡ minus 6 ∷ at 14 ∷ missing ∷ missing ∷ []
  pub exact : held_after exact_station (start exact_station) exact_sends 4 ≡ minus 1 ∷ at 3 ∷ missing ∷ missing ∷ []
  pub odd_wide :
      held_after odd_wide_station (start odd_wide_station) odd_wide_sends 4 ≡ minus 5 ∷ at 12 ∷ missing ∷ missing ∷ []
  -- the used values add up to -6 and to 14: the means are -1 1/2 and 3 1/2
  pub half : held_after half_station (start half_station) half_sends 2 ≡ minus 2 ∷ at 4 ∷ []
  -- the used values add up to 2 and to 6: the means are a half and 1 1/2
  pub close : held_after close_station (start close_station) close_sends 3 ≡ at 0 ∷ at 2 ∷ at 1 ∷ []
  -- 6/4 goes to 2 and 2/4 to 0
  pub one_more : held_after one_more_station (start one_more_station) one_more_sends 3 ≡ at 2 ∷ at 0 ∷ at 1 ∷ []
  pub odd_close :
      held_after odd_close_station (start odd_close_station) odd_close_sends 5 ≡ minus 2 ∷ at 2 ∷ at 0 ∷ at 0 ∷ at 0 ∷ []
  pub odd_rows :
      held_after odd_rows_station (start odd_rows_station) odd_rows_sends 5 ≡ at 2 ∷ at 0 ∷ at 0 ∷ at 0 ∷ at 0 ∷ []
  pub still : held_after still_station (start still_station) still_sends 3 ≡ at 5 ∷ at 5 ∷ at 5 ∷ []
  pub pair : held_after pair_station (start pair_station) pair_sends 2 ≡ at 0 ∷ at 0 ∷ []
  pub median : held_after median_station (start median_station) median_sends 3 ≡ at 2 ∷ at 0 ∷ at 0 ∷ []
  pub average : held_after average_station (start average_station) average_sends 3 ≡ at 2 ∷ at 0 ∷ at 0 ∷ []
  pub both : held_after both_station (start both_station) both_sends 6 ≡ at 10 ∷ at 4 ∷ at 4 ∷ at 4 ∷ at 4 ∷ at 4 ∷ []
  -- "too many faults"
  pub mixed : (settled mixed_station (start mixed_station) mixed_sends 0).verdict ≡ refused (refusal too_many_faults_number 0)
  pub direct-first : table direct_next.held 3 ≡ minus 25 ∷ at 25 ∷ at 0 ∷ []
  pub direct-second : held_after direct_station direct_next direct_second 3 ≡ minus 13 ∷ at 13 ∷ at 0 ∷ []
  -- the run of both rounds
  pub direct-run : table (state_after direct_station direct_sends 2).held 3 ≡ minus 13 ∷ at 13 ∷ at 0 ∷ []
  -- settled at the first window cabinet 2 would accept the 90, and be 35 from cabinet 0
  pub direct_repeated :
      held_after direct_station (unstepped direct_station direct_next) direct_second 3 ≡ minus 13 ∷ at 13 ∷ at 22 ∷ []
  pub crusaders-first : table crusaders_next.held 3 ≡ at 26 ∷ at 0 ∷ at 0 ∷ []
  pub crusaders-second : held_after crusaders_station crusaders_next crusaders_second 3 ≡ at 6 ∷ at 6 ∷ at 6 ∷ []
  -- settled at the first window cabinet 1 would accept the 50, and be 13 from the others
  pub crusaders_repeated :
      held_after crusaders_station (unstepped crusaders_station crusaders_next) crusaders_second 3
      ≡ at 6 ∷ at 19 ∷ at 6 ∷ []
