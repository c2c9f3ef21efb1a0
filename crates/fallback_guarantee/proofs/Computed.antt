-- The claims of specs/Witnesses.antt: the checker computes them from what is sent, through every byte of every sheet. A
-- check comes to this before it comes to the theorems, so that a false limit is refused by its numbers.
-- Assumes nothing.
use mathlib.Core.Bool.{Bool, true, false, cond, ◌&&◌}
use mathlib.Core.List.{List, [], ◌∷◌}
use mathlib.Core.Path.{◌≡◌, refl}
use Prim.Native.Nat.{ℕ}
use lib.Dec.{eqb, lit<}
use lib.IntN.{pos, negsuc}
use Rattle.model.specs.Ensemble.{Reading, missing}
use Rattle.model.specs.Refusals.{sheet_checks}
use Rattle.sheet_pairs.specs.Fallback.{source_of, bad_pair, pair_checks, fallback_checks, Fallback, fallback}
use Rattle.run.specs.Run.{IsReading, Station, N, Sends, Allowed}
use Rattle.run.specs.Rounds.{below, listed, two_faced}
use Rattle.run.proofs.Computed.{computed}
use Rattle.demand_3.specs.Exact.{half_up, half_down}
use Rattle.demand_3.specs.Witnesses.{Meets}
use Rattle.demand_3.proofs.Computed.Tested.{all_fit, sends-tested, meets-tested}
use Rattle.fallback_guarantee.specs.Guarantee.{outcome}
use Rattle.fallback_guarantee.specs.Stations.{cabinet_of}
use Rattle.fallback_guarantee.specs.Witnesses.{turned, mixed_station, mixed_sends, odd_mixed_station, odd_mixed_sends}
use Rattle.fallback_guarantee.specs.Witnesses.{Mixed, MixedReached, OddMixedReached}

-- a cabinet's call, with all that it computes by: whoever unfolds it unfolds its line
unfoldable fallen : Station → ℕ → Sends → ℕ → Fallback
unfolding computed sheet_checks source_of bad_pair pair_checks fallback_checks fallback
fallen st estimator x p = outcome (cabinet_of st estimator x p)

turned-tested :
    (st : Station) (low high : Reading) (relays : List Reading)
    → (all_fit (low ∷ high ∷ []) && all_fit relays) ≡ true → Allowed st (turned (N st) low high relays)
unfolding listed
turned-tested st low high relays e =
    record {
      sent = λ r s. one_of (eqb s 1) high low (told.sent 0 1) (told.sent 0 0);
      relayed = λ r s p. one_of (eqb p 0) (listed relays r) missing (told.relayed 0 0 r) tt;
      room = told.room;
    }
  where
    told : Allowed st (two_faced (N st) (low ∷ high ∷ []) relays)
    told = sends-tested st (low ∷ high ∷ []) relays e

    one_of : (b : Bool) (y z : Reading) → IsReading y → IsReading z → IsReading (cond b y z)
    one_of true y z iy iz = iy
    one_of false y z iy iz = iz

mixed-meets : Meets mixed_station [] (below 2) (pos 1)
unfolding mixed_station
mixed-meets = meets-tested _ _ _ _ [] _ _ (unfold computed in (refl, refl, refl, refl)) tt

mixed-allowed : Allowed mixed_station mixed_sends
unfolding mixed_station mixed_sends
mixed-allowed = turned-tested mixed_station _ _ _ refl

mixed : Mixed mixed_station mixed_sends 2 (pos 1) (negsuc 1) (pos 4)
unfolding fallen mixed_station mixed_sends
mixed =
    record {
      starts = mixed-meets.starts;
      allowed = mixed-allowed;
      goodness = mixed-meets.goodness;
      low_settles = refl;
      low_value = refl;
      high_falls = refl;
      high_value = refl;
      window_passed = lit< tt;
      accuracy_passed = lit< tt;
    }

pub mixed-reached : MixedReached
unfolding fallen mixed_station mixed_sends half_up half_down
mixed-reached =
    record { mixed = mixed; counts = refl; widest = refl; same_gap = refl; farthest = refl }

odd-meets : Meets odd_mixed_station [] (below 4) (pos 0)
unfolding odd_mixed_station
odd-meets = meets-tested _ _ _ _ [] _ _ (unfold computed in (refl, refl, refl, refl)) tt

odd-allowed : Allowed odd_mixed_station odd_mixed_sends
unfolding odd_mixed_station odd_mixed_sends
odd-allowed = turned-tested odd_mixed_station _ _ _ refl

odd-mixed : Mixed odd_mixed_station odd_mixed_sends 4 (pos 0) (negsuc 4) (pos 12)
unfolding fallen odd_mixed_station odd_mixed_sends
odd-mixed =
    record {
      starts = odd-meets.starts;
      allowed = odd-allowed;
      goodness = odd-meets.goodness;
      low_settles = refl;
      low_value = refl;
      high_falls = refl;
      high_value = refl;
      window_passed = lit< tt;
      accuracy_passed = lit< tt;
    }

pub odd-mixed-reached : OddMixedReached
unfolding fallen odd_mixed_station odd_mixed_sends half_up half_down
odd-mixed-reached =
    record { mixed = odd-mixed; counts = refl; widest = refl; same_gap = refl; wider = refl; farthest = refl }
