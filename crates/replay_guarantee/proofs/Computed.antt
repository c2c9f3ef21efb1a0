-- The claims of specs/Witnesses.antt. What the traces' replays give was computed (`traces_computed` of crate run); here
-- it is laid beside the limits. A check comes to this before it comes to the theorems.
-- Assumes nothing.
use mathlib.Core.Bool.{Bool, true, ◌&&◌}
use mathlib.Core.List.{List, [], ◌∷◌}
use mathlib.Core.Path.{◌≡◌, refl, ap}
use Prim.Native.Nat.{ℕ, zero, suc}
use native.Mathlib.Omega.{arith}
use borrow.Author.Tests.{ltb-true}
use lib.Dec.{ltb, lit<, lit≤}
use lib.IntN.{pos, nat_abs}
use Rattle.arithmetic.proofs.Bools.{and_left, and_right}
use Rattle.model.specs.Ensemble.{Reading, ticks}
use Rattle.model.specs.Planner.{after}
use Rattle.model.specs.Calls.{Outcome}
use Rattle.trace.specs.Trace.{sound_at, traced_station}
use Rattle.run.specs.Rounds.{below}
use Rattle.trace.specs.Traces.{once_trace, direct_trace_with, direct_trace, told_trace, silent_trace, first_trace_with, far_trace}
use Rattle.trace.proofs.ComputedTraces.{replayed, traces_computed}
use Rattle.sheet_laws.proofs.Words.{bytes-tested}
use Rattle.demand_3.proofs.Computed.Tested.{good-tested}
use Rattle.replay_guarantee.specs.Replayed.{Bytes, AlikeForSound, FewBad}
use Rattle.replay_guarantee.specs.Witnesses.{Meets, OnceReached, DirectReached, FarStays, SilentRefused}
use Rattle.replay_guarantee.specs.Witnesses.{ToldHeard}

-- ---- the limits

once-meets : Meets once_trace 0 (below 3) (pos 0)
unfolding replayed once_trace
once-meets =
    record {
      bytes = bytes-tested once_trace refl;
      passes = refl;
      goodness = good-tested (traced_station once_trace 0) (below 3) (pos 0) refl;
    }

once-few : FewBad once_trace 0 (below 3)
unfolding replayed once_trace
once-few = lit≤ tt

pub once-reached : OnceReached
once-reached =
    record {
      meets = once-meets;
      few = once-few;
      widest = rw traces_computed.once (unfold replayed after once_trace in refl);
      farthest = rw traces_computed.once (unfold replayed after once_trace in refl);
    }

direct-meets : Meets direct_trace 0 (below 3) (pos 0)
unfolding replayed direct_trace_with direct_trace
direct-meets =
    record {
      bytes = bytes-tested direct_trace refl;
      passes = refl;
      goodness = good-tested (traced_station direct_trace 0) (below 3) (pos 0) refl;
    }

direct-few : FewBad direct_trace 0 (below 3)
unfolding replayed direct_trace_with direct_trace
direct-few = lit≤ tt

pub direct-reached : DirectReached
direct-reached =
    record {
      meets = direct-meets;
      few = direct-few;
      widest = rw traces_computed.direct (unfold replayed after direct_trace_with direct_trace in refl);
    }

-- ---- no round

far-meets : Meets far_trace 1 (below 3) (pos 0)
unfolding replayed first_trace_with far_trace
far-meets =
    record {
      bytes = bytes-tested far_trace refl;
      passes = refl;
      goodness = good-tested (traced_station far_trace 1) (below 3) (pos 0) refl;
    }

pub far-stays : FarStays
far-stays =
    record {
      meets = far-meets;
      few = unfold replayed first_trace_with far_trace in lit≤ tt;
      no_round = unfold replayed first_trace_with far_trace in (λ h. omega arith);
      wider = rw traces_computed.far (unfold replayed after first_trace_with far_trace in lit< tt);
    }

-- ---- one bad cabinet more

silent-meets : Meets silent_trace 0 (sound_at silent_trace) (pos 0)
unfolding replayed silent_trace
silent-meets =
    record {
      bytes = bytes-tested silent_trace refl;
      passes = refl;
      goodness = good-tested (traced_station silent_trace 0) (sound_at silent_trace) (pos 0) refl;
    }

pub silent-refused : SilentRefused
silent-refused =
    record {
      meets = silent-meets;
      counts = unfold replayed silent_trace in refl;
      too_many = unfold replayed silent_trace in (λ few. omega arith);
      somebody = unfold replayed silent_trace in refl;
      refuses = ap (λ (o : Outcome). o.verdict) traces_computed.silent;
    }

-- ---- what cabinets receive

-- what cabinet 2 is told in the second round is 90, and 50
not_alike : ¬ AlikeForSound direct_trace told_trace
unfolding replayed direct_trace_with direct_trace told_trace
not_alike h =
    let told = h.sent 1 3 2 (lit< tt) (lit< tt) (lit< tt) refl in
    let differ : ◌≡◌ {A = ℕ} 90 50 = ap (λ (r : Reading). nat_abs (ticks r)) told in
    omega arith

pub told-heard : ToldHeard
told-heard =
    record {
      bytes = unfold replayed direct_trace_with told_trace in bytes-tested told_trace refl;
      passes = unfold replayed direct_trace_with told_trace in refl;
      not_alike = not_alike;
      value = rw traces_computed.direct (unfold replayed in refl);
      told-value = rw traces_computed.told (unfold replayed in refl);
    }
