-- The traces of specs/Traces.antt, replayed: computed from their bytes to the last byte that is left.
-- Assumes nothing.
use mathlib.Core.Path.{refl}
use mathlib.Core.List.{List}
use Prim.Native.Nat.{ℕ}
use Rattle.model.specs.Calls.{Outcome}
use Rattle.run.specs.Run.{state_after}
use Rattle.trace.specs.Trace.{traced_entry}
use Rattle.trace.specs.Replay.{bad_trace, strange_role, sound_sent, bad_roles, refused_in, run_stopped}
use Rattle.trace.specs.Replay.{trace_checks, replay_checks, values_to, replay_to, replay}
use Rattle.trace.specs.Traces.{zeros, lent17, once_trace, direct_trace_with, direct_trace, told_trace, silent_trace}
use Rattle.trace.specs.Traces.{spoken_trace, strange_trace, long_trace, head_trace, first_trace_with, first_trace}
use Rattle.trace.specs.Traces.{far_trace, trimmed_trace, TracesComputed}
use Rattle.run.proofs.Computed.{computed}

-- a replay, with all that it computes by
unfoldable pub replayed : List ℕ → List ℕ → Outcome
unfolding computed state_after traced_entry bad_trace strange_role sound_sent bad_roles refused_in run_stopped
    trace_checks replay_checks values_to replay_to replay zeros lent17
replayed = replay

pub traces_computed : TracesComputed
traces_computed =
    record {
      once = unfold replayed once_trace in refl;
      direct = unfold replayed direct_trace_with direct_trace in refl;
      told = unfold replayed direct_trace_with told_trace in refl;
      silent = unfold replayed silent_trace in refl;
      spoken = unfold replayed spoken_trace in refl;
      strange = unfold replayed strange_trace in refl;
      long = unfold replayed long_trace in refl;
      head = unfold replayed head_trace in refl;
      trimmed_midpoints = unfold replayed trimmed_trace in refl;
      trimmed_means = unfold replayed trimmed_trace in refl;
      trimmed_medians = unfold replayed trimmed_trace in refl;
      first = unfold replayed first_trace_with first_trace in refl;
      far = unfold replayed first_trace_with far_trace in refl;
    }
