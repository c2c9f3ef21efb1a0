-- Where the checks before 15 pass, a replay is what 15 says of its rounds, or else its values.
-- Assumes nothing.
use mathlib.Core.List.{List}
use mathlib.Core.Path.{◌≡◌, ap, ◌∙◌}
use Prim.Native.Nat.{ℕ, ◌*◌}
use lib.ListN.{length}
use Rattle.model.specs.RoundSheet.{settings_at, reading_bytes}
use Rattle.model.specs.Refusals.{Check, or_next}
use Rattle.model.specs.Calls.{written_after}
use Rattle.refusal_laws.proofs.Checks.{first_snoc}
use Rattle.trace.specs.Trace.{rounds_at}
use Rattle.trace.specs.Replay.{trace_checks, replay_checks, run_stopped, values_to, replay_to, replay}
use Rattle.replay_guarantee.specs.Replayed.{Passes}

module _ (s values : List ℕ) (pass : Passes s values) where
  -- of the checks only 15 can refuse
  pub replay-passed :
      replay s values
      ≡ written_after (run_stopped s (rounds_at s)) (4 * (settings_at s).n) (reading_bytes (values_to s (rounds_at s))) values
  unfolding replay replay_to replay_checks
  replay-passed =
      ap (λ (c : Check). written_after c (4 * (settings_at s).n) (reading_bytes (values_to s (rounds_at s))) values)
      (first_snoc (trace_checks s (length values)) (run_stopped s (rounds_at s))
      ∙ ap (λ (c : Check). or_next c (run_stopped s (rounds_at s))) pass)
