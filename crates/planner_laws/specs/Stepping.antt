-- A plan taken forward one step at a time.
--   then_step    a step after what a call gave: a plan that was granted goes forward, a refusal stands
--   steps k     k steps after it
use Rattle.std.specs.Prelude.{ℕ, zero, suc}
use Rattle.model.specs.Planner.{Plan}
use Rattle.model.specs.Calls.{Verdict, granted, refused, step}

abbrev pub then_step : Verdict Plan → Verdict Plan
then_step (granted p) = step p
then_step (refused r) = refused r

unfoldable pub steps : ℕ → Verdict Plan → Verdict Plan
steps zero v = v
steps (suc k) v = then_step (steps k v)
