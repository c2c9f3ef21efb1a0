-- Document 01, "Limits for sound cabinets", in numbers: what the guarantee states for t bad cabinets.
--   Stated       the planned limits, the wider ones, nothing, or a refusal. The wider ones: the gap and error of
--                documents 01 and 02, the exact gap and error, and whether a round is known to reach both of these
--   bounds       what is stated of settings and an accuracy that the planner grants
--   stated       what is stated of any
--   wider_at      the wider limits
--   limits_of, stated_of    what the limits say in these terms; what the call does
use Rattle.std.specs.Prelude.{Result, Ok, Err, Bool, true, cond, ℕ, ◌-◌, leb}
use Rattle.std.proofs.Math.Option.{none, some}
use Rattle.model.specs.declared.Settings.{Settings}
use Rattle.model.specs.Refusals.{Refusal}
use Rattle.model.specs.Ensemble.{missing}
use Rattle.model.specs.Refusals.{Check, first_of, plan_checks}
use Rattle.run.specs.Run.{Station}
use Rattle.reached_limits.specs.Reached.{reachable}
use Rattle.demand_3.specs.Guarantee.{wide_gap, wide_error}
use Rattle.demand_3.specs.Exact.{exact_gap, exact_error}
use Rattle.refusals.specs.declared.Refusal as code
use Rattle.refusals.specs.Answers.{refusal_of}
use Rattle.limits.specs.declared.Limits.{Limits}
use Rattle.limits.specs.declared.Wider.{Wider}

pub data Stated : Type 0 where
  planned : Stated
  wider : ℕ → ℕ → ℕ → ℕ → Bool → Stated
  nothing : Stated
  refused : Refusal → Stated

-- a station with these settings and this accuracy; the limits do not depend on its cabinets
abbrev pub station_of : Settings → ℕ → Station
station_of c κ = record { settings = c; accuracy = κ; sound = λ p. true; first = λ p. missing }

unfoldable pub wider_at : Settings → ℕ → ℕ → Stated
wider_at c κ t =
    wider
    (wide_gap (station_of c κ) t)
    (wide_error (station_of c κ) t)
    (exact_gap (station_of c κ) t)
    (exact_error (station_of c κ) t)
    (reachable c κ t)

-- t ≤ m; N-m ≤ t; and between them the guarantee's wider limits
unfoldable pub bounds : Settings → ℕ → ℕ → Stated
bounds c κ t =
    cond (leb t c.m) planned
    (cond (leb (c.n - c.m) t) nothing (wider_at c κ t))

abbrev pub stated_after : Check → Stated → Stated
stated_after none s = s
stated_after (some r) s = refused r

unfoldable pub stated : Settings → ℕ → ℕ → Stated
stated c κ t = stated_after (first_of (plan_checks c κ 0)) (bounds c κ t)

abbrev pub wider_of : Wider → Stated
wider_of w = wider w.gap w.error w.widest w.farthest w.reached

abbrev pub limits_of : Limits → Stated
limits_of Limits.Planned = planned
limits_of (Limits.Wider w) = wider_of w
limits_of Limits.Nothing = nothing

abbrev pub stated_of : Result Limits code.Refusal → Stated
stated_of (Ok l) = limits_of l
stated_of (Err r) = refused (refusal_of r)
