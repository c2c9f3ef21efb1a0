-- A step that no check refuses meets what `advance` requires.
use Rattle.std.proofs.Common.{sym}
use Rattle.refusal_laws.proofs.Limits.{planner_pass}
use Rattle.planner_laws.proofs.Checks.{none-may-step}
use Rattle.planner.specs.Answers.{plan_of}
use Rattle.planner.proofs.Plan.step.Goals as goal

pub advance-requires-clause-settings_pass : goal.advance-requires-clause-settings_pass
advance-requires-clause-settings_pass c =
    let s = none-may-step (plan_of c.args.self) (sym c.in_ok-check_step.ensures) in
    planner_pass c.args.self.settings s.passes

pub advance-requires-clause-may_step : goal.advance-requires-clause-may_step
advance-requires-clause-may_step c =
    let s = none-may-step (plan_of c.args.self) (sym c.in_ok-check_step.ensures) in
    (s.early, s.accurate)
