-- `planner::run` meets its contract, turn by turn.
use Rattle.std.proofs.Common.{arith}
use Rattle.planner_laws.proofs.Checks.{none-may-start}
use Rattle.planner.specs.Answers.{plan_of}
use Rattle.planner.proofs.Turns.{no_turn, turn_passes, turn_early}
use Rattle.planner.proofs.run.Goals as goal

pub rounds-init : goal.rounds-init
rounds-init c = no_turn (plan_of c.args.start) c.requires.start_fresh

pub advance-reached-requires-clause-settings_pass : goal.advance-reached-requires-clause-settings_pass
advance-reached-requires-clause-settings_pass c =
    let a = c.args in
    let few = (none-may-start a.start.settings a.start.accuracy a.rounds c.requires.start_passes).few in
    turn_passes a.start.settings a.start.accuracy c.rounds.counter c.rounds.invariant a.rounds c.requires.start_passes
    (omega arith)

pub advance-reached-requires-clause-may_step : goal.advance-reached-requires-clause-may_step
advance-reached-requires-clause-may_step c =
    let a = c.args in
    let few = (none-may-start a.start.settings a.start.accuracy a.rounds c.requires.start_passes).few in
    turn_early a.start.settings a.start.accuracy c.rounds.counter c.rounds.invariant a.rounds c.requires.start_passes
    (omega arith)
