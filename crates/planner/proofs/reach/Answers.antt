-- `planner::reach` meets its contract, turn by turn: a round may follow while fewer than 32 are done.
use Rattle.std.proofs.Common.{sym, ◌∙◌, subst, arith}
use Prim.Native.Nat.{zero-le}
use borrow.Author.Tests.{leb-true, leb-false, ltb-true, ltb-false}
use Rattle.model.specs.Planner.{max_rounds}
use Rattle.model.specs.Refusals.{Refusal}
use Rattle.model.specs.Calls.{refused, Target}
use Rattle.planner.specs.Answers.{plan_of}
use Rattle.planner.proofs.Turns.{no_turn, turn_passes, turn_early, turn-missed, turn-reached}
use Rattle.planner.proofs.reach.Goals as goal
use Rattle.planner.proofs.reach.Goals.{else-rounds-test, then-rounds-test+else-not-is_above+then-is_last}

pub rounds-init : goal.rounds-init
rounds-init c = (zero-le, no_turn (plan_of c.args.start) c.requires.start_fresh)

pub advance-reached-requires-clause-settings_pass : goal.advance-reached-requires-clause-settings_pass
advance-reached-requires-clause-settings_pass c =
    let at = c.rounds in
    let start = c.args.start in
    turn_passes start.settings start.accuracy at.k at.invariant.1 0 c.requires.start_passes
    (leb-false max_rounds at.k (sym c.is_last.ensures ∙ c.if-is_last.false))

pub advance-reached-requires-clause-may_step : goal.advance-reached-requires-clause-may_step
advance-reached-requires-clause-may_step c =
    let at = c.rounds in
    let start = c.args.start in
    turn_early start.settings start.accuracy at.k at.invariant.1 0 c.requires.start_passes
    (leb-false max_rounds at.k (sym c.is_last.ensures ∙ c.if-is_last.false))

pub returns-then-not-is_above : goal.returns-then-not-is_above
returns-then-not-is_above c =
    let at = c.rounds in
    let start = c.args.start in
    turn-reached start.settings start.accuracy at.k at.invariant.1 c.args.target c.requires.start_passes
    at.invariant.0
    (ltb-false c.args.target at.reached.settings.window (sym c.is_above.ensures ∙ c.if-not-is_above.true))

pub returns : goal.returns
returns c =
    let at = c.rounds in
    let start = c.args.start in
    elim c.rounds-test.branch [
      | else-rounds-test w ↦ absurd (omega arith)
      | then-rounds-test+else-not-is_above+then-is_last w ↦
          let missed =
          turn-missed start.settings start.accuracy at.k at.invariant.1 c.args.target c.requires.start_passes
          at.invariant.0
          (leb-true max_rounds at.k (sym w.is_last.ensures ∙ w.if-is_last.true))
          (ltb-true c.args.target at.reached.settings.window
          (sym w.is_above.ensures ∙ w.if-not-is_above.false)) in
          subst (λ (r : Refusal). Target start.settings start.accuracy c.args.target (refused r))
          (sym c.into.ensures)
          missed
    ]
