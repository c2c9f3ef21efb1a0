-- The invariant: the plan is the start as many rounds on as are done.
use Rattle.std.proofs.Common.{◌≡◌}
use Rattle.model.specs.Planner.{plan_from, after}
use Rattle.planner.specs.Answers.{plan_of}
use Rattle.planner.proofs.run.Given as goal

abbrev pub invariant-rounds : goal.invariant-rounds
invariant-rounds l = plan_of l.reached ≡ after l.counter (plan_from l.fn.start.settings l.fn.start.accuracy)
