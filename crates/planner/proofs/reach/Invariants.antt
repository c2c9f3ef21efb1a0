-- The invariant: at most 32 turns are done, and the plan is the start that many rounds on.
use Rattle.std.proofs.Common.{◌≡◌, ◌≤◌}
use Rattle.model.specs.Planner.{plan_from, after, max_rounds}
use Rattle.planner.specs.Answers.{plan_of}
use Rattle.planner.proofs.reach.Given as goal

abbrev pub invariant-rounds : goal.invariant-rounds
invariant-rounds l =
    (l.k ≤ max_rounds) × (plan_of l.reached ≡ after l.k (plan_from l.fn.start.settings l.fn.start.accuracy))
