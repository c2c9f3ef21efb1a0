-- `planner::rounds_for` meets its contract: a refusal of the start for 0 rounds stands, and from a fresh plan `reach`
-- answers.
use Rattle.refusals.specs.Answers.{verdict_of}
use Rattle.planner.proofs.Fresh.{fresh-passes, fresh-rounds, fresh-target}
use Rattle.planner.proofs.rounds_for.Goals as goal

pub reach-requires-clause-start_passes : goal.reach-requires-clause-start_passes
reach-requires-clause-start_passes c = fresh-passes c.args.settings c.args.accuracy c.in_ok-start.ensures

pub reach-requires-clause-start_fresh : goal.reach-requires-clause-start_fresh
reach-requires-clause-start_fresh c = fresh-rounds c.args.settings c.args.accuracy c.in_ok-start.ensures

pub returns : goal.returns
returns c =
    let a = c.args in
    fresh-target a.settings a.accuracy c.in_ok-start.ensures a.target
    (verdict_of c.reach.result)
    c.reach.ensures
