-- k rounds are played and none stopped, the plan is the run's, and the list has what sound cabinets hold.
use Rattle.std.proofs.Common.{length}
use Rattle.planner.specs.Answers.{plan_of}
use Rattle.playing.proofs.Rounds.{Going}
use Rattle.playing.proofs.play_rounds.Given as goal

abbrev pub invariant-rounds : goal.invariant-rounds
invariant-rounds l = Going l.run.trace.now l.most (length l.initial.held) (plan_of l.plan) l.k l.held
