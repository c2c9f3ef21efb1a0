-- Those equal to the threshold that are passed, and those to come, are `ties`.
use Rattle.std.proofs.Common.{length, eqb}
use Rattle.held.specs.Held.{value_at}
use Rattle.threshold_trimming.proofs.Loops.{Finding}
use Rattle.threshold_trimming.proofs.find_end.Given as goal

abbrev pub invariant-numbers : goal.invariant-numbers
invariant-numbers l =
    Finding (λ s. eqb (value_at l.numbers s) l.threshold.at) l.threshold.ties (length l.numbers) l.left l.r
