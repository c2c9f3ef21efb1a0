-- Both ends are those of the numbers passed.
use Rattle.std.proofs.Common.{length}
use Rattle.held.specs.Held.{value_at}
use Rattle.threshold_trimming.proofs.Loops.{Ends}
use Rattle.threshold_trimming.proofs.sum_ends.Given as goal

abbrev pub invariant-numbers : goal.invariant-numbers
invariant-numbers l = Ends (value_at l.numbers) l.low l.high (length l.numbers) l.least l.most l.number-index
