-- No number is passed at first; a step takes the lower and the greater of the next and what was found.
use Rattle.std.proofs.Common.{arith}
use Rattle.threshold_trimming.proofs.Loops.{ends-none, ends-one}
use Rattle.threshold_trimming.proofs.sum_ends.Goals as goal

pub numbers-init : goal.numbers-init
numbers-init c = ends-none

pub numbers-preserved : goal.numbers-preserved
numbers-preserved c =
    ends-one c.numbers.invariant c.numbers-test.true c.from_low.ensures c.to_high.ensures c.min-least.ensures
    c.max-most.ensures (omega arith) (omega arith)
