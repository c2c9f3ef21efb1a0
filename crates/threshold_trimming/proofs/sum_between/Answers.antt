-- Nothing is summed at first; a step adds the next number, if it is between the two.
use Rattle.std.proofs.Common.{Bool, cond, ap, ◌∙◌, arith}
use Rattle.held.specs.Held.{value_at}
use Rattle.dropping.proofs.Loops.{summing_none, summing_one}
use Rattle.threshold_trimming.proofs.sum_between.Goals as goal

pub numbers-init : goal.numbers-init
numbers-init c = summing_none

pub numbers-preserved : goal.numbers-preserved
numbers-preserved c =
    let k = c.numbers in
    summing_one k.invariant c.numbers-test.true
    (c.part-sum.ensures.0 ∙ ap (λ (b : Bool). cond b (value_at c.args.numbers.now k.number-index) 0) c.between.ensures)
    (omega (arith, c.part-sum.ensures.1))
