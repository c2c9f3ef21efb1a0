-- What is between the thresholds and what is kept at the upper one fit 64 bits together.
use Rattle.std.proofs.Common.{length, arith}
use Rattle.held.specs.Held.{value_at}
use Rattle.threshold_trimming.proofs.Totals.{left-fits}
use Rattle.threshold_trimming.proofs.sum_left.Goals as goal

pub overflow_add-result : goal.overflow_add-result
overflow_add-result c =
    let a = c.args in
    let fits =
    left-fits
    (value_at a.numbers.now)
    (length a.numbers.now)
    a.t.low.at
    a.t.high.at
    a.t.high.ties
    (λ j. (c.type_inv.numbers j).fits)
    c.requires.numbers_len_bound.0
    c.requires.numbers_len_bound.1
    (omega arith)
    in
    omega (arith, fits, c.sum_between.ensures)
