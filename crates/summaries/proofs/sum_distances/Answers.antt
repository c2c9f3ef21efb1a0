-- The lowest is taken off once for each, and what wrapped comes back.
use Rattle.std.proofs.Common.{◌+◌, ◌*◌, ◌-◌, ◌%◌, refl, arith}
use Rattle.arithmetic.specs.Words.{two_to32}
use Rattle.summaries.proofs.Wrapping.{taken_off}
use Rattle.summaries.proofs.sum_distances.Goals as goal

pub returns : goal.returns
returns c =
    λ d fits total.
    let lowest = c.args.count * c.args.low in
    let left = c.args.total + (two_to32 - lowest % two_to32) in
    taken_off (left % two_to32) (lowest % two_to32) d lowest c.args.total (omega arith) fits (omega arith) refl total
