-- A count is at most the copies passed.
use Rattle.std.proofs.Common.{arith}
use Rattle.arithmetic.proofs.Counting.{count-le}
use Rattle.loop_laws.proofs.Loops.{flag_small}
use Rattle.copies.specs.Copies.{holds_copy}
use Rattle.copies.proofs.count_each.Goals as goal

pub overflow_add-copies : goal.overflow_add-copies
overflow_add-copies c =
    let a = c.args in
    omega (arith, count-le (holds_copy a.row.now.marks.now a.row.now.bytes.now a.value) c.copies.t, flag_small c.holds.result)
