-- The count is that of the copies passed.
use Rattle.std.proofs.Common.{◌≡◌}
use Rattle.arithmetic.specs.Counting.{count}
use Rattle.copies.specs.Copies.{holds_copy}
use Rattle.copies.proofs.count_each.Given as goal

abbrev pub invariant-copies : goal.invariant-copies
invariant-copies l = l.copies ≡ count (holds_copy l.mark-items l.row.bytes.now l.value) l.t
