-- Sizes of a byte keep the sum small.
use Rattle.std.proofs.Common.{arith}
use Rattle.sheet_sizes.proofs.Bounds.{byte-entries-most}
use Rattle.sheet_sizes.proofs.sheet_length.Goals as goal

pub overflow_mul-result : goal.overflow_mul-result
overflow_mul-result c = omega (arith, c.entry_count.ensures, byte-entries-most c.args.settings (omega arith))

pub overflow_add-result : goal.overflow_add-result
overflow_add-result c = omega (arith, c.entry_count.ensures, byte-entries-most c.args.settings (omega arith))
