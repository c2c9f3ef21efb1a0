-- Sizes of a byte and a cabinet number of 32 bits keep every sum small.
use Rattle.std.proofs.Common.{◌*◌, ◌≤◌, arith}
use Rattle.std.proofs.Math.Nat.{mul-le-mul}
use Rattle.sheet_sizes.proofs.Bounds.{byte-entries-most}
use Rattle.rows.proofs.Parts.{row-entries-most}
use Rattle.rows.proofs.row_start.Goals as goal

pub overflow_add-result : goal.overflow_add-result
overflow_add-result c = omega (arith, c.entry_count.ensures, byte-entries-most c.args.settings (omega arith))

pub overflow_mul-result : goal.overflow_mul-result
overflow_mul-result c =
    let width : c.row_entries-width.result ≤ 255 =
    rw c.row_entries-width.ensures (row-entries-most c.args.settings (omega arith)) in
    let product : c.args.r * c.row_entries-width.result ≤ 1095216660225 =
    mul-le-mul {n₂ = 4294967295} {m₂ = 255} (omega arith) width in
    omega arith

pub overflow_mul-result-2 : goal.overflow_mul-result-2
overflow_mul-result-2 c =
    let width : c.row_entries-width.result ≤ 255 =
    rw c.row_entries-width.ensures (row-entries-most c.args.settings (omega arith)) in
    let product : c.args.r * c.row_entries-width.result ≤ 1095216660225 =
    mul-le-mul {n₂ = 4294967295} {m₂ = 255} (omega arith) width in
    omega arith

pub overflow_add-result-2 : goal.overflow_add-result-2
overflow_add-result-2 c =
    let width : c.row_entries-width.result ≤ 255 =
    rw c.row_entries-width.ensures (row-entries-most c.args.settings (omega arith)) in
    let product : c.args.r * c.row_entries-width.result ≤ 1095216660225 =
    mul-le-mul {n₂ = 4294967295} {m₂ = 255} (omega arith) width in
    omega (arith, c.entry_count.ensures, byte-entries-most c.args.settings (omega arith))
