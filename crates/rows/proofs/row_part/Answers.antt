-- At each `return` the tests that led there say which case of `part_at` holds. Sizes of a byte keep every sum small.
use Rattle.std.proofs.Common.{ℕ, ◌≡◌, ◌+◌, ◌-◌, ◌*◌, arith}
use Rattle.sheet_sizes.proofs.Bounds.{byte-entries-most}
use Rattle.rows.proofs.Parts.{row-entries-most, row-most, past-last, past_end, row_lies}
use Rattle.rows.proofs.row_part.Goals as goal

width_back : (a w : ℕ) → a + 4 * w - a ≡ 4 * w
width_back a w = omega arith

pub returns-then-n-r : goal.returns-then-n-r
returns-then-n-r c = past-last c.args.sheet.now c.args.settings c.args.r c.if-n-r.true

pub overflow_mul-end : goal.overflow_mul-end
overflow_mul-end c = omega (arith, c.row_entries.ensures, row-entries-most c.args.settings (omega arith))

pub overflow_add-end : goal.overflow_add-end
overflow_add-end c =
    let settings = c.args.settings in
    omega (
      arith,
      c.row_entries.ensures,
      row-entries-most settings (omega arith),
      c.row_start-start.ensures,
      byte-entries-most settings (omega arith),
      row-most settings (omega arith) c.args.r c.if-n-r.false,
    )

pub returns-then-sheet-end : goal.returns-then-sheet-end
returns-then-sheet-end c =
    let a = c.args in
    past_end a.sheet.now a.settings a.r c.if-n-r.false
    (rw (c.row_start-start.ensures, c.row_entries.ensures) at c.if-sheet-end.true)

pub returns : goal.returns
returns c =
    let a = c.args in
    rw (width_back c.row_start-start.result c.row_entries.result)
    (rw (c.row_start-start.ensures, c.row_entries.ensures)
    (row_lies a.sheet.now a.settings a.r c.if-n-r.false
    (rw (c.row_start-start.ensures, c.row_entries.ensures) at c.if-sheet-end.false)))
