-- The length, and then what checks 8 and 9 answer of the parts of the sheet, say which refuses first. Sizes of a byte
-- make few entries.
use Rattle.std.proofs.Common.{ap, ◌∙◌, arith}
use Rattle.std.proofs.Math.Option.{some}
use Rattle.sheet_sizes.proofs.Bounds.{byte-entries-most}
use Rattle.entry_checks.proofs.Body.{body-length-refused, body-parts}
use Rattle.entry_checks.proofs.check_entries.Goals as goal

pub returns-then-sheet-sheet_length : goal.returns-then-sheet-sheet_length
returns-then-sheet-sheet_length c =
    ap some c.into.ensures
    ∙ body-length-refused c.args.sheet.now c.args.settings c.sheet_length.result c.sheet_length.ensures
    c.if-sheet-sheet_length.true

pub returns : goal.returns
returns c =
    let a = c.args in
    body-parts a.sheet.now a.settings
    (c.if-sheet-sheet_length.false ∙ c.sheet_length.ensures)
    c.entry_count-body.result c.entry_count-body.ensures
    (rw c.entry_count-body.ensures (byte-entries-most a.settings (omega arith)))
    c.check_parts.ensures
