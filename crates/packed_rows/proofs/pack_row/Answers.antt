-- `packed_rows::pack_row` meets its contract: the answer is the row's start and length, and 0 where `validate` refuses or
-- the cabinet is past N. The start and the width are small.
use Rattle.std.proofs.Common.{◌+◌, ◌≤◌, sym, arith}
use Rattle.model.specs.RoundSheet.{settings_at, header_size}
use Rattle.model.specs.Refusals.{first_of, row_checks}
use Rattle.sheet_laws.proofs.Outcomes.{refused-some, row-refused}
use Rattle.sheet_laws.proofs.Inspection.{validated}
use Rattle.sheet_laws.proofs.Shown.{row-empty}
use Rattle.packed_rows.proofs.Rows.{empty-packed, row-starts, row-narrow, row-packed}
use Rattle.refusals.specs.Answers.{refusal_of}
use Rattle.packed_rows.proofs.pack_row.Goals as goal

pub returns-in_default : goal.returns-in_default
returns-in_default c =
    let a = c.args in
    let refusal = refusal_of c.in_default.field-0 in
    empty-packed a.sheet.now a.cabinet
    (row-refused a.sheet.now a.cabinet refusal
    (refused-some (first_of (row_checks a.sheet.now)) (settings_at a.sheet.now) refusal (sym c.in_default.ensures)))

pub returns-then-settings-cabinet : goal.returns-then-settings-cabinet
returns-then-settings-cabinet c =
    let a = c.args in
    let settings = c.in-Ok.settings in
    empty-packed a.sheet.now a.cabinet
    (sym
    (row-empty a.sheet.now settings
    (validated a.sheet.now settings (sym c.in-Ok.ensures))
    a.cabinet
    c.if-settings-cabinet.true))

pub overflow_mul-result : goal.overflow_mul-result
overflow_mul-result c =
    let sheet = c.args.sheet.now in
    let settings = c.in-Ok.settings in
    let seen = validated sheet settings (sym c.in-Ok.ensures) in
    let few : c.row_start-start.result ≤ header_size + 20480
    = rw c.row_start-start.ensures (row-starts sheet settings seen c.args.cabinet c.if-settings-cabinet.false) in
    omega arith

pub overflow_mul-result-2 : goal.overflow_mul-result-2
overflow_mul-result-2 c =
    let sheet = c.args.sheet.now in
    let settings = c.in-Ok.settings in
    let seen = validated sheet settings (sym c.in-Ok.ensures) in
    let few : c.row_entries-width.result ≤ 4096
    = rw c.row_entries-width.ensures (row-narrow sheet settings seen c.args.cabinet c.if-settings-cabinet.false) in
    omega arith

pub overflow_add-result : goal.overflow_add-result
overflow_add-result c =
    let sheet = c.args.sheet.now in
    let settings = c.in-Ok.settings in
    let seen = validated sheet settings (sym c.in-Ok.ensures) in
    let few : c.row_start-start.result ≤ header_size + 20480
    = rw c.row_start-start.ensures (row-starts sheet settings seen c.args.cabinet c.if-settings-cabinet.false) in
    let narrow : c.row_entries-width.result ≤ 4096
    = rw c.row_entries-width.ensures (row-narrow sheet settings seen c.args.cabinet c.if-settings-cabinet.false) in
    omega arith

pub returns : goal.returns
returns c =
    let sheet = c.args.sheet.now in
    let settings = c.in-Ok.settings in
    let seen = validated sheet settings (sym c.in-Ok.ensures) in
    row-packed sheet settings seen c.args.cabinet c.if-settings-cabinet.false
    c.row_start-start.result
    c.row_entries-width.result
    c.row_start-start.ensures
    c.row_entries-width.ensures
