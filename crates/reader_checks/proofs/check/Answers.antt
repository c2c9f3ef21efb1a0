-- The sheet that `inspect` grants has the bytes that its settings say, so both parts lie in it.
use Rattle.std.proofs.Common.{sym, arith}
use Rattle.sheet_laws.proofs.Inspection.{inspected}
use Rattle.reader_checks.proofs.check.Goals as goal

pub overflow_add-body : goal.overflow_add-body
overflow_add-body c =
    let seen = inspected c.args.sheet.now c.in_ok-settings.settings (sym c.in_ok-settings.ensures) in
    omega (arith, c.entry_count-body.ensures, seen.few)

pub slice_bounds-check_parts-end : goal.slice_bounds-check_parts-end
slice_bounds-check_parts-end c =
    let seen = inspected c.args.sheet.now c.in_ok-settings.settings (sym c.in_ok-settings.ensures) in
    omega (arith, c.entry_count-body.ensures, seen.long)

pub slice_bounds-check_parts-count-2 : goal.slice_bounds-check_parts-count-2
slice_bounds-check_parts-count-2 c =
    let seen = inspected c.args.sheet.now c.in_ok-settings.settings (sym c.in_ok-settings.ensures) in
    omega (arith, c.entry_count-body.ensures, seen.long)

pub slice_bounds-check_parts-start-2 : goal.slice_bounds-check_parts-start-2
slice_bounds-check_parts-start-2 c =
    let seen = inspected c.args.sheet.now c.in_ok-settings.settings (sym c.in_ok-settings.ensures) in
    omega (arith, c.entry_count-body.ensures, seen.long)
