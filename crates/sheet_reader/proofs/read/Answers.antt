-- A refusal leaves both arrays, and else the two that are filled are the reader's.
use Rattle.std.proofs.Common.{ℕ, List, ◌≡◌, ◌+◌, ◌*◌, length, sym, ap, ◌∙◌, arith}
use Rattle.arithmetic.specs.Writing.{overwrite}
use Rattle.model.specs.RoundSheet.{header_size}
use Rattle.reader_checks.proofs.Opening.{openable}
use Rattle.sheet_laws.proofs.Parts.{marks_part, length-marks_part}
use Rattle.sheet_reader.proofs.Filling.{reader_fills, marks_part-table}
use Rattle.part_writer.proofs.Fitting.{part_fits}
use Rattle.sheet_reader.proofs.read.Goals as goal

pub overflow_add-body : goal.overflow_add-body
overflow_add-body c =
    let a = c.args in
    let seen =
    openable a.sheet.now (length a.marks.now) (length a.readings.now) c.in_ok-settings.settings
    (sym c.in_ok-settings.ensures) in
    omega (arith, c.entry_count-entries.ensures, seen.sizes.few)

pub slice_bounds-put_part-end : goal.slice_bounds-put_part-end
slice_bounds-put_part-end c =
    let a = c.args in
    let seen =
    openable a.sheet.now (length a.marks.now) (length a.readings.now) c.in_ok-settings.settings
    (sym c.in_ok-settings.ensures) in
    omega (arith, c.entry_count-entries.ensures, seen.sizes.long)

pub decode-requires : goal.decode-requires
decode-requires c =
    let a = c.args in
    let seen =
    openable a.sheet.now (length a.marks.now) (length a.readings.now) c.in_ok-settings.settings
    (sym c.in_ok-settings.ensures) in (
      omega (arith, c.entry_count-entries.ensures, seen.sizes.long),
      omega (arith, c.entry_count-entries.ensures, seen.readings),
    )

pub returns : goal.returns
returns c =
    let a = c.args in
    let E = c.entry_count-entries.result in
    let seen =
    openable a.sheet.now (length a.marks.now) (length a.readings.now) c.in_ok-settings.settings
    (sym c.in_ok-settings.ensures) in
    let long : length a.sheet.now ≡ header_size + 5 * E =
    omega (arith, c.entry_count-entries.ensures, seen.sizes.long) in
    reader_fills a.sheet.now a.marks.now a.readings.now c.in_ok-settings.settings seen E c.entry_count-entries.ensures
    c.put_part.new.list c.decode.new.readings
    (c.put_part.ensures
    ∙ part_fits (marks_part a.sheet.now E) a.marks.now
    (omega (arith, length-marks_part a.sheet.now E long, c.entry_count-entries.ensures, seen.marks))
    ∙ ap (λ (l : List ℕ). overwrite l a.marks.now) (marks_part-table a.sheet.now E long))
    c.decode.ensures
