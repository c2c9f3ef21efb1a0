-- A refusal leaves the buffer, and else the sizes and the tail written are the sheet.
use Rattle.arithmetic.specs.Writing.{overwrite}
use Rattle.model.specs.declared.Settings.{Settings}
use Rattle.std.proofs.Common.{List, ℕ, ◌≡◌, ◌≤◌, le-ltb, ◌-◌, ◌++◌, length, take, drop, sym, ap, ◌∙◌, arith}
use Rattle.refusals.specs.Answers.{check_of}
use Rattle.model.specs.RoundSheet.{header_size, reading_bytes, size_bytes}
use Rattle.sheet_laws.proofs.Written.{length-size_bytes}
use Rattle.sheet_laws.proofs.Storing.{tail_written}
use Rattle.writer_checks.proofs.Writing.{written-within}
use Rattle.size_writer.specs.Sizes.{sizes_put}
use Rattle.sheet_writer.proofs.Filling.{writer_fills}
use Rattle.sheet_writer.proofs.Stores.{length_tail}
use Rattle.sheet_writer.proofs.write.Goals as goal

pub slice_bounds-put_entries-count : goal.slice_bounds-put_entries-count
slice_bounds-put_entries-count c =
    let a = c.args in
    let within =
    written-within a.settings a.marks.now a.readings.now (length a.buffer.now)
    (sym c.in_ok-check.ensures) in
    omega (arith, c.put_sizes.auto.buffer, within)

pub slice_bounds-put_entries-start : goal.slice_bounds-put_entries-start
slice_bounds-put_entries-start c =
    let a = c.args in
    let within =
    written-within a.settings a.marks.now a.readings.now (length a.buffer.now)
    (sym c.in_ok-check.ensures) in
    omega (arith, c.put_sizes.auto.buffer, within)

pub put_entries-requires : goal.put_entries-requires
put_entries-requires c =
    let a = c.args in
    let within =
    written-within a.settings a.marks.now a.readings.now (length a.buffer.now)
    (sym c.in_ok-check.ensures) in
    omega (arith, c.put_sizes.auto.buffer, length_tail c.put_sizes.new.buffer header_size, within)

stored : (c : Settings) (b : List ℕ) → header_size ≤ length b → sizes_put c b ≡ overwrite (size_bytes c) b
unfolding sizes_put
stored c b h = rw (le-ltb (length b) header_size h)

pub returns : goal.returns
returns c =
    let a = c.args in
    let checks = sym c.in_ok-check.ensures in
    let within = written-within a.settings a.marks.now a.readings.now (length a.buffer.now) checks in
    let sized = c.put_sizes.new.buffer in
    writer_fills a.settings a.marks.now a.readings.now a.buffer.now
    (take header_size sized
    ++ (c.put_entries.new.buffer ++ drop (length sized - header_size) (drop header_size sized)))
    c.sheet_length-size.result
    checks
    c.sheet_length-size.ensures
    (tail_written (size_bytes a.settings) (a.marks.now ++ reading_bytes a.readings.now) a.buffer.now
    sized c.put_entries.new.buffer header_size
    (length-size_bytes a.settings)
    (c.put_sizes.ensures ∙ stored a.settings a.buffer.now (omega (arith, within)))
    c.put_entries.ensures)
