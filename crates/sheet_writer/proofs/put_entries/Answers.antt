-- The tail behind the marks is written with the readings.
use Rattle.arithmetic.specs.Writing.{overwrite}
use Rattle.std.proofs.Common.{List, ℕ, ℤ, ◌≡◌, ◌≤◌, ◌*◌, ◌/◌, le-ltb, ◌-◌, length, take, drop, refl, ◌∙◌, arith}
use Rattle.model.specs.RoundSheet.{reading_bytes}
use Rattle.sheet_laws.proofs.Storing.{tail_written}
use Rattle.reading_writer.specs.Readings.{readings_put}
use Rattle.sheet_writer.proofs.Stores.{length_tail}
use Rattle.part_writer.proofs.Fitting.{part_fits}
use Rattle.sheet_writer.proofs.put_entries.Goals as goal

stored :
    (readings : List ℤ) (b : List ℕ) → 4 * length readings ≤ length b
    → readings_put readings b ≡ overwrite (reading_bytes readings) b
unfolding readings_put
stored readings b h = rw (le-ltb (length b / 4) (length readings) (omega arith))

pub returns : goal.returns
returns c =
    let a = c.args in
    let at = length a.marks.now in
    let copied = c.put_part.new.list in
    tail_written a.marks.now (reading_bytes a.readings.now) a.buffer.now copied c.put_readings.new.buffer at refl
    (c.put_part.ensures ∙ part_fits a.marks.now a.buffer.now (omega arith))
    (c.put_readings.ensures
    ∙ stored a.readings.now (take (length copied - at) (drop at copied))
    (omega (arith, length_tail copied at, c.put_part.auto.list, c.requires)))
