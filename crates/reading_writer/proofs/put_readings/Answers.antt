-- One more reading is stored behind those passed; at the end they all are.
use Rattle.std.proofs.Common.{pos, get_or, w32, of_z, sym, ap, ◌∙◌, arith}
use Rattle.sheet_laws.proofs.Readings.{bits_again}
use Rattle.sheet_laws.proofs.Storing.{put-none, put_next}
use Rattle.reading_writer.proofs.put_readings.Goals as goal

pub entries-init : goal.entries-init
entries-init c = put-none c.args.readings.now c.args.buffer.now

pub entries-preserved : goal.entries-preserved
entries-preserved c =
    let a = c.args in
    let m = c.entries in
    c.put_word.ensures
    ∙ put_next a.readings.now m.e a.buffer.now m.buffer c.to_bits.result m.invariant (omega arith)
    (c.to_bits.ensures ∙ ap (of_z w32) (bits_again (get_or a.readings.now m.e (pos 0)) (omega arith)))
    (omega (arith, c.if-buffer-readings.false))
