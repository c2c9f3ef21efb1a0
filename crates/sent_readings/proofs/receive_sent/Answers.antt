-- No reading is held at first; a step holds the next, whose four bytes are the copy's number.
use Rattle.std.proofs.Common.{◌≡◌, ℕ, ◌*◌, ap, ◌∙◌, arith, get_or}
use Rattle.std.proofs.lemmas.List.{length-take}
use Rattle.model.specs.RoundSheet.{word}
use Rattle.held.specs.Held.{entry_reading, held_mark, held_value}
use Rattle.decisions.specs.Rows.{copy_at}
use Rattle.held_laws.proofs.Storing.{begin, store}
use Rattle.sent_readings.proofs.receive_sent.Goals as goal

pub readings-init : goal.readings-init
readings-init c = let a = c.args in begin (copy_at a.sent.now a.row.now) c.takes-n.result a.marks.now a.values.now

pub readings-preserved : goal.readings-preserved
unfolding word
readings-preserved c =
    let a = c.args in
    let r = c.readings in
    let mark = get_or a.sent.now r.t 0 in
    let read : c.bits-bits.result ≡ word a.row.now (4 * r.t) =
    c.bits-bits.ensures.here (omega (arith, length-take c.takes-n.result a.sent.now)) in
    store
    (copy_at a.sent.now a.row.now)
    c.takes-n.result
    a.marks.now
    a.values.now
    r.marks
    r.values
    r.t
    r.invariant
    c.readings-test.true
    (omega arith)
    (omega arith)
    c.entry_mark.result
    c.entry_value.result
    (c.entry_mark.ensures ∙ ap (λ (bits : ℕ). held_mark (entry_reading mark bits)) read)
    (c.entry_value.ensures ∙ ap (λ (bits : ℕ). held_value (entry_reading mark bits)) read)
