-- No row is held at first; a step holds what the next row decides, whose parts are those that the definition names.
use Rattle.std.proofs.Common.{◌≡◌, ℕ, ◌+◌, ◌*◌, ◌-◌, ap, ◌∙◌, arith}
use Rattle.model.specs.Steps.{decided_reading}
use Rattle.held.specs.Held.{held_mark, held_value}
use Rattle.held_laws.proofs.Storing.{begin, store}
use Rattle.decided_readings.specs.Rows.{row_reading}
use Rattle.decided_readings.proofs.Sizes.{rows-room}
use Rattle.decided_readings.proofs.receive_decided.Goals as goal

pub rows-init : goal.rows-init
rows-init c =
    let a = c.args in
    record {
      room = rows-room a.n _ _ _ _ c.takes-rows.result c.takes-rows.ensures;
      stored = begin (row_reading a.sent.now a.copies.now a.n a.need) c.takes-rows.result a.marks.now a.values.now;
    }

width_back : (a w : ℕ) → a + w - a ≡ w
width_back a w = omega arith

bytes_back : (a w : ℕ) → 4 * (a + w) - 4 * a ≡ 4 * w
bytes_back a w = omega arith

pub rows-preserved : goal.rows-preserved
rows-preserved c =
    let a = c.args in
    let r = c.rows in
    let room = r.invariant.room in
    let start = r.r * a.n in
    let decided =
    rw (width_back start a.n, bytes_back start a.n) at c.decide-decided.ensures
    in
    record {
      room = room;
      stored =
          store
          (row_reading a.sent.now a.copies.now a.n a.need)
          c.takes-rows.result
          a.marks.now
          a.values.now
          r.marks
          r.values
          r.r
          r.invariant.stored
          c.rows-test.true
          (omega (arith, room.mark_room))
          (omega (arith, room.value_room))
          c.decided_mark.result
          c.decided_value.result
          (c.decided_mark.ensures ∙ ap (λ d. held_mark (decided_reading d)) decided)
          (c.decided_value.ensures ∙ ap (λ d. held_value (decided_reading d)) decided);
    }
