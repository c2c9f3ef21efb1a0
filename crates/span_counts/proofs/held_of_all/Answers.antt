-- What is tested of a reading is whether the span holds it.
use Rattle.std.proofs.Common.{Bool, ◌&&◌, ap₂, arith}
use Rattle.loop_laws.proofs.Loops.{count_none, count-one, count_small, flag_small}
use Rattle.spans.specs.Spans.{held_at}
use Rattle.span_counts.proofs.held_of_all.Goals as goal

pub readings-init : goal.readings-init
readings-init c =
    let a = c.args in
    count_none (held_at a.start a.span a.marks.now a.values.now) c.min-n.result

pub overflow_add-total : goal.overflow_add-total
overflow_add-total c =
    let a = c.args in
    omega (
      arith,
      count_small (held_at a.start a.span a.marks.now a.values.now) c.min-n.result c.readings.invariant,
      flag_small (c.present.result && c.reached.result),
    )

pub readings-preserved : goal.readings-preserved
unfolding held_at
readings-preserved c =
    let a = c.args in
    rw (ap₂ (λ (p q : Bool). p && q) c.present.ensures c.reached.ensures)
    (count-one (held_at a.start a.span a.marks.now a.values.now) c.min-n.result
    c.readings.invariant
    c.readings-test.true)
