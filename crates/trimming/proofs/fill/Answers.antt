-- No reading is filled in at first; a step fills in the next.
use Rattle.std.proofs.Common.{length}
use Rattle.loop_laws.proofs.Loops.{storing_none, storing_next}
use Rattle.trimming.specs.Values.{number_in}
use Rattle.trimming.proofs.fill.Goals as goal

pub readings-init : goal.readings-init
readings-init c =
    let a = c.args in
    storing_none (number_in a.marks.now a.values.now) (length a.marks.now) a.numbers.now c.requires.1

pub readings-preserved : goal.readings-preserved
readings-preserved c =
    let a = c.args in
    let m = c.readings in
    storing_next (number_in a.marks.now a.values.now) (length a.marks.now) a.numbers.now m.numbers m.r m.invariant
    c.readings-test.true c.number.result c.number.ensures
