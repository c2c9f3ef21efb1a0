-- A present reading counts, is added, and may be the lowest or the highest; a missing one leaves all as it is.
use Rattle.std.proofs.Common.{◌+◌, ◌%◌, refl, length, get_or, arith, eq-eqb, ne_eqb, rules, tests}
use Rattle.arithmetic.specs.Words.{two_to32}
use Rattle.loop_laws.proofs.Loops.{count_small}
use Rattle.held.specs.Held.{present_in}
use Rattle.summaries.proofs.Gathering.{gather_none, gather_present, gather_missing, gather_all}
use Rattle.summaries.proofs.gather.Goals.{then-marks-t-eq-PRESENT, else-marks-t-eq-PRESENT}
use Rattle.summaries.proofs.gather.Goals as goal

pub readings-init : goal.readings-init
readings-init c = gather_none c.args.marks.now c.args.values.now

pub overflow_add-count : goal.overflow_add-count
overflow_add-count c =
    let a = c.args.marks.now in
    omega (arith, count_small (present_in a) (length a) c.readings.invariant.counts)

pub readings-preserved : goal.readings-preserved
readings-preserved c =
    let marks = c.args.marks.now in
    let values = c.args.values.now in
    let r = c.readings in
    let room = c.readings-test.true in
    let mark = get_or marks r.t 0 in
    elim c.if-marks-t-eq-PRESENT.branch [
      | then-marks-t-eq-PRESENT w ↦
          rw (w.count-is, w.total-is, w.low-is, w.high-is)
          (gather_present marks values r.count r.total r.low r.high r.t r.invariant room
          (eq-eqb mark 1 w.if-marks-t-eq-PRESENT.true)
          ((r.total + get_or values r.t 0) % two_to32) w.min-low.result w.max-high.result
          refl w.min-low.ensures w.max-high.ensures)
      | else-marks-t-eq-PRESENT w ↦
          rw (w.count-is, w.total-is, w.low-is, w.high-is)
          (gather_missing marks values r.count r.total r.low r.high r.t r.invariant room
          (ne_eqb mark 1 w.if-marks-t-eq-PRESENT.false))
    ]

pub returns : goal.returns
returns c =
    let r = c.readings in
    gather_all c.args.marks.now c.args.values.now r.count r.total r.low r.high r.t r.invariant
    (λ j. search (rules, tests))
    c.readings-test.false
