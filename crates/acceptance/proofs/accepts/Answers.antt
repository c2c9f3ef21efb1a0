-- A start whose span holds the value and enough is an answer; one that is short is remembered, and passed.
use Rattle.std.proofs.Common.{rules}
use Rattle.acceptance.proofs.Spans.{uncounted, count-enough, pass-counted, pass-untried, answered, answered-holds, known_enough}
use Rattle.acceptance.proofs.Spans.{unanswered}
use Rattle.acceptance.proofs.accepts.Goals.{then-tries+else-eq+else-readings-test, else-tries}
use Rattle.acceptance.proofs.accepts.Goals as goal

pub readings-init : goal.readings-init
readings-init c =
    let a = c.args in
    (uncounted a.all.now.span a.all.now.need a.all.now.marks.now a.all.now.values.now c.starts.s, c.starts.invariant.1)

pub starts-preserved : goal.starts-preserved
starts-preserved c =
    let a = c.args in
    let s = c.starts in
    let below = c.starts-test.true in
    elim c.if-tries.branch [
      | then-tries+else-eq+else-readings-test w ↦
          rw (w.known-is, w.found-is) (
            pass-counted a.all.now.span a.all.now.need a.all.now.marks.now a.all.now.values.now a.value s.known s.s below s.invariant.0
                w.readings.count
                w.readings.t
                w.judged.result
                w.readings.invariant.0
                w.readings-test.false
                w.judged.ensures,
            w.readings.invariant.1,
          )
      | else-tries w ↦
          rw (w.known-is, w.found-is) (
            pass-untried a.all.now.span a.all.now.need a.all.now.marks.now a.all.now.values.now a.value s.known s.s below s.invariant.0
                c.tries.ensures
                w.if-tries.false,
            s.invariant.1,
          )
    ]

pub returns-after-starts-clause-admitted : goal.returns-after-starts-clause-admitted
returns-after-starts-clause-admitted c =
    let a = c.args in
    let s = c.starts in
    rw s.invariant.1
    (unanswered a.all.now.span a.all.now.need a.all.now.marks.now a.all.now.values.now a.value s.known s.s s.invariant.0 c.starts-test.false)

pub returns-after-starts-clause-holds : goal.returns-after-starts-clause-holds
returns-after-starts-clause-holds c = rw c.starts.invariant.1 tt

pub returns-then-eq-clause-admitted : goal.returns-then-eq-clause-admitted
returns-then-eq-clause-admitted c =
    let a = c.args in
    let s = c.starts in
    answered a.all.now.span a.all.now.need a.all.now.marks.now a.all.now.values.now a.value s.known s.s c.starts-test.true s.invariant.0
    c.tries.ensures
    c.if-tries.true
    (known_enough a.all.now.span a.all.now.need a.all.now.marks.now a.all.now.values.now a.value s.known s.s c.starts-test.true s.invariant.0 c.tries.ensures
    (search rules))

pub returns-then-all-count-clause-admitted : goal.returns-then-all-count-clause-admitted
returns-then-all-count-clause-admitted c =
    let a = c.args in
    let s = c.starts in
    let i = c.readings in
    answered a.all.now.span a.all.now.need a.all.now.marks.now a.all.now.values.now a.value s.known s.s c.starts-test.true s.invariant.0
    c.tries.ensures
    c.if-tries.true
    (count-enough a.all.now.span a.all.now.need a.all.now.marks.now a.all.now.values.now s.s i.count i.t i.invariant.0
    c.readings-test.true
    c.counted-count.result
    c.counted-count.ensures
    c.if-all-count.true)

pub returns-then-all-count-clause-holds : goal.returns-then-all-count-clause-holds
returns-then-all-count-clause-holds c =
    let a = c.args in
    let s = c.starts in
    let i = c.readings in
    answered-holds a.all.now.span a.all.now.need a.all.now.marks.now a.all.now.values.now a.value s.known s.s c.starts-test.true s.invariant.0
    c.tries.ensures
    c.if-tries.true
    (count-enough a.all.now.span a.all.now.need a.all.now.marks.now a.all.now.values.now s.s i.count i.t i.invariant.0
    c.readings-test.true
    c.counted-count.result
    c.counted-count.ensures
    c.if-all-count.true)
