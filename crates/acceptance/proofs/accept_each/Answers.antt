-- Each present reading is tested by the start that is found.
use Rattle.std.proofs.Common.{is_some, get_or, sym, arith, ne_eqb}
use Rattle.arithmetic.proofs.Counting.{bit-le-one}
use Rattle.acceptance.proofs.Testing.{test-none, test-found, test-not, test-missing, test-small, all-counted}
use Rattle.acceptance.proofs.accept_each.Goals.{then-all-r-eq-PRESENT+then-is_some, then-all-r-eq-PRESENT+else-is_some, else-all-r-eq-PRESENT}
use Rattle.acceptance.proofs.accept_each.Goals as goal

pub readings-init : goal.readings-init
readings-init c =
    let a = c.args in
    test-none a.all.now.span a.all.now.need a.all.now.marks.now a.all.now.values.now a.accepted.now a.known.now (a.all.now.even, a.all.now.few, c.requires.room.0)
    c.requires.room.1
    c.requires.remembered

pub overflow_add-count : goal.overflow_add-count
overflow_add-count c =
    let a = c.args in
    let l = c.readings in
    omega (
      arith,
      c.passes-count.ensures,
      bit-le-one (is_some c.find_start-start.result),
      test-small a.all.now.span a.all.now.need a.all.now.marks.now a.all.now.values.now a.accepted.now l.known l.accepted l.count l.earlier l.r
          l.invariant,
    )

pub readings-preserved : goal.readings-preserved
readings-preserved c =
    let a = c.args in
    let l = c.readings in
    let below = c.readings-test.true in
    elim c.if-all-r-eq-PRESENT.branch [
      | then-all-r-eq-PRESENT+then-is_some w ↦
          let f = w.find_start-start in
          rw (w.known-is, w.accepted-is, w.count-is, w.earlier-is)
          (test-found a.all.now.span a.all.now.need a.all.now.marks.now a.all.now.values.now a.accepted.now l.known l.accepted l.count l.earlier l.r
          l.invariant
          below
          f.new.known
          f.auto.known
          f.ensures.remembered_after
          f.result
          f.ensures.accepted
          w.passes-count.result
          w.passes-count.ensures
          (sym w.if-is_some.ensures)
          f.ensures.holds)
      | then-all-r-eq-PRESENT+else-is_some w ↦
          let f = w.find_start-start in
          rw (w.known-is, w.accepted-is, w.count-is, w.earlier-is)
          (test-not a.all.now.span a.all.now.need a.all.now.marks.now a.all.now.values.now a.accepted.now l.known l.accepted l.count l.earlier l.r
          l.invariant
          below
          f.new.known
          f.auto.known
          f.ensures.remembered_after
          f.result
          f.ensures.accepted
          w.passes-count.result
          w.passes-count.ensures
          (sym w.if-is_some.ensures))
      | else-all-r-eq-PRESENT w ↦
          rw (w.known-is, w.accepted-is, w.count-is, w.earlier-is)
          (test-missing a.all.now.span a.all.now.need a.all.now.marks.now a.all.now.values.now a.accepted.now l.known l.accepted l.count l.earlier l.r
          l.invariant
          below
          (ne_eqb (get_or a.all.now.marks.now l.r 0) 1 w.if-all-r-eq-PRESENT.false))
    ]

pub returns-clause-value : goal.returns-clause-value
returns-clause-value c =
    let a = c.args in
    let l = c.readings in
    all-counted a.all.now.span a.all.now.need a.all.now.marks.now a.all.now.values.now a.accepted.now l.known l.accepted l.count l.earlier l.r
    l.invariant
    c.readings-test.false
