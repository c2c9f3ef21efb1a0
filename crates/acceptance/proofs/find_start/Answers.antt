-- A reading is accepted by the start of an earlier one, or by the first; not where the accepted ones before it and those left are too few.
use Rattle.std.proofs.Common.{is_some, sym, ap, ◌∙◌, arith}
use Rattle.arithmetic.proofs.Counting.{count-le}
use Rattle.acceptance.specs.Values.{accepted_in}
use Rattle.acceptance.proofs.Spans.{joined-accepted, decided_too_few, accepted-admitted}
use Rattle.acceptance.proofs.find_start.Goals as goal

pub returns-then-is_some-clause-accepted : goal.returns-then-is_some-clause-accepted
returns-then-is_some-clause-accepted c =
    let a = c.args in
    sym c.if-is_some.ensures
    ∙ sym
    ((joined-accepted a.all.now.span a.all.now.need a.all.now.marks.now a.all.now.values.now a.earlier a.r c.requires.present c.requires.begins).1
    (ap is_some (sym c.spanned_from-joined.ensures) ∙ sym c.if-is_some.ensures))

pub returns-then-is_some-clause-holds : goal.returns-then-is_some-clause-holds
returns-then-is_some-clause-holds c =
    let a = c.args in
    rw c.spanned_from-joined.ensures
    (joined-accepted a.all.now.span a.all.now.need a.all.now.marks.now a.all.now.values.now a.earlier a.r c.requires.present c.requires.begins).0

pub too_few-requires : goal.too_few-requires
too_few-requires c =
    let a = c.args in
    let below = count-le (accepted_in a.all.now.span a.all.now.need a.all.now.marks.now a.all.now.values.now) a.r in (
      omega (arith, a.all.now.few, c.requires.room.1, c.requires.before, below),
      omega (arith, a.all.now.few),
    )

pub returns-then-too_few-clause-accepted : goal.returns-then-too_few-clause-accepted
returns-then-too_few-clause-accepted c =
    let a = c.args in
    decided_too_few a.all.now.span a.all.now.need a.all.now.marks.now a.all.now.values.now a.r a.before c.requires.room.1 c.requires.before
    c.too_few.ensures
    c.if-too_few.true

pub returns-in_err-s-clause-accepted : goal.returns-in_err-s-clause-accepted
returns-in_err-s-clause-accepted c =
    let a = c.args in
    rw c.from_residual.ensures
    (c.in_err-s.ensures.admitted
    ∙ sym
    (accepted-admitted a.all.now.span a.all.now.need a.all.now.marks.now a.all.now.values.now a.r
    c.requires.present))

pub returns-clause-accepted : goal.returns-clause-accepted
returns-clause-accepted c =
    let a = c.args in
    c.in_ok-s.ensures.admitted
    ∙ sym
    (accepted-admitted a.all.now.span a.all.now.need a.all.now.marks.now a.all.now.values.now a.r
    c.requires.present)
