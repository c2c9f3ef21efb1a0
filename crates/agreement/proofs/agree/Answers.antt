-- The flags are those of acceptance, so what is struck out by them and evaluated is the round.
use Rattle.std.proofs.Common.{false, refl, replicate, arith}
use Rattle.agreement.proofs.Agreeing.{agreed-none, marks-none, few-marks, none-struck, agreed-some, marks-some}
use Rattle.agreement.proofs.agree.Goals as goal

pub returns-then-count-eq0-clause-value : goal.returns-then-count-eq0-clause-value
returns-then-count-eq0-clause-value c =
    let a = c.args in
    let n = c.accept-count in
    agreed-none a.span a.need a.marks.now a.values.now (replicate 64 false) refl n.result n.ensures.value
    c.if-count-eq0.true
    a.kind

pub returns-then-count-eq0-clause-marks_after : goal.returns-then-count-eq0-clause-marks_after
returns-then-count-eq0-clause-marks_after c =
    let a = c.args in
    let n = c.accept-count in
    marks-none a.span a.need a.marks.now a.values.now (replicate 64 false) refl n.result n.ensures.value
    c.if-count-eq0.true

pub strike_others-requires-clause-marks_in_bounds : goal.strike_others-requires-clause-marks_in_bounds
strike_others-requires-clause-marks_in_bounds c =
    let a = c.args in
    let n = c.accept-count in
    let few =
    few-marks a.span a.need a.marks.now a.values.now (replicate 64 false) refl n.result n.ensures.value
    c.if-count-eq0.false in
    omega (arith, n.auto.accepted)

pub strike_others-requires-clause-all_kept : goal.strike_others-requires-clause-all_kept
strike_others-requires-clause-all_kept c =
    let a = c.args in
    let n = c.accept-count in
    none-struck a.span a.need a.marks.now a.values.now (replicate 64 false) refl n.result n.ensures.value
    c.if-count-eq0.false
    n.new.accepted
    n.ensures.accepted_after

pub returns-clause-value : goal.returns-clause-value
returns-clause-value c =
    let a = c.args in
    let n = c.accept-count in
    agreed-some a.span a.need a.marks.now a.values.now (replicate 64 false) refl n.result n.ensures.value
    c.if-count-eq0.false
    n.new.accepted
    c.strike_others.new.marks
    n.ensures.accepted_after
    c.strike_others.ensures
    a.kind
    c.evaluate.result
    c.evaluate.ensures.value

pub returns-clause-marks_after : goal.returns-clause-marks_after
returns-clause-marks_after c =
    let a = c.args in
    let n = c.accept-count in
    marks-some a.span a.need a.marks.now a.values.now (replicate 64 false) refl n.result n.ensures.value
    c.if-count-eq0.false
    n.new.accepted
    c.strike_others.new.marks
    n.ensures.accepted_after
    c.strike_others.ensures
