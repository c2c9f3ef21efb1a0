-- What is received is agreed on by spans.
use Rattle.settling.proofs.Rules.{by-spans}
use Rattle.settling.proofs.settle_spans.Goals as goal

pub returns-clause-value : goal.returns-clause-value
returns-clause-value c =
    let a = c.args in
    let r = c.receive in
    let t = c.agree in
    (by-spans a.sheet.now a.settings a.marks.now a.values.now r.new.marks r.new.values t.new.marks t.result a.span
    c.requires.0
    r.ensures.marks_after
    r.ensures.values_after
    t.ensures.value
    t.ensures.marks_after
    ).0

pub returns-clause-marks_after : goal.returns-clause-marks_after
returns-clause-marks_after c =
    let a = c.args in
    let r = c.receive in
    let t = c.agree in
    (by-spans a.sheet.now a.settings a.marks.now a.values.now r.new.marks r.new.values t.new.marks t.result a.span
    c.requires.0
    r.ensures.marks_after
    r.ensures.values_after
    t.ensures.value
    t.ensures.marks_after
    ).1
