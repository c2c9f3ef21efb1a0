-- What is received holds the sheet's readings, so the round that is settled and written is the sheet's, and none is
-- where nothing is counted.
use Rattle.refusals.specs.Answers.{check_of}
use Rattle.reception.specs.Receiving.{marks_received}
use Rattle.settling.specs.Rounds.{spread_of}
use Rattle.settling.proofs.Settling.{calls_leave, concludes, few-faults}
use Rattle.settling.proofs.settle_in.Goals as goal

pub settle_by-settled-requires : goal.settle_by-settled-requires
settle_by-settled-requires c =
    let a = c.args in
    (few-faults a.sheet.now a.settings (spread_of a.settings a.span) a.answer.now c.requires.ready.0).0

pub returns : goal.returns
returns c =
    let a = c.args in
    let r = c.settle_by-settled in
    let left =
    calls_leave a.sheet.now a.settings a.span a.marks.now a.values.now r.new.values r.new.marks r.result
    (λ j. (c.type_inv.sheet j).fits)
    c.requires.marks_len.0
    c.requires.marks_len.1
    c.requires.ready.1
    r.ensures.value
    r.ensures.marks_after
    r.ensures.values_after in
    concludes a.sheet.now a.settings (spread_of a.settings a.span) a.answer.now c.requires.ready.0
    a.marks.now
    a.values.now
    (marks_received a.sheet.now a.settings a.marks.now a.values.now)
    r.new.values
    r.new.marks
    r.result
    left
    c.conclude.new.answer
    c.conclude.ensures.answer_after
    (check_of c.conclude.result)
    c.conclude.ensures.check_10
