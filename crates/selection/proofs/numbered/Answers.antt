-- The reading that is found is the one numbered; each one that is not narrows the range, and none may be left.
use Rattle.selection.proofs.Narrowing.{narrow-skip, narrow_high, narrow-low, numbered-unfit, numbered-here, numbered-all}
use Rattle.selection.proofs.numbered.Goals.{then-open+then-h-ranks, then-open+else-h-ranks+then-ranks-h, else-open}
use Rattle.selection.proofs.numbered.Goals as goal

pub returns-then-unfit : goal.returns-then-unfit
returns-then-unfit c =
    let a = c.args in
    numbered-unfit a.marks.now a.values.now a.h c.unfit.ensures c.if-unfit.true

pub returns-else-ranks-h : goal.returns-else-ranks-h
returns-else-ranks-h c =
    let a = c.args in
    let r = c.candidates in
    numbered-here a.marks.now a.values.now a.h r.low r.high r.t r.invariant
    c.candidates-test.true
    c.open.ensures
    c.if-open.true
    (rw c.rank-ranks.ensures.below_value at c.if-h-ranks.false)
    (rw c.rank-ranks.ensures.up_to_value at c.if-ranks-h.false)

pub candidates-preserved : goal.candidates-preserved
candidates-preserved c =
    let a = c.args in
    let marks = a.marks.now in
    let values = a.values.now in
    let r = c.candidates in
    let room = c.candidates-test.true in
    elim c.if-open.branch [
      | then-open+then-h-ranks w ↦
          rw (w.low-is, w.high-is)
          (narrow_high marks values a.h r.low r.high r.t r.invariant room
          (rw w.rank-ranks.ensures.below_value at w.if-h-ranks.true)
          w.saturating_sub-high.result
          w.saturating_sub-high.ensures)
      | then-open+else-h-ranks+then-ranks-h w ↦
          rw (w.low-is, w.high-is)
          (narrow-low marks values a.h r.low r.high r.t r.invariant room
          (rw w.rank-ranks.ensures.up_to_value at w.if-ranks-h.true)
          w.saturating_add-low.result
          w.saturating_add-low.ensures)
      | else-open w ↦
          rw (w.low-is, w.high-is)
          (narrow-skip marks values a.h r.low r.high r.t r.invariant room c.open.ensures w.if-open.false)
    ]

pub returns : goal.returns
returns c =
    let a = c.args in
    let r = c.candidates in
    numbered-all a.marks.now a.values.now a.h r.low r.high r.t r.invariant c.candidates-test.false
