-- The header, the marks behind it and the used values in the tail are the answer sheet.
use Rattle.std.proofs.Common.{refl, ◌∙◌, arith}
use Rattle.part_writer.proofs.Fitting.{part_fits}
use Rattle.answer_writer.proofs.Bytes.{answer-written, lent, length-lent}
use Rattle.answer_writer.proofs.put_parts.Goals as goal

pub returns : goal.returns
returns c =
    let a = c.args in
    let header = c.put_header.new.answer in
    answer-written a.marks.now a.values.now a.answer.now a.outcome.count a.outcome.estimate a.outcome.value _ _ refl refl
    header
    c.put_part.new.list
    c.put_used.new.tail
    (omega (arith, c.requires.room))
    c.put_header.ensures
    (c.put_part.ensures
    ∙ part_fits a.marks.now (lent 10 header)
    (omega (arith, length-lent 10 header, c.put_header.auto.answer, c.requires.room)))
    c.put_used.ensures
