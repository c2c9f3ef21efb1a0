-- A cabinet's line is put after those of the cabinets passed.
use Rattle.fields.proofs.Writing.{writes_none}
use Rattle.text.specs.Text.{answer_round}
use Rattle.text.proofs.Lines.{cabinets-none}
use Rattle.text.proofs.Answers.{cabinet-put}
use Rattle.text.proofs.put_cabinets.Goals as goal

pub cabinets-init : goal.cabinets-init
cabinets-init c = rw (cabinets-none (answer_round c.args.answer.now)) (writes_none c.args.text.now)

pub cabinets-preserved : goal.cabinets-preserved
cabinets-preserved c =
    cabinet-put c.args.answer.now c.args.n c.cabinets.r c.byte_at-mark.result c.word_at-used.result c.requires
    c.byte_at-mark.ensures c.word_at-used.ensures c.cabinets.invariant c.put_cabinet.ensures
