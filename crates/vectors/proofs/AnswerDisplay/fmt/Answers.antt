-- The parts that are written are those of the sheet.
use Rattle.std.proofs.Common.{rules}
use Rattle.std.proofs.Output.{displays_on_IsOk_append, displays_on_ok_of_eq}
use Rattle.vectors.proofs.Parts.{Cut, cut_at}
use Rattle.vectors.proofs.AnswerDisplay.fmt.Goals as goal

pub returns-clause-writes : goal.returns-clause-writes
returns-clause-writes g c =
    let sheet = c.args.self.now.0.now in
    let head : Cut 10 sheet c.split_at.result.0.now c.split_at.result.1.now =
    cut_at 10 sheet _ _ c.min.result (search rules) c.split_at.ensures.front c.split_at.ensures.back in
    let round : Cut 2 c.split_at.result.0.now c.split_at-2.result.0.now c.split_at-2.result.1.now =
    cut_at 2 c.split_at.result.0.now _ _ c.min-2.result (search rules) c.split_at-2.ensures.front c.split_at-2.ensures.back in
    let cabinets : Cut c.byte_at-cabinets.result c.split_at.result.1.now c.split_at-3.result.0.now c.split_at-3.result.1.now =
    cut_at c.byte_at-cabinets.result c.split_at.result.1.now _ _ c.min-3.result (search rules) c.split_at-3.ensures.front c.split_at-3.ensures.back in
    displays_on_ok_of_eq _ _ _ _ _ _ (cc) (displays_on_IsOk_append _ c.args.f.now c.write.new.self c.write-2.new.self c.write.result c.write-2.result _ _ (search rules) c.write.ensures.writes c.write-2.ensures.writes)
