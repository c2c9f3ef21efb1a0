-- One count of the vote's candidate decides.
use Rattle.decisions.proofs.Voting.{decision-short, decision-bits}
use Rattle.decisions.proofs.Row.elect.Goals as goal

pub returns-then-enough : goal.returns-then-enough
returns-then-enough c =
    let r = c.args.self.now in
    decision-bits r.copies.marks.now r.copies.bytes.now r.need r.few r.sized r.most r.low _ c.vote-candidate.ensures _ c.count.ensures (cc)

pub returns-else-enough : goal.returns-else-enough
returns-else-enough c =
    let r = c.args.self.now in
    decision-short r.copies.marks.now r.copies.bytes.now r.need r.few r.sized r.most r.low _ c.vote-candidate.ensures _ c.count.ensures (cc)
