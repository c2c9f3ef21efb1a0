-- What one count of the copy's value tells.
use Rattle.decisions.proofs.Voting.{decision-enough, decision_spent}
use Rattle.decisions.proofs.Row.try_copy.Goals as goal

pub returns-then-enough : goal.returns-then-enough
returns-then-enough c =
    let r = c.args.self.now in
    let value = c.bits-value in
    decision-enough r.copies.marks.now r.copies.bytes.now r.need r.few r.sized r.most r.low value.result value.type_inv _ c.count-copies.ensures (cc)

pub returns-then-spent : goal.returns-then-spent
returns-then-spent c =
    let r = c.args.self.now in
    let value = c.bits-value in
    decision_spent r.copies.marks.now r.copies.bytes.now r.need r.few r.sized r.most r.low value.result value.type_inv _ c.count-copies.ensures
    (cc)
    (cc)
