-- The vote begins with no copy; a step is the law for its kind of copy.
use Rattle.decisions.proofs.Voting.{vote-none, vote-agree, vote-differ, vote_replace, vote-missing}
use Rattle.decisions.proofs.Row.vote.Goals as goal
use Rattle.decisions.proofs.Row.vote.Goals.{then-holds, else-holds+then-lead-gt0, else-holds+else-lead-gt0+then-mark-eq1, else-holds+else-lead-gt0+else-mark-eq1}

pub copies-init : goal.copies-init
copies-init c = let row = c.args.self.now in vote-none row.copies.marks.now row.copies.bytes.now

pub copies-preserved : goal.copies-preserved
copies-preserved c =
    let row = c.args.self.now in
    let r = c.copies in
    let bits = c.bits-bits in
    let more = c.copies-test.true in
    let same = c.holds.ensures in
    let agree = vote-agree row.copies.marks.now row.copies.bytes.now r.candidate r.lead r.t r.invariant more bits.result (bits.ensures.here more) same in
    let differ = vote-differ row.copies.marks.now row.copies.bytes.now r.candidate r.lead r.t r.invariant more bits.result (bits.ensures.here more) same in
    let replace = vote_replace row.copies.marks.now row.copies.bytes.now r.candidate r.lead r.t r.invariant more bits.result (bits.ensures.here more) same in
    let missing = vote-missing row.copies.marks.now row.copies.bytes.now r.candidate r.lead r.t r.invariant more bits.result (bits.ensures.here more) same in
    elim c.if-holds.branch [
      | then-holds w ↦ rw (w.candidate-is, w.lead-is) (agree w.if-holds.true)
      | else-holds+then-lead-gt0 w ↦ rw (w.candidate-is, w.lead-is) (differ w.if-holds.false w.if-lead-gt0.true)
      | else-holds+else-lead-gt0+then-mark-eq1 w ↦
          rw (w.candidate-is, w.lead-is) (replace w.if-lead-gt0.false w.if-mark-eq1.true)
      | else-holds+else-lead-gt0+else-mark-eq1 w ↦
          rw (w.candidate-is, w.lead-is) (missing w.if-lead-gt0.false w.if-mark-eq1.false)
    ]
