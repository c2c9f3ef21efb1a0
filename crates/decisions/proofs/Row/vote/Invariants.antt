-- The candidate and its lead are those of the copies passed.
use Rattle.decisions.proofs.Voting.{Voted}
use Rattle.decisions.proofs.Row.vote.Given as goal

abbrev pub invariant-copies : goal.invariant-copies
invariant-copies l = Voted l.mark-items l.self.copies.bytes.now l.candidate l.lead l.t
