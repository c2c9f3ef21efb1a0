-- The flag says whether a sound sender's mark among those passed is 1, and the iterator has the other rows.
use Rattle.sender_checks.proofs.Rows.{Passed}
use Rattle.sender_checks.proofs.sound_sent.Given as goal

abbrev pub invariant-rows : goal.invariant-rows
invariant-rows l =
    Passed l.roles l.marks l.found l.k-iterator.count l.k-iterator.iter.size l.k-iterator.iter.rest.now
