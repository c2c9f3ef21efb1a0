-- The first p cabinets have what they hold next, and the other places are as they were.
use Rattle.playing.proofs.Filling.{Filling, taking}
use Rattle.playing.proofs.take_over.Given as goal

abbrev pub invariant-cabinets : goal.invariant-cabinets
invariant-cabinets l = Filling (taking l.roles l.next l.initial.held) l.initial.held l.held l.p
