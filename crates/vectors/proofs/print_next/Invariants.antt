-- What is put lies within the vector.
use Rattle.std.proofs.Common.{length, ◌≤◌}
use Rattle.vectors.proofs.print_next.Given as goal

abbrev pub invariant-characters : goal.invariant-characters
invariant-characters g l = l.word.size ≤ length l.vector
