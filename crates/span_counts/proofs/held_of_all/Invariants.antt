-- The readings passed are counted.
use Rattle.loop_laws.proofs.Loops.{Counts}
use Rattle.spans.specs.Spans.{held_at}
use Rattle.span_counts.proofs.held_of_all.Given as goal

abbrev pub invariant-readings : goal.invariant-readings
invariant-readings l = Counts (held_at l.start l.span l.marks l.values) l.n l.total l.t
