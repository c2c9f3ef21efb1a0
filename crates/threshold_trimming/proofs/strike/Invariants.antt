-- The readings passed are struck out in their place.
use Rattle.held.specs.Held.{value_at}
use Rattle.dropping.proofs.Loops.{Striking}
use Rattle.threshold_trimming.specs.Trimming.{left_at}
use Rattle.threshold_trimming.proofs.strike.Given as goal

abbrev pub invariant-readings : goal.invariant-readings
invariant-readings l = Striking (left_at (value_at l.numbers) l.left) l.initial.marks l.marks l.r
