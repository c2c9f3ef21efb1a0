-- The readings passed are struck out in their place.
use Rattle.agreement.proofs.Kept.{Striking}
use Rattle.agreement.proofs.strike.Given as goal

abbrev pub invariant-readings : goal.invariant-readings
invariant-readings l = Striking l.accepted l.initial.marks l.marks l.r
