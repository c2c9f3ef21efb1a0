-- The readings passed are tested and counted, and the memory is sound; the measure is the readings left.
use Rattle.acceptance.proofs.Testing.{Testing}
use Rattle.acceptance.proofs.accept_each.Given as goal

abbrev pub invariant-readings : goal.invariant-readings
invariant-readings l = Testing l.all.span l.all.need l.all.marks.now l.all.values.now l.initial.accepted l.known l.accepted l.count l.earlier l.r
