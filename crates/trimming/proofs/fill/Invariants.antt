-- The readings passed are filled in.
use Rattle.std.proofs.Common.{length}
use Rattle.loop_laws.proofs.Loops.{Storing}
use Rattle.trimming.specs.Values.{number_in}
use Rattle.trimming.proofs.fill.Given as goal

abbrev pub invariant-readings : goal.invariant-readings
invariant-readings l = Storing (number_in l.marks l.values) (length l.marks) l.initial.numbers l.numbers l.r
