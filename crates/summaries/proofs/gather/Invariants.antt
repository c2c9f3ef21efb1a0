-- What is gathered is that of the readings passed.
use Rattle.summaries.proofs.Gathering.{SoFar}
use Rattle.summaries.proofs.gather.Given as goal

abbrev pub invariant-readings : goal.invariant-readings
invariant-readings l = SoFar l.marks l.values l.count l.total l.low l.high l.t
