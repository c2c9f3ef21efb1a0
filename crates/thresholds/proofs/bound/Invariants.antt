-- The numbers passed lie between the two.
use Rattle.thresholds.proofs.Narrowing.{Bounding}
use Rattle.thresholds.proofs.bound.Given as goal

abbrev pub invariant-values : goal.invariant-values
invariant-values l = Bounding l.values l.low l.high l.v-index
