-- The readings passed do not fit, nor does any number outside the range.
use Rattle.selection.proofs.Narrowing.{Narrowed}
use Rattle.selection.proofs.numbered.Given as goal

abbrev pub invariant-candidates : goal.invariant-candidates
invariant-candidates l = Narrowed l.marks l.values l.h l.low l.high l.t
