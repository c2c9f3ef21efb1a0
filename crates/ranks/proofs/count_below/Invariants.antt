-- The numbers passed are counted.
use Rattle.std.proofs.Common.{length, ltb}
use Rattle.loop_laws.proofs.Loops.{Counts}
use Rattle.held.specs.Held.{value_at}
use Rattle.ranks.proofs.count_below.Given as goal

abbrev pub invariant-values : goal.invariant-values
invariant-values l = Counts (λ i. ltb (value_at l.values i) l.value) (length l.values) l.below l.v-index
