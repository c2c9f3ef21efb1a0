-- Both counts are those of the readings passed.
use Rattle.std.proofs.Common.{length, ◌&&◌, ltb, leb}
use Rattle.loop_laws.proofs.Loops.{Counts}
use Rattle.held.specs.Held.{present_in, value_at}
use Rattle.selection.proofs.rank.Given as goal

abbrev pub invariant-readings : goal.invariant-readings
invariant-readings l =
    Counts (λ t. present_in l.marks t && ltb (value_at l.values t) l.v) (length l.marks) l.below l.t
    × Counts (λ t. present_in l.marks t && leb (value_at l.values t) l.v) (length l.marks) l.up_to l.t
