-- The first p readings are stored, and the other places are as they were.
use Rattle.std.proofs.Common.{length}
use Rattle.arithmetic.specs.Naturals.{up}
use Rattle.arithmetic.specs.Words.{two_to31}
use Rattle.trace.specs.Trace.{first_at}
use Rattle.playing.proofs.Filling.{Filling}
use Rattle.playing.proofs.first_readings.Given as goal

abbrev pub invariant-cabinets : goal.invariant-cabinets
invariant-cabinets l =
    Filling (λ q. up two_to31 (first_at l.trace (length l.fn.held) q)) l.fn.held l.held l.p
