-- The quotient is rounded up.
use Rattle.std.proofs.Common.{arith}
use Rattle.model.specs.Planner.{ceil_div}
use Rattle.seconds.proofs.billionths_up.Goals as goal

pub returns : goal.returns
unfolding ceil_div
returns c = omega (arith, c.div_ceil.ensures)
