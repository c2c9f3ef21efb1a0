-- `reached_limits::is_reached` meets its contract: each test is a factor of `reachable`.
use Rattle.std.proofs.Common.{refl}
use Rattle.reached_limits.specs.Reached.{reachable}
use Rattle.reached_limits.proofs.is_reached.Goals as goal

pub returns : goal.returns
unfolding reachable
returns c = refl
