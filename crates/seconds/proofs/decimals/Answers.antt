-- The body is the definition.
use Rattle.std.proofs.Common.{refl}
use Rattle.seconds.specs.Seconds.{decimals}
use Rattle.seconds.proofs.decimals.Goals as goal

pub returns : goal.returns
unfolding decimals
returns c = refl
