-- An addition of 2^31 that wraps moves a reading back.
use Rattle.std.proofs.Common.{arith}
use Rattle.held.proofs.Biasing.{wrapped_down}
use Rattle.held.proofs.unbias.Goals as goal

pub returns : goal.returns
returns c = wrapped_down c.args.value (omega arith)
