-- Settling without a spread is settling with the spread 0.
use Rattle.model.specs.Calls.{settle}
use Rattle.settling.proofs.settle.Goals as goal

pub returns : goal.returns
unfolding settle
returns c = c.settle_spread.ensures
