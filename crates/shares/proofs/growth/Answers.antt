-- `shares::growth` meets its contract: it is the share of m cabinets.
use Rattle.model.specs.Planner.{growth}
use Rattle.shares.proofs.growth.Goals as goal

pub returns : goal.returns
unfolding growth
returns c = c.share.ensures
