-- No number is passed at first; a step takes the lower and the higher of it and what was found.
use Rattle.thresholds.proofs.Narrowing.{bound_next}
use Rattle.thresholds.proofs.bound.Goals as goal

pub values-preserved : goal.values-preserved
values-preserved c = bound_next c.values.invariant c.values-test.true c.min-low.ensures c.max-high.ensures
