-- The range that is left holds a threshold, and those below it and up to its end are counted; the measure is its width.
use Rattle.std.proofs.Common.{◌-◌}
use Rattle.thresholds.proofs.Narrowing.{Narrowing}
use Rattle.thresholds.proofs.find.Given as goal

abbrev pub invariant-narrowing : goal.invariant-narrowing
invariant-narrowing l = Narrowing l.values l.k l.rest l.below l.within

abbrev pub decreases-narrowing : goal.decreases-narrowing
decreases-narrowing l = l.rest.high - l.rest.low
