-- All are to come at first; a step passes one; at the end none is left of them, or no number.
use Rattle.std.proofs.Common.{refl}
use Rattle.threshold_trimming.proofs.Loops.{finding_none, finding_one, found}
use Rattle.threshold_trimming.proofs.find_end.Goals as goal

pub numbers-init : goal.numbers-init
numbers-init c = finding_none

pub numbers-preserved : goal.numbers-preserved
numbers-preserved c = finding_one c.numbers.invariant c.if-left-eq0.false c.numbers-test.true

pub returns-then-left-eq0 : goal.returns-then-left-eq0
returns-then-left-eq0 c =
    record { same = refl; up_to = c.numbers.invariant.up_to; passed = found c.numbers.invariant c.if-left-eq0.true }
