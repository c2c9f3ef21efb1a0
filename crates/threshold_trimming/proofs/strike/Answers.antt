-- No mark is struck out at first; a step writes the next, by the test of its number.
use Rattle.std.proofs.Common.{Bool, get_or, ap, ◌∙◌}
use Rattle.held.specs.Held.{kept_mark}
use Rattle.dropping.proofs.Loops.{strike_none, strike_one, all-struck}
use Rattle.threshold_trimming.proofs.strike.Goals as goal

pub readings-init : goal.readings-init
readings-init c = strike_none

pub readings-preserved : goal.readings-preserved
readings-preserved c =
    let k = c.readings in
    strike_one k.invariant c.readings-test.true
    (c.kept_mark.ensures ∙ ap (λ (b : Bool). kept_mark b (get_or k.marks k.r 0)) c.is_left.ensures)

pub returns : goal.returns
returns c = all-struck c.readings.invariant c.readings-test.false
