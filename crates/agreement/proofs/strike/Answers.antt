-- Each reading passed is struck out in its place.
use Rattle.agreement.proofs.Kept.{strike_none, strike_one, all-struck}
use Rattle.agreement.proofs.strike.Goals as goal

pub readings-init : goal.readings-init
readings-init c = strike_none c.args.accepted.now c.args.marks.now c.requires

pub readings-preserved : goal.readings-preserved
readings-preserved c =
    let a = c.args in
    let m = c.readings in
    strike_one a.accepted.now a.marks.now m.marks m.r m.invariant
    c.readings-test.true
    c.kept_mark.result
    c.kept_mark.ensures

pub returns : goal.returns
returns c =
    let a = c.args in
    let m = c.readings in
    all-struck a.accepted.now a.marks.now m.marks m.r m.invariant c.readings-test.false
