-- Each turn stores what one cabinet more holds next, or leaves it.
use Rattle.std.proofs.Common.{◌<◌, length, arith}
use Rattle.playing.proofs.Filling.{taking, begin, filled, taken, kept}
use Rattle.playing.proofs.take_over.Goals as goal
use Rattle.playing.proofs.take_over.Goals.{then-role-eq-SOUND, else-role-eq-SOUND}

pub cabinets-init : goal.cabinets-init
cabinets-init c =
    let a = c.args in
    begin (taking a.roles.now a.next.now a.held.now) a.held.now

pub cabinets-preserved : goal.cabinets-preserved
cabinets-preserved c =
    let a = c.args in
    let m = c.cabinets in
    let room : m.p < length a.held.now = omega (arith, c.requires.1, c.cabinets-test.true) in
    elim c.if-role-eq-SOUND.branch [
      | then-role-eq-SOUND w ↦
          rw w.held-is (taken a.roles.now a.next.now a.held.now m.held m.p m.invariant room w.if-role-eq-SOUND.true)
      | else-role-eq-SOUND w ↦
          rw w.held-is (kept a.roles.now a.next.now a.held.now m.held m.p m.invariant room w.if-role-eq-SOUND.false)
    ]

pub returns : goal.returns
returns c =
    let a = c.args in
    rw c.requires.1 at
    (filled
    (taking a.roles.now a.next.now a.held.now)
    a.held.now
    c.cabinets.held
    c.cabinets.p
    c.cabinets.invariant
    (omega (arith, c.requires.1, c.cabinets-test.false)))
