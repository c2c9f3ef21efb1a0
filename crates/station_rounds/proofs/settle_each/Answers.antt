-- The loop is left at the first cabinet that meets too many faults, or passes them all.
use Rattle.std.proofs.Common.{refl, sym, arith}
use Rattle.station_rounds.proofs.Passing.{begin, pass, stopped, ended}
use Rattle.station_rounds.proofs.settle_each.Goals as goal

pub receivers-init : goal.receivers-init
receivers-init c =
    let a = c.args in
    (begin a.settings a.round.roles.now a.round.held.now a.round.sent.now a.round.readings.now a.next.now, refl, refl)

pub receivers-preserved : goal.receivers-preserved
receivers-preserved c =
    let a = c.args in
    let v = c.receivers in (
      pass a.settings a.round.roles.now a.round.held.now a.round.sent.now a.round.readings.now a.next.now v.next v.p v.invariant.0
          c.receivers-test.true
          c.requires.next_len
          (sym c.in-Some.ensures.refused)
          c.in-Some.value
          c.in-Some.ensures.value,
      omega (arith, c.settle_one.auto.marks, v.invariant.1),
      omega (arith, c.settle_one.auto.values, v.invariant.2),
    )

pub returns-in-None-clause-left : goal.returns-in-None-clause-left
returns-in-None-clause-left c =
    let a = c.args in
    stopped a.settings a.round.roles.now a.round.held.now a.round.sent.now a.round.readings.now a.next.now c.receivers.next c.receivers.p c.receivers.invariant.0
    c.receivers-test.true
    (sym c.in-None.ensures.refused)

pub returns-clause-left : goal.returns-clause-left
returns-clause-left c =
    let a = c.args in
    ended a.settings a.round.roles.now a.round.held.now a.round.sent.now a.round.readings.now a.next.now c.receivers.next c.receivers.p c.receivers.invariant.0 c.receivers-test.false
