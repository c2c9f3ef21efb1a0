-- The tests say whether the sizes fit; it lends the first places of its arrays, one for each cabinet.
use Rattle.std.proofs.Common.{length, sym, ◌∙◌}
use Rattle.station_rounds.proofs.Fitting.{unsized, tested-fits, none-given, next-kept, first-given, next-given}
use Rattle.station_rounds.proofs.settle_round.Goals as goal

pub returns-in_err-round-clause-value : goal.returns-in_err-round-clause-value
returns-in_err-round-clause-value c =
    let a = c.args in
    rw c.from_residual.ensures
    (none-given a.settings a.roles.now a.held.now a.sent.now a.readings.now a.next.now
    (unsized a.settings a.roles.now a.held.now a.sent.now a.readings.now a.next.now (c.in_err-round.ensures 0 (length a.roles.now) (length a.next.now))))

pub returns-in_err-round-clause-next_after : goal.returns-in_err-round-clause-next_after
returns-in_err-round-clause-next_after c =
    let a = c.args in
    next-kept a.settings a.roles.now a.held.now a.sent.now a.readings.now a.next.now
    (unsized a.settings a.roles.now a.held.now a.sent.now a.readings.now a.next.now (c.in_err-round.ensures 0 (length a.roles.now) (length a.next.now)))

pub returns-then-not-cabinets-n-clause-value : goal.returns-then-not-cabinets-n-clause-value
returns-then-not-cabinets-n-clause-value c =
    let a = c.args in
    let same = c.in_ok-round.ensures in
    let fit = sym (tested-fits a.settings a.roles.now a.held.now a.sent.now a.readings.now a.next.now c.in_ok-round.round same) ∙ c.if-not-cabinets-n.true in
    none-given a.settings a.roles.now a.held.now a.sent.now a.readings.now a.next.now fit

pub returns-then-not-cabinets-n-clause-next_after : goal.returns-then-not-cabinets-n-clause-next_after
returns-then-not-cabinets-n-clause-next_after c =
    let a = c.args in
    let same = c.in_ok-round.ensures in
    let fit = sym (tested-fits a.settings a.roles.now a.held.now a.sent.now a.readings.now a.next.now c.in_ok-round.round same) ∙ c.if-not-cabinets-n.true in
    next-kept a.settings a.roles.now a.held.now a.sent.now a.readings.now a.next.now fit

pub returns-clause-value : goal.returns-clause-value
returns-clause-value c =
    let a = c.args in
    let same = c.in_ok-round.ensures in
    let fit = sym (tested-fits a.settings a.roles.now a.held.now a.sent.now a.readings.now a.next.now c.in_ok-round.round same) ∙ c.if-not-cabinets-n.false in
    first-given a.settings a.roles.now a.held.now a.sent.now a.readings.now a.next.now fit _ _ (rw (same.0, same.1, same.2, same.3) at c.settle_each.ensures.left)

pub returns-clause-next_after : goal.returns-clause-next_after
returns-clause-next_after c =
    let a = c.args in
    let same = c.in_ok-round.ensures in
    let fit = sym (tested-fits a.settings a.roles.now a.held.now a.sent.now a.readings.now a.next.now c.in_ok-round.round same) ∙ c.if-not-cabinets-n.false in
    next-given a.settings a.roles.now a.held.now a.sent.now a.readings.now a.next.now fit _ _ (rw (same.0, same.1, same.2, same.3) at c.settle_each.ensures.left)
