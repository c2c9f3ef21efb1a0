-- What each sender is heard to say is stored at its place.
use Rattle.std.proofs.Common.{length, arith}
use Rattle.held_laws.proofs.Storing.{begin, store}
use Rattle.hearing.specs.Heard.{heard_from}
use Rattle.hearing.proofs.hear_each.Goals as goal

pub senders-init : goal.senders-init
senders-init c =
    let a = c.args in
    begin (heard_from a.round.roles.now a.round.held.now a.round.sent.now a.round.readings.now a.p)
    (length a.round.roles.now) a.marks.now a.values.now

pub senders-preserved : goal.senders-preserved
senders-preserved c =
    let a = c.args in
    let s = c.senders in
    let said = c.hear_one-said in
    store (heard_from a.round.roles.now a.round.held.now a.round.sent.now a.round.readings.now a.p)
    (length a.round.roles.now) a.marks.now a.values.now s.marks s.values s.r s.invariant (omega arith)
    c.requires.roles_in_bounds.0 c.requires.roles_in_bounds.1 said.result.mark said.result.value said.ensures.mark
    said.ensures.value
