-- What is heard of the first r senders is stored, and the other places are as they were.
use Rattle.std.proofs.Common.{length}
use Rattle.held_laws.proofs.Storing.{Storing}
use Rattle.hearing.specs.Heard.{heard_from}
use Rattle.hearing.proofs.hear_each.Given as goal

abbrev pub invariant-senders : goal.invariant-senders
invariant-senders l =
    Storing (heard_from l.round.roles.now l.round.held.now l.round.sent.now l.round.readings.now l.p) (length l.round.roles.now) l.initial.marks l.initial.values l.marks l.values l.r
