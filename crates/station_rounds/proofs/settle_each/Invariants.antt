-- The first p cabinets met not too many faults, and hold their next values; the other places are as they were.
use Rattle.std.proofs.Common.{◌≡◌, length}
use Rattle.station_rounds.proofs.Passing.{Passing}
use Rattle.station_rounds.proofs.settle_each.Given as goal

abbrev pub invariant-receivers : goal.invariant-receivers
invariant-receivers l =
    Passing l.settings l.round.roles.now l.round.held.now l.round.sent.now l.round.readings.now l.initial.next l.next l.p
    × (length l.marks ≡ length l.initial.marks)
    × (length l.values ≡ length l.initial.values)
