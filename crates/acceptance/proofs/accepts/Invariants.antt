-- Over starts: those tried do not admit the value, and the memory is sound. Over readings: the count is that of the
-- readings passed, and is short so far. Nothing is found yet in either. The measure is the readings left.
use Rattle.std.proofs.Common.{◌≡◌, ◌-◌, length}
use Rattle.std.specs.Prelude.{None}
use Rattle.acceptance.proofs.Spans.{Tried, Counted}
use Rattle.acceptance.proofs.accepts.Given as goal

abbrev pub invariant-readings : goal.invariant-readings
invariant-readings l = Counted l.all.span l.all.need l.all.marks.now l.all.values.now l.s l.count l.t × (l.found ≡ None)

abbrev pub decreases-readings : goal.decreases-readings
decreases-readings l = length l.all.marks.now - l.t

abbrev pub invariant-starts : goal.invariant-starts
invariant-starts l = Tried l.all.span l.all.need l.all.marks.now l.all.values.now l.value l.known l.s × (l.found ≡ None)
