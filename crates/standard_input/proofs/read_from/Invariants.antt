-- What was read lies within the buffer, whose length is kept. The measure is what is left of the buffer: a turn that
-- reads nothing leaves the loop.
use Rattle.std.proofs.Common.{length, ◌-◌, ◌≤◌, ◌≡◌}
use Rattle.standard_input.proofs.read_from.Given as goal

abbrev pub invariant-reads : goal.invariant-reads
invariant-reads g l = (l.size ≤ length l.buffer) × (length l.buffer ≡ length l.initial.buffer)

abbrev pub decreases-reads : goal.decreases-reads
decreases-reads g l = length l.buffer - l.size
