-- The first t of the readings that are taken are held, and the others are as they were.
use Rattle.decisions.specs.Rows.{copy_at}
use Rattle.held_laws.proofs.Storing.{Storing}
use Rattle.sent_readings.proofs.receive_sent.Given as goal

abbrev pub invariant-readings : goal.invariant-readings
invariant-readings l = Storing (copy_at l.sent l.row) l.n l.initial.marks l.initial.values l.marks l.values l.t
