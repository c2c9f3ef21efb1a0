-- The first r of the rows that are taken are decided and held, and the others are as they were. The next row, if there
-- is one, lies within the copies.
use Rattle.std.proofs.Common.{length}
use Rattle.held_laws.proofs.Storing.{Storing}
use Rattle.decided_readings.specs.Rows.{row_reading}
use Rattle.decided_readings.proofs.Sizes.{Room}
use Rattle.decided_readings.proofs.receive_decided.Given as goal

abbrev pub invariant-rows : goal.invariant-rows
invariant-rows l =
    record {
      room : Room l.n (length l.sent) (length l.copies) (length l.initial.marks) (length l.initial.values) l.rows;
      stored :
          Storing
          (row_reading l.sent l.copies l.n l.need)
          l.rows
          l.initial.marks
          l.initial.values
          l.marks
          l.values
          l.r;
    }
