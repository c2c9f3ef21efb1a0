-- The readings passed are stored, and later bytes are as they were.
use Rattle.std.proofs.Common.{◌≡◌, take}
use Rattle.arithmetic.specs.Writing.{overwrite}
use Rattle.model.specs.RoundSheet.{reading_bytes}
use Rattle.reading_writer.proofs.put_readings.Given as goal

abbrev pub invariant-entries : goal.invariant-entries
invariant-entries l = l.buffer ≡ overwrite (reading_bytes (take l.e l.readings)) l.initial.buffer
