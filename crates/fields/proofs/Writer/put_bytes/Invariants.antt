-- The bytes passed are put.
use Rattle.std.proofs.Common.{take}
use Rattle.fields.specs.Writing.{Writes}
use Rattle.fields.proofs.Writer.put_bytes.Given as goal

abbrev pub invariant-bytes : goal.invariant-bytes
invariant-bytes l = Writes l.initial.self (take l.byte-index l.bytes) l.self
