-- The loop's invariant: the bytes of the first r used values are written, and the others are as they were.
use Rattle.std.proofs.Common.{◌≡◌, length, take}
use Rattle.arithmetic.specs.Writing.{table, overwrite}
use Rattle.model.specs.RoundSheet.{reading_bytes}
use Rattle.answer_writer.specs.Answers.{used_in}
use Rattle.answer_writer.proofs.put_used.Given as goal

abbrev pub invariant-values : goal.invariant-values
invariant-values l =
    (l.tail ≡ overwrite (reading_bytes (take l.r (table (used_in l.marks l.values l.estimate) (length l.marks)))) l.initial.tail)
    × (length l.tail ≡ length l.initial.tail)
