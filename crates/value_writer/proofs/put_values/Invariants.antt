-- The loop's invariant: the bytes of the first p values are written, and the others are as they were.
use Rattle.std.proofs.Common.{◌≡◌, length, take}
use Rattle.arithmetic.specs.Writing.{table, overwrite}
use Rattle.model.specs.RoundSheet.{reading_bytes}
use Rattle.value_writer.specs.Values.{shown_of}
use Rattle.value_writer.proofs.put_values.Given as goal

abbrev pub invariant-cabinets : goal.invariant-cabinets
invariant-cabinets l =
    (l.values ≡ overwrite (reading_bytes (take l.p (table (shown_of l.roles l.held) (length l.roles)))) l.initial.values)
    × (length l.values ≡ length l.initial.values)
