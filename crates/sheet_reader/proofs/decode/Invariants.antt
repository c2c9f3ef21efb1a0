-- The readings passed are the sheet's, and the others are as they were.
use Rattle.std.proofs.Common.{◌≡◌, to_z}
use Rattle.std.specs.Int.{w32}
use Rattle.arithmetic.specs.Writing.{table, overwrite}
use Rattle.model.specs.RoundSheet.{bits_at}
use Rattle.sheet_reader.proofs.decode.Given as goal

abbrev pub invariant-entries : goal.invariant-entries
invariant-entries l =
    l.readings ≡ overwrite (table (λ i. to_z w32 (bits_at l.sheet l.entries i)) l.e) l.initial.readings
