-- One more entry is the sheet's; at the end they all are.
use Rattle.std.proofs.Common.{w32, to_z, of_z, refl, ◌∙◌, arith}
use Rattle.std.proofs.lemmas.List.{length-set}
use Rattle.model.specs.RoundSheet.{bits_at}
use Rattle.loop_laws.proofs.Loops.{store-none, store-next}
use Rattle.sheet_laws.proofs.Readings.{bits_again}
use Rattle.sheet_reader.proofs.decode.Goals as goal

pub entries-init : goal.entries-init
entries-init c = store-none (λ i. to_z w32 (bits_at c.args.sheet.now c.args.entries i)) c.args.readings.now

pub entries-preserved : goal.entries-preserved
entries-preserved c =
    let m = c.entries in
    let a = c.args in
    let reading = c.reading_at.result in
    store-next (λ i. to_z w32 (bits_at a.sheet.now a.entries i)) m.e a.readings.now m.readings
    (to_z w32 (of_z w32 reading)) m.invariant
    (bits_again reading (omega arith) ∙ c.reading_at.ensures) (omega arith)
