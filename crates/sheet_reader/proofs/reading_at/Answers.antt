-- The ticks are those of the four bytes read.
use Rattle.std.proofs.Common.{ℤ, w32, to_z, of_z, ap, ◌∙◌, arith}
use Rattle.std.proofs.Math.Facts.{of_z-to_z}
use Rattle.sheet_laws.proofs.Words.{word-joined}
use Rattle.sheet_reader.proofs.reading_at.Goals as goal

pub returns : goal.returns
returns c =
    let a = c.args in
    ap (λ (z : ℤ). to_z w32 (of_z w32 z)) c.from_bits-tick.ensures
    ∙ ap (to_z w32) (of_z-to_z {w = w32} (record { fits = omega arith }))
    ∙ ap (to_z w32) (word-joined a.sheet.now a.i c.join.result c.join.ensures)
