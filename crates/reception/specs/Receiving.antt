-- INNER: no reader needs this page to believe a public promise. What a cabinet reads of the others, held as marks and
-- values (Rattle.held.specs.Held).
--   reading_at         document 01's reading of a cabinet: as sent for FCA, as decided for CCA
--   fitting           sizes that fit
--   fitting_direct     sizes that fit, of a sheet whose readings are as sent
--   marks_received, values_received    the lists that `receive` leaves
use Rattle.std.specs.Prelude.{Bool, cond, not, ◌&&◌, List, ℕ, ◌*◌, leb, ltb, eqb, length}
use Rattle.arithmetic.specs.Writing.{table}
use Rattle.model.specs.declared.Settings.{Settings}
use Rattle.model.specs.Ensemble.{Reading, max_cabinets}
use Rattle.model.specs.RoundSheet.{cca, entry_count, entry_at, sheet_length}
use Rattle.model.specs.Steps.{readings_of}
use Rattle.held.specs.Held.{held_mark, held_value}

abbrev pub reading_at : List ℕ → Settings → ℕ → Reading
reading_at s c r = readings_of c (entry_at s (entry_count c)) r

-- at most 64 cabinets, of which more than half are planned to be sound, a sheet of their length and lists as long as
-- they are many
unfoldable pub fitting : Settings → ℕ → ℕ → ℕ → Bool
fitting c sheet marks values =
    (leb c.n max_cabinets && ltb (2 * c.m) c.n)
    && (eqb sheet (sheet_length c) && (eqb marks c.n && eqb values c.n))

abbrev pub fitting_direct : Settings → ℕ → ℕ → ℕ → Bool
fitting_direct c sheet marks values = not (eqb c.rule cca) && fitting c sheet marks values

-- the lists are filled where the sizes fit, and else are as they were
unfoldable pub marks_received : List ℕ → Settings → List ℕ → List ℕ → List ℕ
marks_received s c marks values =
    cond (fitting c (length s) (length marks) (length values)) (table (λ r. held_mark (reading_at s c r)) c.n) marks

unfoldable pub values_received : List ℕ → Settings → List ℕ → List ℕ → List ℕ
values_received s c marks values =
    cond (fitting c (length s) (length marks) (length values)) (table (λ r. held_value (reading_at s c r)) c.n) values
