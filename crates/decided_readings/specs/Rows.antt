-- INNER: no reader needs this page to believe a public promise.
--   row_reading    what is decided of one cabinet, from the marks and the bytes of its copies
--   rows_taken     how many rows are taken: all of at most 64, or none where the copies or the lent lists are too few
use Rattle.std.specs.Prelude.{cond, ◌&&◌, List, ℕ, ◌*◌, leb, take, drop}
use Rattle.model.specs.Ensemble.{Reading, max_cabinets}
use Rattle.model.specs.Steps.{decided_reading}
use Rattle.decisions.specs.Rows.{row_decision}

-- row r of n copies in each row
abbrev pub row_marks : List ℕ → ℕ → ℕ → List ℕ
row_marks sent n r = take n (drop (r * n) sent)

abbrev pub row_bytes : List ℕ → ℕ → ℕ → List ℕ
row_bytes copies n r = take (4 * n) (drop (4 * (r * n)) copies)

abbrev pub row_reading : List ℕ → List ℕ → ℕ → ℕ → ℕ → Reading
row_reading sent copies n need r = decided_reading (row_decision need (row_marks sent n r) (row_bytes copies n r))

unfoldable pub rows_taken : ℕ → ℕ → ℕ → ℕ → ℕ → ℕ
rows_taken n sent copies marks values =
    cond (leb n max_cabinets && ((leb (n * n) sent && leb (4 * (n * n)) copies) && (leb n marks && leb n values))) n 0
