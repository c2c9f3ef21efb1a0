-- Where a cabinet's row stands in a sheet, as the C interface answers it, in document 01's terms.
--   packed_row    start × 2^32 + length, 0 where the part is empty
--   part_in       the part of a sheet that start × 2^32 + length names
use Rattle.std.specs.Prelude.{cond, List, ℕ, ◌+◌, ◌*◌, eqb, length, take, drop}
use Rattle.arithmetic.specs.Words.{two_to32}
use Rattle.model.specs.RoundSheet.{settings_at, row_start}
use Rattle.model.specs.Calls.{row}
use Rattle.packed_refusals.specs.Answers.{upper_half, lower_half}

-- the start of the cabinet's row in the sheet, and the length of the part that the row accessor shows
unfoldable pub packed_row : List ℕ → ℕ → ℕ
packed_row s r = cond (eqb (length (row s r)) 0) 0 (row_start (settings_at s) r * two_to32 + length (row s r))

abbrev pub part_in : List ℕ → ℕ → List ℕ
part_in s answer = take (lower_half answer) (drop (upper_half answer) s)
