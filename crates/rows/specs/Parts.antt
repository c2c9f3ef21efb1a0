-- The part of a sheet that is one cabinet's row of readings, for any sheet and any settings.
--   row_end    the byte after the row
--   part_at    the row, or an empty part for a cabinet number of N or above and where the row runs past the sheet
use Rattle.std.specs.Prelude.{cond, List, [], ℕ, ◌+◌, ltb, leb, length}
use Rattle.model.specs.declared.Settings.{Settings}
use Rattle.model.specs.RoundSheet.{row_start, row_length, row_part}

abbrev pub row_end : Settings → ℕ → ℕ
row_end c r = row_start c r + row_length c

unfoldable pub part_at : List ℕ → Settings → ℕ → List ℕ
part_at s c r = cond (ltb r c.n) (cond (leb (row_end c r) (length s)) (row_part s c r) []) []
