-- A part stored at the front of a list.
--   part_put    the list afterwards: its first bytes are the part's, where there is room for it
use Rattle.std.specs.Prelude.{cond, List, ℕ, leb, length}
use Rattle.arithmetic.specs.Writing.{overwrite}

unfoldable pub part_put : List ℕ → List ℕ → List ℕ
part_put part list = cond (leb (length part) (length list)) (overwrite part list) list
