-- INNER: no reader needs this page to believe a public promise. A row's copies as bytes: a mark for each copy, and
-- four bytes of each.
--   marked_at, copy_bits       a copy's mark is 1; its number
--   holds-bits, holds_copy    a copy is present, and its number is v
--   row_unfit                 whether there are more than 64 copies, or not four bytes of each
--   copies_in                 how many copies hold v; none of a row that is unfit
use Rattle.std.specs.Prelude.{Bool, cond, not, ◌&&◌, ◌||◌, List, ℕ, ◌*◌, ltb, eqb, length, get_or}
use Rattle.arithmetic.specs.Counting.{count}
use Rattle.model.specs.Ensemble.{max_cabinets}
use Rattle.model.specs.RoundSheet.{word}

abbrev pub marked_at : List ℕ → ℕ → Bool
marked_at marks t = eqb (get_or marks t 0) 1

abbrev pub copy_bits : List ℕ → ℕ → ℕ
copy_bits row t = word row (4 * t)

abbrev pub holds-bits : (ℕ → Bool) → (ℕ → ℕ) → ℕ → ℕ → Bool
holds-bits pres bits v t = pres t && eqb v (bits t)

abbrev pub holds_copy : List ℕ → List ℕ → ℕ → ℕ → Bool
holds_copy marks row = holds-bits (marked_at marks) (copy_bits row)

abbrev pub row_unfit : ℕ → ℕ → Bool
row_unfit marks row = ltb max_cabinets marks || not (eqb row (4 * marks))

unfoldable pub copies_in : List ℕ → List ℕ → ℕ → ℕ
copies_in marks row v = cond (row_unfit (length marks) (length row)) 0 (count (holds_copy marks row v) (length marks))
