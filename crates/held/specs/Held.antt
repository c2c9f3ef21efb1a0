-- INNER: no reader needs this page to believe a public promise. How the code holds readings while it settles: a list
-- of marks, and a list of numbers below 2^32. A mark of 1 is a present reading, whose number is its ticks moved up by
-- 2^31; any other mark is none, and its number says nothing. The law `reading-held` (proofs/Held) says that no reading
-- of 32 bits is lost by it.
--   entry_reading           the reading that an entry's mark and bits are
--   held_mark, held_value    the mark and the number that a reading is held as
--   present_in, value_at     whether a cabinet's reading is present; its number
--   kept_mark               the mark of a reading on the answer sheet, by the mark that it was held with
--   readings_in             the readings that the two lists hold, one for each cabinet
--   unfit                  whether two lists of these lengths are not those of at most 64 cabinets
use Rattle.std.specs.Prelude.{ℕ, Bool, cond, not, ◌||◌, List, ◌==◌, nat_lt, slice_index}
use Rattle.std.specs.Int.{w32}
use Rattle.std.proofs.Common.{to_z}
use Rattle.arithmetic.specs.Words.{two_to31}
use Rattle.arithmetic.specs.Naturals.{up}
use Rattle.model.specs.Ensemble.{Reading, missing, present, Readings, max_cabinets}
use Rattle.round_laws.specs.Naturals.{shift}

-- "E marks of one byte (1 present, 0 missing)": any other mark is held as missing too
abbrev pub entry_reading : ℕ → ℕ → Reading
entry_reading mark bits = cond (mark == 1) (present (to_z w32 bits)) missing

abbrev pub held_mark : Reading → ℕ
held_mark (present z) = 1
held_mark missing = 0

abbrev pub held_value : Reading → ℕ
held_value (present z) = up two_to31 z
held_value missing = 0

abbrev pub present_in : List ℕ → ℕ → Bool
present_in marks r = slice_index marks r == 1

abbrev pub value_at : List ℕ → ℕ → ℕ
value_at values r = slice_index values r

-- document 01's marks of the answer sheet (`mark_of` of model/specs/Steps): "0 missing or known faulty, 1 accepted, 2
-- present and not accepted"
abbrev pub kept_mark : Bool → ℕ → ℕ
kept_mark accepted mark = cond (mark == 1) (cond accepted 1 2) 0

abbrev pub readings_in : List ℕ → List ℕ → Readings
readings_in marks values r = shift two_to31 (present_in marks r) (value_at values r)

abbrev pub unfit : ℕ → ℕ → Bool
unfit marks values = nat_lt max_cabinets marks || not (values == marks)
