-- What a writer that goes on does at a write.
use Rattle.std.specs.Prelude.{Bool, IsTrue}

-- a failure that was noted stays so, and where none is noted the whole is written
abbrev pub GoesOn : Bool → Bool → Type 0 → Type 0
GoesOn before after Whole = (IsTrue before → IsTrue after) × ((¬ IsTrue after) → Whole)
