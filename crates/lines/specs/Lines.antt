-- The lines of a round's text, of numbers given by their bits.
--   round_line, cabinet_line    the first line, and a cabinet's
use Rattle.std.specs.Prelude.{List, [], ◌∷◌, ℕ}
use Rattle.std.specs.Int.{w32}
use Rattle.std.proofs.Common.{to_z}
use Rattle.model.specs.Listing.{decimal, signed_decimal, line, round_word}

-- "First line: `round`, N, count, estimate, new value"
abbrev pub round_line : ℕ → ℕ → ℕ → ℕ → List ℕ
round_line n count estimate value =
    line round_word (decimal n ∷ decimal count ∷ signed_decimal (to_z w32 estimate) ∷ signed_decimal (to_z w32 value) ∷ [])

-- "Then per cabinet: number, mark, used value"
abbrev pub cabinet_line : ℕ → ℕ → ℕ → List ℕ
cabinet_line r mark used = line (decimal r) (decimal mark ∷ signed_decimal (to_z w32 used) ∷ [])
