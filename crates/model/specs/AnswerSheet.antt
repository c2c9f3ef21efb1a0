-- Document 01, "The answer sheet" (docs/FORMAT.md, 4).
--   answer_length    10 + 5N
--   header_bytes     bytes 0 to 9, of numbers given by their bits
--   answer_bytes     every byte of the answer sheet of a settled round
use Rattle.std.specs.Prelude.{List, [], ◌∷◌, ◌++◌, ℕ, ◌+◌, ◌*◌}
use Rattle.std.specs.Int.{w32}
use Rattle.std.proofs.Common.{of_z}
use Rattle.arithmetic.specs.Writing.{table}
use Rattle.model.specs.RoundSheet.{bytes4, reading_bytes}
use Rattle.model.specs.Steps.{Round}

-- bytes 0 to 9
abbrev pub answer_header_size : ℕ
answer_header_size = 10

-- "Length is 10 + 5N"
abbrev pub answer_length : ℕ → ℕ
answer_length n = answer_header_size + 5 * n

-- "Byte 0 N; byte 1 the accepted count; bytes 2 to 5 the estimate; bytes 6 to 9 the new value"
abbrev pub header_bytes : ℕ → ℕ → ℕ → ℕ → List ℕ
header_bytes n count estimate value = (n ∷ count ∷ []) ++ (bytes4 estimate ++ bytes4 value)

unfoldable pub answer_header : ℕ → Round → List ℕ
answer_header n round = header_bytes n round.count (of_z w32 round.estimate) (of_z w32 round.value)

-- "then N marks; then N used values"
unfoldable pub answer_bytes : ℕ → Round → List ℕ
answer_bytes n round = answer_header n round ++ (table round.mark n ++ reading_bytes (table round.used n))
