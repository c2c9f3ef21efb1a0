-- The checks of bytes that are to be an answer sheet.
--   answer_checks     the checks that refuse bytes that are no answer sheet
--   cabinet_checks    those, and the one that refuses a cabinet of N or above
use Rattle.std.specs.Prelude.{List, [], ◌∷◌, ◌++◌, ℕ, ◌+◌, length}
use Rattle.model.specs.RoundSheet.{byte, settings_at}
use Rattle.model.specs.AnswerSheet.{answer_length}
use Rattle.model.specs.Refusals.{Check, bad_cabinets, bad_length, no_room}

-- "Byte 0 N", which is 1 to 64 (2); "Length is 10 + 5N" (6). An empty sheet has N 0
unfoldable pub answer_checks : List ℕ → List Check
answer_checks a = bad_cabinets (settings_at a) ∷ bad_length (length a) (answer_length (byte a 0)) ∷ []

-- "Cabinets are numbered 0 to N-1": the sheet has no room for cabinet r where N is below r + 1 (7)
unfoldable pub cabinet_checks : List ℕ → ℕ → List Check
cabinet_checks a r = answer_checks a ++ (no_room (byte a 0) (r + 1) ∷ [])
