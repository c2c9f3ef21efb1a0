-- INNER: no reader needs this page to believe a public promise. Parts of an answer sheet in a lent buffer.
--   roomy     at most 64 marks, as many values, and room for the answer sheet
--   headed    the buffer with the header in front, or as it was where it has no room for it
use Rattle.std.specs.Prelude.{Bool, cond, ◌&&◌, List, ℕ, leb, eqb, length}
use Rattle.arithmetic.specs.Writing.{overwrite}
use Rattle.model.specs.Ensemble.{max_cabinets}
use Rattle.model.specs.AnswerSheet.{header_bytes, answer_length, answer_header_size}

unfoldable pub roomy : ℕ → ℕ → ℕ → Bool
roomy n values room = leb n max_cabinets && (eqb values n && leb (answer_length n) room)

unfoldable pub headed : ℕ → ℕ → ℕ → ℕ → List ℕ → List ℕ
headed n count e v old =
    cond (leb answer_header_size (length old)) (overwrite (header_bytes n count e v) old) old
