-- INNER: no reader needs this page to believe a public promise.
--   concluded    what `conclude` leaves in the buffer: the answer sheet of the round that is held, or, where no
--                reading is accepted, what was there
use Rattle.std.specs.Prelude.{cond, List, ℕ, eqb}
use Rattle.answer_writer.specs.Answers.{written_of}

unfoldable pub concluded : ℕ → ℕ → ℕ → List ℕ → List ℕ → List ℕ → List ℕ
concluded count e v marks values old = cond (eqb count 0) old (written_of count e v marks values old)
