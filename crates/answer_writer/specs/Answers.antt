-- INNER: no reader needs this page to believe a public promise. A settled round that is held as a list of marks and
-- a list of values (Rattle.held.specs.Held), in document 01's terms: the estimate and the new value are moved up by
-- 2^31, and the marks are those of the answer sheet. The law `settled-alike` of crate settling says that it is the
-- round of the sheet.
--   used_in       the value used for a cabinet
--   round_held    the round
--   written_of    what `put_answer` leaves in the buffer
use Rattle.std.specs.Prelude.{cond, List, ℕ, ℤ, length, get_or}
use Rattle.arithmetic.specs.Naturals.{down}
use Rattle.arithmetic.specs.Words.{two_to31}
use Rattle.arithmetic.specs.Writing.{overwrite}
use Rattle.model.specs.Steps.{Round}
use Rattle.model.specs.AnswerSheet.{answer_bytes}
use Rattle.held.specs.Held.{value_at, present_in}
use Rattle.answer_parts.specs.Parts.{roomy}

-- a mark of 1 is an accepted reading
abbrev pub used_in : List ℕ → List ℕ → ℕ → ℕ → ℤ
used_in marks values e r = down two_to31 (cond (present_in marks r) (value_at values r) e)

abbrev pub round_held : ℕ → ℕ → ℕ → List ℕ → List ℕ → Round
round_held count e v marks values =
    record {
      count = count;
      estimate = down two_to31 e;
      value = down two_to31 v;
      mark = λ r. get_or marks r 0;
      used = used_in marks values e;
    }

unfoldable pub written_of : ℕ → ℕ → ℕ → List ℕ → List ℕ → List ℕ → List ℕ
written_of count e v marks values old =
    cond (roomy (length marks) (length values) (length old))
    (overwrite (answer_bytes (length marks) (round_held count e v marks values)) old)
    old
