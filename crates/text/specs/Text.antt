-- What writing a text gives, and what it leaves in the lent buffer.
--   answer_round                       the round that an answer sheet says
--   round_capacity, refusal_capacity    bytes that hold any round's text, any refusal's
--   Text, text_in                      the length of the text and the buffer with it; nothing is written below the
--                                     capacity
--   round_written, refusal_written      the text of an answer sheet, of a refusal
use Rattle.std.specs.Prelude.{cond, List, ℕ, ◌+◌, ◌*◌, ltb, length}
use Rattle.std.specs.Int.{w32}
use Rattle.std.proofs.Common.{to_z}
use Rattle.arithmetic.specs.Writing.{overwrite}
use Rattle.model.specs.RoundSheet.{byte, word}
use Rattle.model.specs.AnswerSheet.{answer_header_size}
use Rattle.model.specs.Steps.{Round}
use Rattle.model.specs.Refusals.{refusal}
use Rattle.model.specs.Listing.{round_text, refusal_text}

-- document 01, "The answer sheet", read back
unfoldable pub answer_round : List ℕ → Round
answer_round answer =
    record {
      count = byte answer 1;
      estimate = to_z w32 (word answer 2);
      value = to_z w32 (word answer 6);
      mark = λ r. byte answer (answer_header_size + r);
      used = λ r. to_z w32 (word answer (answer_header_size + byte answer 0 + 4 * r));
    }

-- the longest cabinet's line: numbers of three, three and eleven bytes, two spaces, a line feed
abbrev pub cabinet_capacity : ℕ
cabinet_capacity = 20

-- the longest first line: `round`, numbers of three, three, eleven and eleven bytes, four spaces, a line feed
abbrev pub round_line_capacity : ℕ
round_line_capacity = 38

-- the first line and 255 cabinets' lines
abbrev pub round_capacity : ℕ
round_capacity = round_line_capacity + 255 * cabinet_capacity

-- `refused`, numbers of three and ten bytes, two spaces, a line feed
abbrev pub refusal_capacity : ℕ
refusal_capacity = 23

pub record Text : Type 0 where
  pub size : ℕ
  pub buffer : List ℕ

abbrev pub text_in : ℕ → List ℕ → List ℕ → Text
text_in capacity text buffer =
    cond (ltb (length buffer) capacity)
    (record { size = 0; buffer = buffer })
    (record { size = length text; buffer = overwrite text buffer })

unfoldable pub round_written : List ℕ → List ℕ → Text
round_written answer buffer = text_in round_capacity (round_text (byte answer 0) (answer_round answer)) buffer

unfoldable pub refusal_written : ℕ → ℕ → List ℕ → Text
refusal_written number place buffer = text_in refusal_capacity (refusal_text (refusal number place)) buffer
