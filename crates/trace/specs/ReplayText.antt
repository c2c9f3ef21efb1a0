-- Document 02, "Paper 1. Replay of a station run" (docs/FORMAT.md, 12): the text that the program `replay` writes.
--   max_trace_input         how many bytes of its input it looks at
--   value_lines            the lines of cabinets 0 to n-1, of their roles and values
--   final_text, after_text  the text of final values; the line of the values after k rounds
--   replay_listing         the text for the bytes of a trace
--   after_listing          the line that stands before it for the values after k rounds, where they are asked for
use Rattle.std.specs.Prelude.{cond, List, [], ◌∷◌, ◌++◌, ℕ, zero, suc, ◌+◌, ◌*◌, ltb, ℤ}
use Rattle.std.proofs.Math.Option.{none, some}
use Rattle.arithmetic.specs.Writing.{table}
use Rattle.model.specs.Ensemble.{max_cabinets}
use Rattle.model.specs.RoundSheet.{settings_at}
use Rattle.model.specs.Planner.{max_rounds}
use Rattle.model.specs.Refusals.{Check, first_of}
use Rattle.model.specs.Listing.{decimal, signed_decimal, line, text_after}
use Rattle.trace.specs.Trace.{rounds_at, role_at, trace_length}
use Rattle.trace.specs.Replay.{replay_checks, shown_after}

-- "reads a trace from standard input": the longest trace and a byte. A longer input gets the first refusal that those
-- bytes give
abbrev pub max_trace_input : ℕ
max_trace_input = trace_length max_cabinets max_rounds + 1

-- `replay`
abbrev pub replay_word : List ℕ
replay_word = 114 ∷ 101 ∷ 112 ∷ 108 ∷ 97 ∷ 121 ∷ []

-- `after`
abbrev pub after_word : List ℕ
after_word = 97 ∷ 102 ∷ 116 ∷ 101 ∷ 114 ∷ []

-- "then per cabinet number, role, final value"
unfoldable pub value_lines : (ℕ → ℕ) → (ℕ → ℤ) → ℕ → List ℕ
value_lines role value zero = []
value_lines role value (suc p) =
    value_lines role value p ++ line (decimal p) (decimal (role p) ∷ signed_decimal (value p) ∷ [])

-- "writes `replay`, N, rounds"
unfoldable pub final_text : ℕ → ℕ → (ℕ → ℕ) → (ℕ → ℤ) → List ℕ
final_text n rounds role value = line replay_word (decimal n ∷ decimal rounds ∷ []) ++ value_lines role value n

-- "on request, the values after each round": `after`, the number of rounds, and N values
unfoldable pub after_text : ℕ → ℕ → (ℕ → ℤ) → List ℕ
after_text n k value = line after_word (decimal k ∷ table (λ p. signed_decimal (value p)) n)

-- the program's buffer for the values is long enough for any trace
abbrev pub listed_room : ℕ
listed_room = 4 * max_cabinets

-- "a refusal as `settle` writes it". A faulty cabinet's value is 0 (`shown_after`)
unfoldable pub replay_listing : List ℕ → List ℕ
replay_listing s =
    text_after
    (first_of (replay_checks s (rounds_at s) listed_room))
    (final_text (settings_at s).n (rounds_at s) (role_at s) (shown_after s (rounds_at s)))

abbrev pub unless_refused : Check → List ℕ → List ℕ
unless_refused none text = text
unless_refused (some r) text = []

-- for k from 0, the first readings, up to the rounds of the trace: a line while the run goes on, and none of a trace
-- that is refused before it is played
unfoldable pub after_listing : List ℕ → ℕ → List ℕ
after_listing s k =
    cond (ltb (rounds_at s) k) []
    (unless_refused
    (first_of (replay_checks s k listed_room))
    (after_text (settings_at s).n k (shown_after s k)))
