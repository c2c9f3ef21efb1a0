-- Document 01, "Program `settle`" (docs/FORMAT.md, 9): the text that it writes.
--   decimal, signed_decimal    a number in decimal digits, without leading zeros; a minus sign before a negative one
--   line                      fields parted by one space, ended by a line feed
--   listing                   the whole text for the bytes of a sheet
use Rattle.std.specs.Prelude.{true, false, List, [], ◌∷◌, ◌++◌, ℕ, zero, suc, ◌+◌, ◌*◌, ◌/◌, ◌%◌, ltb, length, replicate, take, ℤ, pos, negsuc}
use Rattle.std.proofs.Math.Option.{none, some}
use Rattle.model.specs.Refusals.{Refusal}
use Rattle.model.specs.Ensemble.{max_cabinets}
use Rattle.model.specs.RoundSheet.{header_size, settings_at}
use Rattle.model.specs.AnswerSheet.{answer_length}
use Rattle.model.specs.Steps.{Round, round_at}
use Rattle.model.specs.Refusals.{Check, first_of, settle_checks}

-- `settle` "reads one round sheet from standard input, at most 20,489 bytes": the longest sheet and a byte
abbrev pub max_input : ℕ
max_input = header_size + 5 * (max_cabinets * max_cabinets) + 1

-- the digits of x, at most as many as the first argument says
unfoldable pub digits_up_to : ℕ → ℕ → List ℕ
digits_up_to zero x = []
digits_up_to (suc k) x = elim (ltb x 10) [ true ↦ (48 + x) ∷ [] | false ↦ digits_up_to k (x / 10) ++ ((48 + x % 10) ∷ []) ]

-- "Numbers are decimal without leading zeros"; a number of 32 bits has at most ten digits
abbrev pub decimal : ℕ → List ℕ
decimal x = digits_up_to 10 x

-- "a minus sign before negative ones"
abbrev pub signed_decimal : ℤ → List ℕ
signed_decimal (pos x) = decimal x
signed_decimal (negsuc x) = 45 ∷ decimal (suc x)

-- "fields are parted by one space, and a line feed ends each line"
unfoldable pub line : List ℕ → List (List ℕ) → List ℕ
line first [] = first ++ (10 ∷ [])
line first (next ∷ rest) = first ++ (32 ∷ line next rest)

-- `round`
abbrev pub round_word : List ℕ
round_word = 114 ∷ 111 ∷ 117 ∷ 110 ∷ 100 ∷ []

-- `refused`
abbrev pub refused_word : List ℕ
refused_word = 114 ∷ 101 ∷ 102 ∷ 117 ∷ 115 ∷ 101 ∷ 100 ∷ []

-- "Then per cabinet: number, mark, used value"
unfoldable pub cabinet_lines : Round → ℕ → List ℕ
cabinet_lines round zero = []
cabinet_lines round (suc r) =
    cabinet_lines round r ++ line (decimal r) (decimal (round.mark r) ∷ signed_decimal (round.used r) ∷ [])

-- "First line: `round`, N, count, estimate, new value"
unfoldable pub round_text : ℕ → Round → List ℕ
round_text n round =
    line round_word
    (decimal n ∷ decimal round.count ∷ signed_decimal round.estimate ∷ signed_decimal round.value ∷ [])
    ++ cabinet_lines round n

-- "A refusal is `refused`, number, place"
unfoldable pub refusal_text : Refusal → List ℕ
refusal_text r = line refused_word (decimal r.number ∷ decimal r.place ∷ [])

abbrev pub text_after : Check → List ℕ → List ℕ
text_after none text = text
text_after (some r) text = refusal_text r

-- the program's answer buffer is long enough for any sheet that passes checks 1 to 6
abbrev pub listing_buffer : List ℕ
listing_buffer = replicate (answer_length max_cabinets) 0

-- "a longer sheet gets the first refusal that those bytes give"
unfoldable pub listing : List ℕ → List ℕ
listing input =
    let s : List ℕ = take max_input input in
    text_after (first_of (settle_checks s 0 (length listing_buffer))) (round_text (settings_at s).n (round_at s 0))
