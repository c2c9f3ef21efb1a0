-- What is printed of an answer.
use Rattle.std.specs.Prelude.{ℕ, ℤ, List, [], ◌∷◌, ◌++◌, take, drop, Option, Some, codes, flat_map}
use Rattle.std.specs.Fmt.{decimal, option_append, signed_decimal, ◌++?◌}
use Rattle.std.specs.Int.{cast_signed, w32}
use Rattle.model.specs.RoundSheet.{byte, word}

-- bytes or numbers, each behind a space, where the text of each is known
abbrev pub spaced_text : {T : Type 0} → (T → Option (List ℕ)) → List T → Option (List ℕ)
spaced_text text [] = Some []
spaced_text text (x ∷ xs) = option_append (option_append (Some (codes " ")) (text x)) (spaced_text text xs)

-- a signed number behind a space
abbrev pub signed_text : ℤ → List ℕ
signed_text n = codes " " ++ signed_decimal n

-- signed numbers, each behind a space
abbrev pub readings_text : List ℤ → List ℕ
readings_text readings = flat_map signed_text readings

-- the number of four bytes, or of fewer at the end, behind a space
abbrev pub tick_text : List ℕ → List ℕ
tick_text bytes = signed_text (cast_signed w32 (word bytes 0))

-- signed numbers of four bytes, each behind a space
abbrev pub ticks_text : List ℕ → List ℕ
ticks_text [] = []
ticks_text (a ∷ []) = tick_text (a ∷ [])
ticks_text (a ∷ b ∷ []) = tick_text (a ∷ b ∷ [])
ticks_text (a ∷ b ∷ c ∷ []) = tick_text (a ∷ b ∷ c ∷ [])
ticks_text (a ∷ b ∷ c ∷ d ∷ rest) = tick_text (a ∷ b ∷ c ∷ d ∷ []) ++ ticks_text rest

-- bytes, each behind a space
abbrev pub bytes_text : List ℕ → Option (List ℕ)
bytes_text bytes = spaced_text (λ b. Some (decimal b)) bytes

-- an answer sheet: two bytes and two numbers of the round, and then a mark and a used value of each cabinet
abbrev pub answer_text : List ℕ → Option (List ℕ)
answer_text sheet =
    (Some (codes "; round") ++? bytes_text (take 2 (take 10 sheet)) ++? Some (ticks_text (drop 2 (take 10 sheet))))
    ++? (Some (codes "; marks") ++? bytes_text (take (byte sheet 0) (drop 10 sheet))
    ++? Some (codes "; used") ++? Some (ticks_text (drop (byte sheet 0) (drop 10 sheet))))
