-- How long the lines of the text are, at most, and the lines of one cabinet more.
-- Assumes nothing.
use mathlib.Core.List.{List, [], ◌∷◌, ◌++◌}
use mathlib.Core.Path.{◌≡◌, refl}
use Prim.Native.Nat.{ℕ, zero, suc, ◌+◌, ◌*◌, ◌≤◌, ◌<◌}
use native.Mathlib.Numerals.{add-one}
use native.Mathlib.Omega.{arith}
use lib.IntN.{ℤ}
use lib.ListN.{length, length-append}
use mir.Syntax.{w32}
use mir.Val.{to_z}
use Rattle.model.specs.Steps.{Round}
use Rattle.model.specs.Listing.{decimal, signed_decimal, line, round_word, refused_word, cabinet_lines}
use Rattle.fields.proofs.Digits.{length-decimal, length-decimal-byte}
use Rattle.fields.proofs.Signed.{length_signed}
use Rattle.lines.specs.Lines.{round_line}
use Rattle.text.specs.Text.{round_line_capacity, cabinet_capacity, refusal_capacity}

-- the bytes after a line's first field: a space before each other field, and the line feed
abbrev pub rest_length : List (List ℕ) → ℕ
rest_length [] = 1
rest_length (field ∷ rest) = 1 + length field + rest_length rest

pub length-line : (first : List ℕ) (rest : List (List ℕ)) → length (line first rest) ≡ length first + rest_length rest
unfolding line
length-line first [] = length-append first (10 ∷ [])
length-line first (next ∷ rest) =
    let ih = length-line next rest in
    let whole = length-append first (32 ∷ line next rest) in
    omega arith

-- ---- the three kinds of line

pub length-refusal : (number place : ℕ) → number < 256
    → length (line refused_word (decimal number ∷ decimal place ∷ [])) ≤ refusal_capacity
length-refusal number place h =
    let whole = length-line refused_word (decimal number ∷ decimal place ∷ []) in
    omega (arith, length-decimal-byte number h, length-decimal place)

pub length-round-line : (n count estimate value : ℕ) → n < 256 → count < 256
    → length (round_line n count estimate value) ≤ round_line_capacity
length-round-line n count estimate value h k =
    let first = length_signed (to_z w32 estimate) in
    let second = length_signed (to_z w32 value) in
    let numbers = signed_decimal (to_z w32 estimate) ∷ signed_decimal (to_z w32 value) ∷ [] in
    let whole = length-line round_word (decimal n ∷ decimal count ∷ numbers) in
    omega (arith, length-decimal-byte n h, length-decimal-byte count k)

pub length-cabinet : (r mark : ℕ) (used : ℤ) → r < 256 → mark < 256
    → length (line (decimal r) (decimal mark ∷ signed_decimal used ∷ [])) ≤ cabinet_capacity
length-cabinet r mark used h k =
    let whole = length-line (decimal r) (decimal mark ∷ signed_decimal used ∷ []) in
    omega (arith, length-decimal-byte r h, length-decimal-byte mark k, length_signed used)

-- ---- the cabinets' lines

module _ (round : Round) where
  pub cabinets-none : cabinet_lines round 0 ≡ []
  unfolding cabinet_lines
  cabinets-none = refl

  pub cabinets-more : (r : ℕ)
      → cabinet_lines round (r + 1)
      ≡ cabinet_lines round r ++ line (decimal r) (decimal (round.mark r) ∷ signed_decimal (round.used r) ∷ [])
  unfolding cabinet_lines
  cabinets-more r = rw (add-one r)

  pub length-cabinets : (n : ℕ) → n ≤ 256 → ((r : ℕ) → r < n → round.mark r < 256)
      → length (cabinet_lines round n) ≤ cabinet_capacity * n
  unfolding cabinet_lines
  length-cabinets zero h small = omega arith
  length-cabinets (suc n) h small =
      let ih = length-cabinets n (omega arith) (λ r l. small r (omega arith)) in
      let last = length-cabinet n (round.mark n) (round.used n) (omega arith) (small n (omega arith)) in
      let more = line (decimal n) (decimal (round.mark n) ∷ signed_decimal (round.used n) ∷ []) in
      let whole = length-append (cabinet_lines round n) more in
      omega arith
