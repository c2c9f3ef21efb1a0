-- An answer sheet reads back: N, the accepted count, the estimate, the new value, each mark and each used value stand
-- at their places in the buffer that the answer was written to.
-- Assumes nothing.
use mathlib.Core.List.{List, ◌++◌, append_assoc}
use mathlib.Core.Path.{◌≡◌, refl, ap, ◌∙◌}
use Prim.Native.Nat.{ℕ, ◌+◌, ◌*◌, ◌<◌}
use native.Mathlib.Nat.{add_assoc}
use native.Mathlib.Omega.{arith}
use lib.IntN.{pos}
use lib.ListN.{length, drop, length-append}
use mir.Syntax.{w32}
use mir.Val.{SFits, to_z, of_z}
use mir.Facts.{to_z-of_z}
use Rattle.arithmetic.specs.Writing.{table, overwrite}
use Rattle.arithmetic.proofs.Writing.{length-table, get_d_table}
use Rattle.model.specs.RoundSheet.{byte, word, bytes4, reading_bytes}
use Rattle.model.specs.AnswerSheet.{answer_length, answer_header, answer_bytes, answer_header_size}
use Rattle.model.specs.Steps.{Round}
use Rattle.sheet_laws.proofs.Words.{digits4, byte_append_left, byte_append_right, word_append_right}
use Rattle.sheet_laws.proofs.Readings.{length-reading_bytes, word-readings, bits_fit}

pub length-answer_header : (n : ℕ) (r : Round) → length (answer_header n r) ≡ answer_header_size
unfolding answer_header bytes4
length-answer_header n r = refl

pub length-answer_bytes : (n : ℕ) (r : Round) → length (answer_bytes n r) ≡ answer_length n
unfolding answer_bytes
length-answer_bytes n r =
    let whole = length-append (answer_header n r) (table r.mark n ++ reading_bytes (table r.used n)) in
    let header = length-answer_header n r in
    let entries = length-append (table r.mark n) (reading_bytes (table r.used n)) in
    let marks = length-table r.mark n in
    let words = length-reading_bytes (table r.used n) in
    let used = length-table r.used n in
    omega arith

module _ (n : ℕ) (r : Round) (old : List ℕ) where
  -- byte 0, byte 1
  pub answer-cabinets : byte (overwrite (answer_bytes n r) old) 0 ≡ n
  unfolding overwrite answer_bytes answer_header
  answer-cabinets = refl

  pub answer-count : byte (overwrite (answer_bytes n r) old) 1 ≡ r.count
  unfolding overwrite answer_bytes answer_header
  answer-count = refl

  -- bytes 2 to 5, bytes 6 to 9
  pub answer-estimate-bits : SFits w32 r.estimate → word (overwrite (answer_bytes n r) old) 2 ≡ of_z w32 r.estimate
  unfolding overwrite answer_bytes answer_header bytes4 word
  answer-estimate-bits h = digits4 (of_z w32 r.estimate) (bits_fit r.estimate h)

  pub answer-value-bits : SFits w32 r.value → word (overwrite (answer_bytes n r) old) 6 ≡ of_z w32 r.value
  unfolding overwrite answer_bytes answer_header bytes4 word
  answer-value-bits h = digits4 (of_z w32 r.value) (bits_fit r.value h)

  pub answer-estimate : SFits w32 r.estimate → to_z w32 (word (overwrite (answer_bytes n r) old) 2) ≡ r.estimate
  answer-estimate h = ap (to_z w32) (answer-estimate-bits h) ∙ to_z-of_z h

  pub answer-value : SFits w32 r.value → to_z w32 (word (overwrite (answer_bytes n r) old) 6) ≡ r.value
  answer-value h = ap (to_z w32) (answer-value-bits h) ∙ to_z-of_z h

  -- the marks, the used values
  pub answer-mark : (i : ℕ) → i < n → byte (overwrite (answer_bytes n r) old) (answer_header_size + i) ≡ r.mark i
  unfolding overwrite answer_bytes
  answer-mark i h =
      let head = answer_header n r in
      let marks = table r.mark n in
      let used = reading_bytes (table r.used n) in
      let rest = drop (length (answer_bytes n r)) old in
      ap (λ (l : List ℕ). byte l (answer_header_size + i)) (append_assoc head (marks ++ used) rest)
      ∙ byte_append_right head ((marks ++ used) ++ rest) answer_header_size i (length-answer_header n r)
      ∙ ap (λ (l : List ℕ). byte l i) (append_assoc marks used rest)
      ∙ byte_append_left marks (used ++ rest) i (rw (length-table r.mark n) h)
      ∙ get_d_table r.mark n i 0 h

  pub answer-used-bits :
      (i : ℕ) → i < n → SFits w32 (r.used i)
      → word (overwrite (answer_bytes n r) old) (answer_header_size + n + 4 * i) ≡ of_z w32 (r.used i)
  unfolding overwrite answer_bytes
  answer-used-bits i h fits =
      let head = answer_header n r in
      let marks = table r.mark n in
      let used = reading_bytes (table r.used n) in
      let rest = drop (length (answer_bytes n r)) old in
      ap (λ (l : List ℕ). word l (answer_header_size + n + 4 * i))
      (append_assoc head (marks ++ used) rest ∙ ap (λ (l : List ℕ). head ++ l) (append_assoc marks used rest))
      ∙ ap (word (head ++ (marks ++ (used ++ rest)))) (add_assoc answer_header_size n (4 * i))
      ∙ word_append_right head (marks ++ (used ++ rest)) answer_header_size (n + 4 * i) (length-answer_header n r)
      ∙ word_append_right marks (used ++ rest) n (4 * i) (length-table r.mark n)
      ∙ word-readings (table r.used n) rest i (rw (length-table r.used n) h)
      (rw (get_d_table r.used n i (pos 0) h) fits)
      ∙ ap (of_z w32) (get_d_table r.used n i (pos 0) h)

  pub answer-used :
      (i : ℕ) → i < n → SFits w32 (r.used i)
      → to_z w32 (word (overwrite (answer_bytes n r) old) (answer_header_size + n + 4 * i)) ≡ r.used i
  answer-used i h fits = ap (to_z w32) (answer-used-bits i h fits) ∙ to_z-of_z fits
