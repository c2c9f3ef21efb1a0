-- The bytes of an answer sheet, as the code stores them.
-- Assumes nothing.
use mathlib.Core.Bool.{true}
use mathlib.Core.List.{List, ◌++◌, append_assoc}
use mathlib.Core.Path.{◌≡◌, refl, sym, ap, ap₂, ◌∙◌}
use Prim.Native.Nat.{ℕ, ◌+◌, ◌-◌, ◌≤◌}
use borrow.Author.Tests.{le-leb}
use native.Mathlib.Omega.{arith}
use lib.ListN.{length, take, drop, length-append, length-drop}
use lib.Seq.{length-take-le}
use mir.Syntax.{w32}
use mir.Val.{of_z}
use Rattle.arithmetic.specs.Writing.{table, overwrite}
use Rattle.arithmetic.specs.Naturals.{down}
use Rattle.arithmetic.specs.Words.{two_to31}
use Rattle.arithmetic.proofs.Writing.{table_get_d}
use Rattle.model.specs.RoundSheet.{bytes4, reading_bytes}
use Rattle.model.specs.AnswerSheet.{header_bytes, answer_header, answer_bytes, answer_header_size}
use Rattle.sheet_laws.proofs.Storing.{tail_written}
use Rattle.answer_parts.specs.Parts.{roomy, headed}
use Rattle.answer_writer.specs.Answers.{used_in, round_held, written_of}

length-header : (n count e v : ℕ) → length (header_bytes n count e v) ≡ answer_header_size
unfolding bytes4
length-header n count e v = refl

-- where there is room, the header is written
header-put :
    (n count e v : ℕ) (old : List ℕ)
    → answer_header_size ≤ length old
    → headed n count e v old ≡ overwrite (header_bytes n count e v) old
unfolding headed
header-put n count e v old h = rw (le-leb answer_header_size (length old) h)

-- ---- the answer sheet, as the calls write it

-- a list with the part from k on replaced
abbrev spliced : ℕ → List ℕ → List ℕ → List ℕ
spliced k b t = take k b ++ (t ++ drop (length b - k) (drop k b))

-- the part from k on, as it is lent
abbrev pub lent : ℕ → List ℕ → List ℕ
lent k b = take (length b - k) (drop k b)

pub length-lent : (k : ℕ) (b : List ℕ) → length (lent k b) ≡ length b - k
length-lent k b = length-take-le (length b - k) (drop k b) (let d = length-drop k b in omega arith)

module _ (marks values old : List ℕ) (count e v : ℕ) where
  header : List ℕ
  header = header_bytes (length marks) count (of_z w32 (down two_to31 e)) (of_z w32 (down two_to31 v))

  used : List ℕ
  used = reading_bytes (table (used_in marks values e) (length marks))

  answer-parts : (header ++ marks) ++ used ≡ answer_bytes (length marks) (round_held count e v marks values)
  unfolding answer_bytes answer_header header used
  answer-parts =
      append_assoc header marks used ∙ ap (λ (l : List ℕ). header ++ (l ++ used)) (sym (table_get_d marks 0))

  -- the header, the marks behind it and the used values in the tail
  pub answer-written :
      (e-bits v-bits : ℕ)
      → e-bits ≡ of_z w32 (down two_to31 e)
      → v-bits ≡ of_z w32 (down two_to31 v)
      → (after-header marked filled : List ℕ)
      → answer_header_size ≤ length old
      → after-header ≡ headed (length marks) count e-bits v-bits old
      → marked ≡ overwrite marks (lent answer_header_size after-header)
      → filled
      ≡ overwrite (reading_bytes (table (used_in marks values e) (length marks)))
      (lent (answer_header_size + length marks) (spliced answer_header_size after-header marked))
      → spliced (answer_header_size + length marks) (spliced answer_header_size after-header marked) filled
      ≡ overwrite (answer_bytes (length marks) (round_held count e v marks values)) old
  unfolding header used
  answer-written e-bits v-bits p q after-header marked filled large h r u =
      tail_written (header ++ marks) used old (spliced answer_header_size after-header marked) filled
      (answer_header_size + length marks)
      (length-append header marks ∙ ap (λ (k : ℕ). k + length marks) long)
      (tail_written header marks old after-header marked answer_header_size long
      (h
      ∙ header-put (length marks) count e-bits v-bits old large
      ∙ ap₂ (λ (a d : ℕ). overwrite (header_bytes (length marks) count a d) old) p q)
      r)
      u
      ∙ ap (λ (x : List ℕ). overwrite x old) answer-parts
    where
      long : length header ≡ answer_header_size
      long = length-header (length marks) count (of_z w32 (down two_to31 e)) (of_z w32 (down two_to31 v))

-- what `put_answer` leaves in a buffer with room
pub written :
    (count e v : ℕ) (marks values old : List ℕ)
    → roomy (length marks) (length values) (length old) ≡ true
    → overwrite (answer_bytes (length marks) (round_held count e v marks values)) old
    ≡ written_of count e v marks values old
unfolding written_of
written count e v marks values old fits = rw fits
