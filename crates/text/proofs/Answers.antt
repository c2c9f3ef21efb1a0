-- The text of an answer sheet's bytes: a cabinet's line of what the bytes say, how long the text is, and the text of
-- a settled round.
-- Assumes nothing.
use mathlib.Core.List.{List, ◌++◌}
use mathlib.Core.Path.{◌≡◌, refl}
use Prim.Native.Nat.{ℕ, zero, suc, ◌+◌, ◌*◌, ◌≤◌, ◌<◌}
use native.Mathlib.Omega.{arith}
use lib.ListN.{length, length-append}
use mir.Syntax.{w32}
use mir.Val.{SFits}
use Rattle.arithmetic.specs.Writing.{overwrite}
use Rattle.arithmetic.proofs.Counting.{initial, last}
use Rattle.model.specs.RoundSheet.{byte, word}
use Rattle.model.specs.AnswerSheet.{answer_bytes, answer_header_size}
use Rattle.model.specs.Steps.{Round}
use Rattle.model.specs.Listing.{cabinet_lines, round_text}
use Rattle.sheet_laws.proofs.Answer.{answer-cabinets, answer-count, answer-estimate}
use Rattle.sheet_laws.proofs.Answer.{answer-value, answer-mark, answer-used}
use Rattle.fields.specs.declared.Writer.{Writer}
use Rattle.fields.specs.Writing.{Writes}
use Rattle.fields.proofs.Writing.{writes_then}
use Rattle.lines.specs.Lines.{round_line, cabinet_line}
use Rattle.text.specs.Text.{answer_round, round_capacity, text_in, round_written}
use Rattle.text.proofs.Lines.{length-round-line, cabinets-more, length-cabinets}

-- ---- the lines of an answer sheet's bytes

module _ (s : List ℕ) where
  module _ (n r mark used : ℕ) (cabinets : n ≡ byte s 0)
      (m : mark ≡ byte s (answer_header_size + r)) (u : used ≡ word s (answer_header_size + n + 4 * r)) where
    cabinet-next : cabinet_lines (answer_round s) (r + 1) ≡ cabinet_lines (answer_round s) r ++ cabinet_line r mark used
    unfolding answer_round
    cabinet-next = rw (m, u, cabinets) (cabinets-more (answer_round s) r)

    pub cabinet-put : {old mid new : Writer} → Writes old (cabinet_lines (answer_round s) r) mid
        → Writes mid (cabinet_line r mark used) new → Writes old (cabinet_lines (answer_round s) (r + 1)) new
    cabinet-put before here = rw cabinet-next (writes_then before here)

  pub round_lines : (n count estimate value : ℕ) → n ≡ byte s 0 → count ≡ byte s 1 → estimate ≡ word s 2
      → value ≡ word s 6
      → round_text (byte s 0) (answer_round s) ≡ round_line n count estimate value ++ cabinet_lines (answer_round s) n
  unfolding round_text answer_round
  round_lines n count estimate value cabinets accepted e v = rw (accepted, e, v, cabinets)

  -- no answer sheet has a longer text
  pub length-round : ((j : ℕ) → byte s j < 256) → length (round_text (byte s 0) (answer_round s)) ≤ round_capacity
  unfolding round_text answer_round
  length-round small =
      let few = small 0 in
      let first = length-round-line (byte s 0) (byte s 1) (word s 2) (word s 6) few (small 1) in
      let rest = length-cabinets (answer_round s) (byte s 0) (omega arith) (λ r l. small (answer_header_size + r)) in
      let lines = cabinet_lines (answer_round s) (byte s 0) in
      let whole = length-append (round_line (byte s 0) (byte s 1) (word s 2) (word s 6)) lines in
      omega arith

-- ---- a settled round

-- a round's text depends on what it shows: of the marks and used values, those of cabinets 0 to n-1
module _ (a b : Round) where
  cabinets-alike : (n : ℕ) → ((r : ℕ) → r < n → a.mark r ≡ b.mark r) → ((r : ℕ) → r < n → a.used r ≡ b.used r)
      → cabinet_lines a n ≡ cabinet_lines b n
  unfolding cabinet_lines
  cabinets-alike zero marks used = refl
  cabinets-alike (suc n) marks used = rw (cabinets-alike n (initial marks) (initial used), last marks, last used)

  text_alike : (n : ℕ) → a.count ≡ b.count → a.estimate ≡ b.estimate → a.value ≡ b.value
      → ((r : ℕ) → r < n → a.mark r ≡ b.mark r)
      → ((r : ℕ) → r < n → a.used r ≡ b.used r)
      → round_text n a ≡ round_text n b
  unfolding round_text
  text_alike n count estimate value marks used = rw (cabinets-alike n marks used, count, estimate, value)

module _ (n : ℕ) (round : Round) (old : List ℕ)
    (estimate-fits : SFits w32 round.estimate) (value-fits : SFits w32 round.value)
    (used-fit : (r : ℕ) → r < n → SFits w32 (round.used r)) where
  abbrev answer : List ℕ
  answer = overwrite (answer_bytes n round) old

  -- the round that the answer sheet of a settled round says has that round's text
  settled_text : round_text n (answer_round answer) ≡ round_text n round
  unfolding answer_round
  settled_text =
      text_alike (answer_round answer) round n
      (answer-count n round old)
      (answer-estimate n round old estimate-fits)
      (answer-value n round old value-fits)
      (answer-mark n round old)
      (λ r h. rw (answer-cabinets n round old) (answer-used n round old r h (used-fit r h)))

  pub settled-written : (buffer : List ℕ)
      → round_written answer buffer ≡ text_in round_capacity (round_text n round) buffer
  unfolding round_written
  settled-written buffer = rw (answer-cabinets n round old, settled_text)
