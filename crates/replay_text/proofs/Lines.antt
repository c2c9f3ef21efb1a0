-- How long the text of final values is, at most.
-- Assumes nothing.
use mathlib.Core.List.{List, [], ◌∷◌, ◌++◌}
use mathlib.Core.Path.{◌≡◌}
use Prim.Native.Nat.{ℕ, zero, suc, ◌+◌, ◌*◌, ◌≤◌, ◌<◌}
use native.Mathlib.Omega.{arith}
use lib.IntN.{ℤ}
use lib.ListN.{length, length-append}
use Rattle.model.specs.RoundSheet.{byte}
use Rattle.model.specs.Listing.{decimal, signed_decimal, line}
use Rattle.trace.specs.Trace.{trace_header_size, rounds_at, role_at}
use Rattle.trace.specs.ReplayText.{replay_word, value_lines, final_text}
use Rattle.fields.proofs.Digits.{length-decimal-byte}
use Rattle.text.specs.Text.{cabinet_capacity}
use Rattle.text.proofs.Lines.{length-line, length-cabinet}
use Rattle.replay_text.specs.Final.{final_capacity}

-- ---- the lines of cabinets

module _ (role : ℕ → ℕ) (value : ℕ → ℤ) where
  length-values : (n : ℕ) → n ≤ 256 → ((p : ℕ) → role p < 256) → length (value_lines role value n) ≤ cabinet_capacity * n
  unfolding value_lines
  length-values zero h small = omega arith
  length-values (suc n) h small =
      let ih = length-values n (omega arith) small in
      let last = length-cabinet n (role n) (value n) (omega arith) (small n) in
      let more = line (decimal n) (decimal (role n) ∷ signed_decimal (value n) ∷ []) in
      let whole = length-append (value_lines role value n) more in
      omega arith

-- ---- the whole text

module _ (s : List ℕ) (value : ℕ → ℤ) where
  -- of the numbers that were read
  pub final_lines :
      (n rounds : ℕ) → n ≡ byte s 0 → rounds ≡ rounds_at s
      → final_text (byte s 0) (rounds_at s) (role_at s) value
      ≡ line replay_word (decimal n ∷ decimal rounds ∷ []) ++ value_lines (role_at s) value n
  unfolding final_text
  final_lines n rounds e f = rw (e, f)

  pub length_final :
      ((j : ℕ) → byte s j < 256) → length (final_text (byte s 0) (rounds_at s) (role_at s) value) ≤ final_capacity
  unfolding final_text
  length_final small =
      let few = small 0 in
      let first = length-line replay_word (decimal (byte s 0) ∷ decimal (rounds_at s) ∷ []) in
      let a = length-decimal-byte (byte s 0) few in
      let b = length-decimal-byte (rounds_at s) (small 8) in
      let rest = length-values (role_at s) value (byte s 0) (omega arith) (λ p. small (trace_header_size + p)) in
      let whole =
      length-append (line replay_word (decimal (byte s 0) ∷ decimal (rounds_at s) ∷ []))
      (value_lines (role_at s) value (byte s 0)) in
      omega arith
