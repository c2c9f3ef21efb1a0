-- A text in a buffer that is long enough, and no text in one that is not.
-- Assumes nothing.
use mathlib.Core.Bool.{Bool, true, false}
use mathlib.Core.List.{List}
use mathlib.Core.Path.{◌≡◌, refl, sym, ap, ◌∙◌}
use Prim.Native.Nat.{ℕ, ◌≤◌, ◌<◌}
use native.Mathlib.Nat.{le_trans}
use native.Mathlib.Omega.{arith}
use borrow.Author.Tests.{lt-ltb, le-ltb}
use lib.Dec.{ltb}
use lib.ListN.{length, take, drop, length-append, length-drop}
use Rattle.arithmetic.specs.Writing.{overwrite}
use Rattle.arithmetic.proofs.Writing.{take-overwrite}
use Rattle.fields.specs.declared.Writer.{Writer}
use Rattle.fields.specs.Putting.{Puts}
use Rattle.fields.specs.Writing.{Writes}
use Rattle.fields.proofs.Putting.{puts_end, puts_overwrite}
use Rattle.text.specs.Text.{text_in}

overwrite-fits : (new old : List ℕ) → length (overwrite new old) ≡ length old → length new ≤ length old
unfolding overwrite
overwrite-fits new old same =
    let whole = length-append new (drop (length new) old) in
    let rest = length-drop (length new) old in
    omega arith

module _ (capacity : ℕ) (text buffer : List ℕ) where
  pub text_refused : length buffer < capacity
      → (0 ≡ (text_in capacity text buffer).size) × (buffer ≡ (text_in capacity text buffer).buffer)
  text_refused h = rw (lt-ltb (length buffer) capacity h) (refl, refl)

  module _ (room : capacity ≤ length buffer) where
    text_size : (text_in capacity text buffer).size ≡ length text
    text_size = rw (le-ltb (length buffer) capacity room)

    text_buffer : (text_in capacity text buffer).buffer ≡ overwrite text buffer
    text_buffer = rw (le-ltb (length buffer) capacity room)

    -- the bytes up to the answered length are the text
    pub text_shown : take (text_in capacity text buffer).size (text_in capacity text buffer).buffer ≡ text
    text_shown = rw (text_size, text_buffer) (take-overwrite text buffer)

    -- a writer that began where the buffer does
    pub text_written : {old new : Writer} → length text ≤ capacity → old.bytes.now ≡ buffer → old.at ≡ 0 → Writes old text new
        → (new.at ≡ (text_in capacity text buffer).size) × (new.bytes.now ≡ (text_in capacity text buffer).buffer)
    text_written {old} {new} fits whole start w =
        let p : Puts buffer 0 text new.bytes.now new.at = rw (whole, start) at w.puts in
        (puts_end (le_trans fits room) p ∙ sym text_size, puts_overwrite (le_trans fits room) p ∙ sym text_buffer)

  -- a buffer that keeps its length holds the whole text
  pub text_fits : (new : List ℕ) (size : ℕ) → size ≡ (text_in capacity text buffer).size
      → new ≡ (text_in capacity text buffer).buffer
      → length new ≡ length buffer
      → size ≤ length new
  text_fits new size answered written same = go (ltb (length buffer) capacity) refl
    where
      go : (short : Bool) → ltb (length buffer) capacity ≡ short → size ≤ length new
      go true e = let none : size ≡ 0 = rw e at answered in omega arith
      go false e =
          let all : size ≡ length text = rw e at answered in
          let whole : new ≡ overwrite text buffer = rw e at written in
          let fits = overwrite-fits text buffer (sym (ap length whole) ∙ same) in
          omega arith
