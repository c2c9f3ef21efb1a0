-- Bytes put one after the other are put at once; the buffer keeps its length; bytes put from the start on overwrite a
-- buffer that has room for them.
-- Assumes nothing.
use mathlib.Core.Bool.{Bool, true, false, cond}
use mathlib.Core.List.{List, [], ◌∷◌, ◌++◌}
use mathlib.Core.Path.{◌≡◌, refl, sym, ap, ap₂, ◌∙◌}
use Prim.Native.Nat.{ℕ, suc, ◌+◌, ◌≤◌, ◌<◌}
use native.Mathlib.Nat.{add-zero, zero-add}
use native.Mathlib.Numerals.{add-one}
use native.Mathlib.Omega.{arith}
use borrow.Author.Tests.{le-leb, lt-leb}
use lib.Dec.{leb}
use lib.ListN.{length, get_or, set, take, drop, length-set}
use lib.Seq.{sets, sets-eq, take-suc}
use Rattle.arithmetic.specs.Writing.{overwrite}
use Rattle.fields.specs.Putting.{Page, page, put_byte, put, Puts}

-- ---- one byte

pub puts_full : (old : List ℕ) (at b : ℕ) → length old ≤ at → Puts old at (b ∷ []) old at
unfolding put put_byte
puts_full old at b h = record { same = rw (le-leb (length old) at h) refl }

pub puts_byte : (old : List ℕ) (at b : ℕ) → at < length old → Puts old at (b ∷ []) (set old at b) (at + 1)
unfolding put put_byte
puts_byte old at b h = record { same = rw (lt-leb (length old) at h) refl }

byte-length : (p : Page) (b : ℕ) → length (put_byte p b).buffer ≡ length p.buffer
unfolding put_byte
byte-length p b = go (leb (length p.buffer) p.at)
  where
    stored : Page
    stored = page (set p.buffer p.at b) (p.at + 1)

    go : (full : Bool) → length (cond full p stored).buffer ≡ length p.buffer
    go true = refl
    go false = length-set p.buffer p.at b

-- ---- bytes one after the other

put_append : (p : Page) (a b : List ℕ) → put p (a ++ b) ≡ put (put p a) b
unfolding put
put_append p [] b = refl
put_append p (x ∷ a) b = put_append (put_byte p x) a b

put-length : (p : Page) (bytes : List ℕ) → length (put p bytes).buffer ≡ length p.buffer
unfolding put
put-length p [] = refl
put-length p (b ∷ bytes) = put-length (put_byte p b) bytes ∙ byte-length p b

pub puts_length : {old : List ℕ} {at : ℕ} {bytes new : List ℕ} {next : ℕ} → Puts old at bytes new next
    → length new ≡ length old
puts_length {old = old} {at = at} {bytes = bytes} p =
    ap (λ (q : Page). length q.buffer) p.same ∙ put-length (page old at) bytes

pub puts_none : (old : List ℕ) (at : ℕ) → Puts old at [] old at
unfolding put
puts_none old at = record { same = refl }

-- what is put next follows what was put before
pub puts_then : {old mid new : List ℕ} {at next last : ℕ} {a b : List ℕ} → Puts old at a mid next
    → Puts mid next b new last → Puts old at (a ++ b) new last
puts_then {old = old} {at = at} {a = a} {b = b} p q =
    record { same = q.same ∙ ap (λ (x : Page). put x b) p.same ∙ sym (put_append (page old at) a b) }

-- one byte more of a list
pub puts_more : {old text new : List ℕ} {at next last : ℕ} (bytes : List ℕ) (i : ℕ) → i < length bytes
    → Puts old at (take i bytes) text next
    → Puts text next (get_or bytes i 0 ∷ []) new last
    → Puts old at (take (i + 1) bytes) new last
puts_more bytes i h p q = rw (add-one i, take-suc bytes i 0 h) (puts_then p q)

-- ---- where there is room

put-room : (bytes old : List ℕ) (at : ℕ) → at + length bytes ≤ length old
    → put (page old at) bytes ≡ page (sets old at bytes) (at + length bytes)
unfolding put put_byte
put-room [] old at h = ap (page old) (sym (add-zero at))
put-room (b ∷ bytes) old at h =
    let here : at < length old = omega arith in
    let kept = length-set old at b in
    rw (lt-leb (length old) at here)
    (put-room bytes (set old at b) (at + 1) (omega arith)
    ∙ ap₂ (λ (i k : ℕ). page (sets (set old at b) i bytes) k) (add-one at) count)
  where
    count : at + 1 + length bytes ≡ at + suc (length bytes)
    count = omega arith

-- bytes put from the start on
module _ {old bytes new : List ℕ} {next : ℕ} (room : length bytes ≤ length old) (p : Puts old 0 bytes new next) where
  whole : page new next ≡ page (sets old 0 bytes) (0 + length bytes)
  whole = p.same ∙ put-room bytes old 0 (rw (zero-add (length bytes)) room)

  pub puts_end : next ≡ length bytes
  puts_end = ap (λ (q : Page). q.at) whole ∙ zero-add (length bytes)

  pub puts_overwrite : new ≡ overwrite bytes old
  unfolding overwrite
  puts_overwrite =
      ap (λ (q : Page). q.buffer) whole
      ∙ sets-eq bytes old 0 (rw (zero-add (length bytes)) room)
      ∙ ap (λ (k : ℕ). bytes ++ drop k old) (zero-add (length bytes))
