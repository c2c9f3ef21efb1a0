-- A list of readings as bytes: its length, and each reading read back at its place.
-- Assumes nothing.
use mathlib.Core.List.{List, [], ◌∷◌, ◌++◌, append_assoc}
use mathlib.Core.Path.{◌≡◌, refl, sym, ap, ◌∙◌}
use Prim.Native.Nat.{ℕ, zero, suc, ◌+◌, ◌*◌, ◌<◌}
use native.Mathlib.Nat.{not-suc-le-zero, le_of_suc-le-suc}
use native.Mathlib.Omega.{arith}
use lib.IntN.{ℤ, pos}
use lib.Signed.{mag}
use lib.ListN.{length, get_or}
use mir.Syntax.{w32}
use mir.Val.{SFits, to_z, of_z}
use mir.Facts.{Fits-of_z, Fits-lt-pow, to_z-of_z}
use Rattle.arithmetic.specs.Words.{two_to31, two_to32}
use Rattle.model.specs.RoundSheet.{word, bytes4, reading_bytes}
use Rattle.sheet_laws.proofs.Words.{word-bytes4, word_append_right}

pub length-reading_bytes : (zs : List ℤ) → length (reading_bytes zs) ≡ 4 * length zs
unfolding reading_bytes bytes4
length-reading_bytes [] = refl
length-reading_bytes (z ∷ zs) =
    let ih = length-reading_bytes zs in
    omega arith

pub reading_bytes_append : (xs ys : List ℤ) → reading_bytes (xs ++ ys) ≡ reading_bytes xs ++ reading_bytes ys
unfolding reading_bytes
reading_bytes_append [] ys = refl
reading_bytes_append (z ∷ zs) ys =
    ap (λ (l : List ℕ). bytes4 (of_z w32 z) ++ l) (reading_bytes_append zs ys)
    ∙ sym (append_assoc (bytes4 (of_z w32 z)) (reading_bytes zs) (reading_bytes ys))

-- the bits of a number that 32 signed bits hold are below 2^32
pub bits_fit : (z : ℤ) → SFits w32 z → of_z w32 z < two_to32
bits_fit z h = Fits-lt-pow (Fits-of_z h)

-- such a number is that of its bits
pub bits_again : (z : ℤ) → mag z < two_to31 → to_z w32 (of_z w32 z) ≡ z
bits_again z h = to_z-of_z {w = w32} (record { sfits = h })

pub length-bytes4 : (x : ℕ) → length (bytes4 x) ≡ 4
unfolding bytes4
length-bytes4 x = refl

-- reading e stands at byte 4e, whatever follows
pub word-readings :
    (zs : List ℤ) (rest : List ℕ) (e : ℕ) → e < length zs → SFits w32 (get_or zs e (pos 0))
    → word (reading_bytes zs ++ rest) (4 * e) ≡ of_z w32 (get_or zs e (pos 0))
unfolding reading_bytes
word-readings [] rest e h fits = absurd (not-suc-le-zero h)
word-readings (z ∷ zs) rest zero h fits =
    ap (λ (l : List ℕ). word l 0) (append_assoc (bytes4 (of_z w32 z)) (reading_bytes zs) rest)
    ∙ word-bytes4 (of_z w32 z) (reading_bytes zs ++ rest) (bits_fit z fits)
word-readings (z ∷ zs) rest (suc e) h fits =
    ap (λ (l : List ℕ). word l (4 * suc e)) (append_assoc (bytes4 (of_z w32 z)) (reading_bytes zs) rest)
    ∙ ap (word (bytes4 (of_z w32 z) ++ (reading_bytes zs ++ rest))) place
    ∙ word_append_right (bytes4 (of_z w32 z)) (reading_bytes zs ++ rest) 4 (4 * e) (length-bytes4 (of_z w32 z))
    ∙ word-readings zs rest e (le_of_suc-le-suc h) fits
  where
    place : 4 * suc e ≡ 4 + 4 * e
    place = omega arith
