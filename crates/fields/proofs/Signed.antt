-- Signed numbers in decimal: by the sign, at most eleven bytes, and read back they are the number.
-- Assumes nothing.
use mathlib.Core.Bool.{true, false}
use mathlib.Core.List.{List, [], ◌∷◌}
use mathlib.Core.Path.{◌≡◌, refl, ap, ◌∙◌}
use Prim.Native.Nat.{ℕ, zero, suc, ◌≤◌, ◌<◌}
use native.Mathlib.Omega.{arith}
use borrow.Author.Tests.{ltb-true, ne_eqb}
use lib.Dec.{eqb}
use lib.IntN.{ℤ, pos, negsuc, nat_abs}
use lib.Signed.{lt_z}
use lib.ListN.{length, get_or}
use mir.Syntax.{w32}
use mir.Val.{SFits}
use Rattle.arithmetic.specs.Words.{two_to31}
use Rattle.model.specs.Listing.{decimal, signed_decimal}
use Rattle.fields.proofs.Digits.{length-decimal, read_from, read-decimal, decimal-some, all_digits}

-- ---- by the sign

pub signed_below : (z : ℤ) → lt_z z (pos 0) ≡ true → signed_decimal z ≡ 45 ∷ decimal (nat_abs z)
signed_below (pos x) h = absurd (omega (arith, ltb-true x 0 h))
signed_below (negsuc x) h = refl

pub signed_from : (z : ℤ) → lt_z z (pos 0) ≡ false → signed_decimal z ≡ decimal (nat_abs z)
signed_from (pos x) h = refl
signed_from (negsuc x) h = cc

pub length_signed : (z : ℤ) → length (signed_decimal z) ≤ 11
length_signed (pos x) = omega (arith, length-decimal x)
length_signed (negsuc x) = omega (arith, length-decimal (suc x))

-- ---- read back

abbrev pub below-zero : ℕ → ℤ
below-zero zero = pos 0
below-zero (suc x) = negsuc x

-- the number that a text says: after a minus sign one below 0
unfoldable pub read_signed : List ℕ → ℤ
read_signed [] = pos 0
read_signed (b ∷ bytes) = elim (eqb b 45) [ true ↦ below-zero (read_from 0 bytes) | false ↦ pos (read_from 0 (b ∷ bytes)) ]

read_unsigned : (l : List ℕ) → 48 ≤ get_or l 0 0 → read_signed l ≡ pos (read_from 0 l)
unfolding read_signed read_from
read_unsigned [] h = refl
read_unsigned (b ∷ bytes) h = rw (ne_eqb b 45 (λ e. omega arith), read_signed)

pub read_signed_lem : (z : ℤ) → SFits w32 z → read_signed (signed_decimal z) ≡ z
unfolding read_signed
read_signed_lem (pos x) fits =
    let h : x < two_to31 = fits.sfits in
    read_unsigned (decimal x) (all_digits 10 x 0 (decimal-some x)).0 ∙ ap pos (read-decimal x (omega arith))
read_signed_lem (negsuc x) fits =
    let h : x < two_to31 = fits.sfits in
    ap below-zero (read-decimal (suc x) (omega arith))
