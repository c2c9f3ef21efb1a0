-- The 32 bits of a signed number in two's complement, and the same number moved up by 2^31, which is a natural below
-- 2^32 with the order, the sums and the distances of the signed one.
-- Assumes nothing.
use Rattle.std.proofs.Common.{◌≡◌, ℕ, suc, ◌+◌, ◌-◌, ◌<◌, ◌≤◌, pos, negsuc, sym, ap, ◌∙◌, arith, w32, to_z, of_z, le-ltb, lt-ltb}
use Rattle.arithmetic.specs.Naturals.{down}
use Rattle.arithmetic.proofs.Shift.{down_pos, down_neg}
use Rattle.arithmetic.specs.Words.{two_to31, two_to32}

-- bits below 2^31 are a number at or above 0
pub to_z_low : (x : ℕ) → x < two_to31 → to_z w32 x ≡ down two_to31 (x + two_to31)
to_z_low x h = rw (lt-ltb x two_to31 h) (sym (down_pos two_to31 (x + two_to31) (omega arith) ∙ ap pos go))
  where
    go : x + two_to31 - two_to31 ≡ x
    go = omega arith

-- bits from 2^31 on are a number below 0
pub to_z_high : (x : ℕ) → two_to31 ≤ x → x < two_to32 → to_z w32 x ≡ down two_to31 (x - two_to31)
to_z_high x h l = rw (le-ltb x two_to31 h) (sym (down_neg two_to31 (x - two_to31) (omega arith) ∙ ap negsuc go))
  where
    go : two_to31 - suc (x - two_to31) ≡ two_to32 - suc x
    go = omega arith

-- the bits of a number that was moved down
pub of_z_low : (a : ℕ) → a < two_to31 → of_z w32 (down two_to31 a) ≡ a + two_to31
of_z_low a h = rw (down_neg two_to31 a h) go
  where
    go : two_to32 - suc (two_to31 - suc a) ≡ a + two_to31
    go = omega arith

pub of_z_high : (a : ℕ) → two_to31 ≤ a → of_z w32 (down two_to31 a) ≡ a - two_to31
of_z_high a h = rw (down_pos two_to31 a h)
