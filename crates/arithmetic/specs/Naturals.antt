-- INNER: no reader needs this page to believe a public promise. The code works on readings moved up by 2^31, which
-- are naturals; this says what moving and adding up naturals mean. The laws `up-down`, `le_down`, `add_down` and
-- `sum-down` (proofs/Shift, proofs/Sums) say that the two moves undo each other, and that order and sums of numbers
-- moved down are those of the naturals.
--   down k a     the whole number a - k
--   up k z       the natural z + k, where z is at least -k
--   total f n    the sum of the naturals f 0, .., f (n-1)
use Rattle.std.specs.Prelude.{ℕ, zero, suc, ◌+◌, ◌-◌, ℤ, pos, negsuc}
use Rattle.std.proofs.Math.IntN.{sub_ℕ}

unfoldable pub down : ℕ → ℕ → ℤ
down k a = sub_ℕ a k

unfoldable pub up : ℕ → ℤ → ℕ
up k (pos a) = a + k
up k (negsuc a) = k - suc a

unfoldable pub total : (ℕ → ℕ) → ℕ → ℕ
total f zero = 0
total f (suc n) = total f n + f n
