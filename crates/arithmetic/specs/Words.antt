-- Numbers of 32 bits.
--   two_to31, two_to32    2^31, 2^32
use Rattle.std.specs.Prelude.{ℕ}

abbrev pub two_to31 : ℕ
two_to31 = 2_147_483_648

abbrev pub two_to32 : ℕ
two_to32 = 4_294_967_296
