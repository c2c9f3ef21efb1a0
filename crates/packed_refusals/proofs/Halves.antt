-- A number packed as upper × 2^32 + lower gives both back.
-- Assumes nothing.
use mathlib.Core.Path.{◌≡◌}
use Prim.Native.Nat.{ℕ, ◌+◌, ◌*◌, ◌<◌}
use native.Mathlib.Omega.{arith}
use Rattle.arithmetic.specs.Words.{two_to32}
use Rattle.packed_refusals.specs.Answers.{upper_half, lower_half}

pub upper_back : (upper lower : ℕ) → lower < two_to32 → upper_half (upper * two_to32 + lower) ≡ upper
upper_back upper lower h = omega arith

pub lower-back : (upper lower : ℕ) → lower < two_to32 → lower_half (upper * two_to32 + lower) ≡ lower
lower-back upper lower h = omega arith
