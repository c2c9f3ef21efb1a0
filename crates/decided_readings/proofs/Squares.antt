-- Where the rows of a square of entries lie.
-- Assumes nothing.
use Prim.Native.Nat.{ℕ, suc, ◌+◌, ◌*◌, ◌≤◌, ◌<◌}
use native.Mathlib.Nat.{mul-le-mul, mul-le-mul_right, suc-mul}
use native.Mathlib.Omega.{arith}
use Rattle.model.specs.Ensemble.{max_cabinets}

-- row r of n lies in the square
pub row_room : (r n : ℕ) → r < n → r * n + n ≤ n * n
row_room r n h =
    let a : suc r * n ≤ n * n = mul-le-mul_right n h in
    let e = suc-mul r n in
    omega arith

pub square-most : (n : ℕ) → n ≤ max_cabinets → n * n ≤ 4096
square-most n h = mul-le-mul h h
