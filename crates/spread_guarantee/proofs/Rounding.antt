-- The quotient of two new values' limit as document 02 writes it is the spread, and two spans for each bad cabinet.
-- Assumes nothing.
use mathlib.Core.Path.{◌≡◌, ap}
use Prim.Native.Nat.{ℕ, ◌+◌, ◌*◌, ◌-◌, ◌≤◌}
use native.Mathlib.Nat.{mul_assoc, mul_comm, mul-add, add-mul}
use native.Mathlib.Omega.{arith}

pub parts_are :
    (n t δ D : ℕ) → t ≤ n → D * n + 2 * (t * (δ + D)) ≡ (n - t) * D + t * (2 * δ + 3 * D)
parts_are n t δ D few = omega (arith, good, of-bad, mul-add t δ D, mul_comm n D)
  where
    good : (n - t) * D + t * D ≡ n * D
    good = omega (arith, add-mul (n - t) t D, ap (λ (k : ℕ). k * D) (joined n t few))
      where
        joined : (n t : ℕ) → t ≤ n → n - t + t ≡ n
        joined n t l = omega arith

    of-bad : t * (2 * δ + 3 * D) ≡ 2 * (t * δ) + 3 * (t * D)
    of-bad =
        omega (
          arith,
          mul-add t (2 * δ) (3 * D),
          mul_assoc t 2 δ,
          mul_assoc t 3 D,
          mul_comm t 2,
          mul_comm t 3,
          mul_assoc 2 t δ,
          mul_assoc 3 t D,
          ap (λ (k : ℕ). k * δ) (mul_comm t 2),
          ap (λ (k : ℕ). k * D) (mul_comm t 3),
        )
