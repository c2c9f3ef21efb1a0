-- How large the products of the code are, and the answers of its functions on plain numbers.
-- Assumes nothing.
use mathlib.Core.Path.{◌≡◌, refl}
use Prim.Native.Nat.{ℕ, ◌+◌, ◌*◌, ◌-◌, ◌/◌, ◌≤◌}
use native.Mathlib.Nat.{mul-le-mul}
use native.Mathlib.Omega.{arith}
use borrow.Author.Tests.{ne_eqb}
use Rattle.model.specs.Ensemble.{max_window}
use Rattle.model.specs.Planner.{ceil_div}
use Rattle.interval.specs.Interval.{max_precision, max_drift}
use Rattle.interval.specs.Formula.{coefficient, needed, least_by}

pub rate_le : (c r : ℕ) → c ≤ max_precision → r ≤ max_drift → 2 * c * (2000000 + r) ≤ 4002000000000
rate_le c r h k = mul-le-mul {n₂ = 2000000} {m₂ = 2001000} (omega arith) (omega arith)

pub room-le : (δ c r : ℕ) → δ ≤ max_window → (δ - c) * (2000000 - r) ≤ 2000000000000
room-le δ c r h = mul-le-mul {n₂ = 1000000} {m₂ = 2000000} (omega arith) (omega arith)

pub least-perfect : (c r : ℕ) → c ≡ 0 → 1 ≡ least_by c r
unfolding least_by
least-perfect c r e = rw e refl

pub least_quotient :
    (c r : ℕ) {a d : ℕ} → (c ≡ 0 → ⊥) → a ≡ needed c r → d ≡ coefficient r → (a + (d - 1)) / d ≡ least_by c r
unfolding least_by ceil_div
least_quotient c r some e f = rw (ne_eqb c 0 some, e, f) refl
