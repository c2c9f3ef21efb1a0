-- A difference of naturals, moved up.
-- Assumes nothing.
use mathlib.Core.Path.{◌≡◌, ap, ◌∙◌}
use Prim.Native.Nat.{ℕ, ◌+◌, ◌-◌, ◌≤◌}
use native.Mathlib.Omega.{arith}
use lib.IntN.{pos, ◌-ℤ◌}
use Rattle.arithmetic.proofs.Shift.{down-ind}
use Rattle.arithmetic.specs.Naturals.{up}
use Rattle.demand_3.proofs.Distances.{difference_down}

pub up_difference : (K a b : ℕ) → b ≤ K → up K (pos a -ℤ pos b) ≡ a + K - b
up_difference K a b h =
    ap (up K) (difference_down a b)
    ∙ down-ind b a (λ z. up K z ≡ a + K - b) (λ l. unfold up in omega arith) (λ l. unfold up in omega arith)
