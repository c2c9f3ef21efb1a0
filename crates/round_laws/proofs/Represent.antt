-- Any readings of n cabinets are naturals moved down, far enough.
-- Assumes nothing.
use mathlib.Core.Path.{◌≡◌, refl, sym, ap}
use Prim.Native.Nat.{ℕ, zero, suc, ◌+◌, ◌≤◌, ◌<◌}
use native.Mathlib.Nat.{le_trans, not-suc-le-zero}
use native.Mathlib.Omega.{arith}
use lib.Signed.{mag}
use Rattle.arithmetic.proofs.Counting.{split-last}
use Rattle.arithmetic.proofs.Shift.{down-up}
use Rattle.arithmetic.specs.Naturals.{up}
use Rattle.model.specs.Ensemble.{Reading, missing, present, Readings, is_present, ticks}
use Rattle.round_laws.specs.Naturals.{shift, shifted}
use Rattle.round_laws.proofs.Local.{EqualBelow}
use mathlib.Core.Logic.{⊎_elim}

-- a number above the magnitude of each of the first n readings
unfoldable pub reach : Readings → ℕ → ℕ
reach v zero = 1
reach v (suc n) = reach v n + suc (mag (ticks (v n)))

pub reach-above : (v : Readings) (n r : ℕ) → r < n → mag (ticks (v r)) < reach v n
unfolding reach
reach-above v zero r h = absurd (not-suc-le-zero h)
reach-above v (suc n) r h =
    ⊎_elim
    (λ l. let i = reach-above v n r l in omega arith)
    (λ e. rw e (above (mag (ticks (v n)))))
    (split-last r n h)
  where
    above : (m : ℕ) → m < reach v n + suc m
    above m = omega arith

-- readings moved up by k
abbrev pub raise : ℕ → Readings → ℕ → ℕ
raise k v r = up k (ticks (v r))

pub shift-raise : (k : ℕ) (z : Reading) → mag (ticks z) < k → shift k (is_present z) (up k (ticks z)) ≡ z
shift-raise k missing h = refl
shift-raise k (present z) h = ap present (down-up k z h)

-- every set of readings is one of naturals, moved down by any number that reaches
pub represented : (k : ℕ) (v : Readings) (n : ℕ) → reach v n ≤ k → EqualBelow n v (shifted k (λ r. is_present (v r)) (raise k v))
represented k v n h r l = sym (shift-raise k (v r) (le_trans (reach-above v n r l) h))
