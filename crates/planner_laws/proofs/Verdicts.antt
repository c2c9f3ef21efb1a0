-- What a call's answer tells of its checks: something is granted only where no check refuses, and a refusal is the
-- first check's.
-- Assumes nothing.
use mathlib.Core.Option.{none, some}
use mathlib.Core.Path.{◌≡◌, refl, sym}
use Prim.Native.Nat.{ℕ}
use native.Mathlib.Omega.{arith}
use Rattle.model.specs.Refusals.{Refusal}
use Rattle.model.specs.Refusals.{Check}
use Rattle.model.specs.Calls.{Verdict, granted, refused, verdict}

module _ {A : Type 0} (a : A) where
  granted-not-refused : {X : Type 0} {b : A} {r : Refusal} → ◌≡◌ {A = Verdict A} (granted b) (refused r) → X
  granted-not-refused e = let z : ◌≡◌ {A = ℕ} 0 1 = cc in absurd (omega arith)

  pub granted_check : (check : Check) {b : A} → granted b ≡ verdict check a → (check ≡ none) × (b ≡ a)
  granted_check none e = (refl, (cc))
  granted_check (some r) e = granted-not-refused e

  pub refused_check : (check : Check) {r : Refusal} → refused r ≡ verdict check a → check ≡ some r
  refused_check none e = granted-not-refused (sym e)
  refused_check (some s) e = cc
