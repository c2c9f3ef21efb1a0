-- Where m or the window is 0 sound cabinets hold one value: `one_value` is the theorem that specs/OneValue.antt states. It
-- follows from `guarantee`: every next window is 0, and numbers that are at most 0 apart are equal.
-- Assumes nothing.
use mathlib.Core.List.{List, [], ◌∷◌}
use mathlib.Core.Logic.{◌⊎◌, inr}
use mathlib.Core.Path.{◌≡◌, sym, ap, ◌∙◌}
use Prim.Native.Nat.{suc, ◌+◌, ◌≤◌}
use native.Mathlib.Omega.{arith}
use lib.IntN.{ℤ}
use lib.Signed.{mag}
use Rattle.arithmetic.specs.Naturals.{down}
use Rattle.arithmetic.proofs.Shift.{down-up}
use Rattle.model.specs.Planner.{Plan, advance}
use Rattle.planner_laws.proofs.Windows.{next-none}
use Rattle.run.specs.Run.{Station, Sends, State, start, next}
use Rattle.demand_3.specs.Guarantee.{Every, Close, new_value, apart}
use Rattle.demand_3.specs.OneValue.{AllEqual, OneValue}
use Rattle.demand_3.proofs.Distances.{dist_up}
use Rattle.demand_3.proofs.Guarantee.{guarantee, step-advances}

-- numbers that are not apart
same : (a b : ℤ) → apart a b ≤ 0 → a ≡ b
same a b l =
    let k = suc (mag a) + suc (mag b) in
    let e = dist_up k a b (omega arith) (omega arith) in
    sym (down-up k a (omega arith)) ∙ ap (down k) (omega arith) ∙ down-up k b (omega arith)

-- a plan whose next window is 0
abbrev Still : Plan → Type 0
Still p = (p.settings.m ≡ 0) ⊎ (p.settings.window ≡ 0)

still-advance : (p : Plan) → Still p → (advance p).settings.window ≡ 0
unfolding advance
still-advance p e = next-none p.settings e

module _ (st : Station) (truth : ℤ) where
  every-alike :
      (rounds : List Sends) (now : State) → Still now.plan → Every st (Close st truth) now rounds
      → Every st (AllEqual st) now rounds
  every-alike [] now still e = tt
  every-alike (x ∷ xs) now still (close, rest) =
      let none : (next st now x).plan.settings.window ≡ 0 =
      ap (λ (p : Plan). p.settings.window) (step-advances now.plan (next st now x).plan close.steps)
      ∙ still-advance now.plan still in (
        (λ p q sp sq. same (new_value st now x p) (new_value st now x q) (rw none at (close.precise p q sp sq))),
        every-alike xs (next st now x) (inr none) rest,
      )

pub one_value : OneValue
one_value st begins rounds l each good truth g few still =
    every-alike st truth rounds (start st) still ((guarantee st begins rounds l each good truth g).few few)
