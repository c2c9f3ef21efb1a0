-- Laws of a plan some rounds on: rounds add up, and only the window, the accuracy and the count of rounds change.
-- Assumes nothing.
use mathlib.Core.Path.{◌≡◌, refl, ap, ◌∙◌}
use Prim.Native.Nat.{ℕ, zero, suc, ◌+◌}
use native.Mathlib.Nat.{zero-add, suc-add}
use native.Mathlib.Omega.{arith}
use Rattle.model.specs.declared.Settings.{Settings}
use Rattle.model.specs.Planner.{Plan, with_window, advance, after}

-- k rounds and then j are j + k
pub after_add : (j k : ℕ) (p : Plan) → after (j + k) p ≡ after j (after k p)
unfolding after
after_add zero k p = ap (λ (i : ℕ). after i p) (zero-add k)
after_add (suc j) k p = ap (λ (i : ℕ). after i p) (suc-add j k) ∙ ap advance (after_add j k p)

pub rounds-after : (k : ℕ) (p : Plan) → (after k p).rounds ≡ p.rounds + k
unfolding after advance
rounds-after zero p = omega arith
rounds-after (suc k) p =
    let ih = rounds-after k p in
    omega arith

-- the settings keep everything but the window
pub settings-after : (k : ℕ) (p : Plan) → (after k p).settings ≡ with_window p.settings (after k p).settings.window
unfolding after advance
settings-after zero p = refl
settings-after (suc k) p =
    ap (λ (c : Settings). with_window c (advance (after k p)).settings.window) (settings-after k p)
