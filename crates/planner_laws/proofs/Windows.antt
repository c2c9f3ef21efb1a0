-- Windows never grow, and the accuracy grows each round by at most the widest window: so settings that pass go on
-- passing.
-- Assumes nothing.
use mathlib.Core.Bool.{Bool, true, false, cond, ◌&&◌, ◌||◌}
use mathlib.Core.Logic.{◌⊎◌, inl, inr}
use mathlib.Core.Path.{◌≡◌, refl, sym, ap, ◌∙◌}
use Prim.Native.Nat.{ℕ, zero, suc, ◌+◌, ◌*◌, ◌-◌, ◌/◌, ◌≤◌, ◌<◌}
use native.Mathlib.Nat.{le_refl, le_trans, mul_assoc, mul_comm, mul-le-mul_right, one-mul}
use native.Mathlib.Nat.{mul-lt-mul_of_pos_right, div-lt_iff_lt-mul, pos_of_ne-zero, zero-mul, mul-zero}
use native.Mathlib.Omega.{arith}
use borrow.Author.Tests.{eqb-true, eqb-false, eq-eqb, ne_eqb}
use lib.Dec.{eqb}
use Rattle.model.specs.declared.Settings.{Settings}
use Rattle.model.specs.Planner.{Plan, ceil_div, past_div, window_factor, next_window, growth, with_window, advance, after}
use Rattle.model.specs.Ensemble.{max_window}
use Rattle.planner_laws.proofs.Ceiling.{ceil_div_least, ceil_past}
use Rattle.refusal_laws.proofs.Limits.{Planned}
use Rattle.planner_laws.proofs.Rounds.{after_add}

-- the factor of the next window is 1 or 2
factor_le : (b : Bool) → cond b 1 2 ≤ 2
factor_le true = omega arith
factor_le false = omega arith

window_factor_le : (c : Settings) → window_factor c ≤ 2
unfolding window_factor
window_factor_le c = factor_le (eqb c.rule 1 && eqb c.estimator 1)

-- f m δ / N rounded up is at most δ, where f m is at most N
share-le : (f : ℕ) (c : Settings) → 0 < c.n → f * c.m ≤ c.n → ceil_div (f * (c.m * c.window)) c.n ≤ c.window
share-le f c h l =
    let e = mul_assoc f c.m c.window in
    let d = mul_comm c.n c.window in
    let b = mul-le-mul_right c.window l in
    ceil_div_least c.n h (omega arith)

-- the next window, by whether m or δ is 0
pub next-none : (c : Settings) → (c.m ≡ 0) ⊎ (c.window ≡ 0) → next_window c ≡ 0
unfolding next_window
next-none c (inl e) = rw (eq-eqb c.m 0 e)
next-none c (inr e) = rw (eq-eqb c.window 0 e) (go (eqb c.m 0))
  where
    go : (a : Bool) → ◌≡◌ {A = ℕ} (cond (a || true) 0 (past_div (window_factor c * (c.m * c.window)) c.n)) 0
    go true = refl
    go false = refl

pub next_past :
    (c : Settings) → (c.m ≡ 0 → ⊥) → (c.window ≡ 0 → ⊥)
    → next_window c ≡ past_div (window_factor c * (c.m * c.window)) c.n
unfolding next_window
next_past c a b = rw (ne_eqb c.m 0 a, ne_eqb c.window 0 b)

-- f m δ / N, rounded down, and one are at most δ, where f m is below N and δ is not 0
past-le : (f n m w : ℕ) → 0 < n → f * m < n → 0 < w → past_div (f * (m * w)) n ≤ w
unfolding past_div
past-le f n m w h l some-w =
    let e = mul_assoc f m w in
    let d = mul_comm n w in
    let b = mul-lt-mul_of_pos_right {k = w} l some-w in
    let q : f * (m * w) / n < w = (div-lt_iff_lt-mul h).1 (omega arith) in
    omega arith

pub next-window-le : (c : Settings) → Planned c → next_window c ≤ c.window
next-window-le c s = go (eqb c.m 0) refl (eqb c.window 0) refl
  where
    go : (a : Bool) → eqb c.m 0 ≡ a → (b : Bool) → eqb c.window 0 ≡ b → next_window c ≤ c.window
    go true ea b eb = omega (arith, next-none c (inl (eqb-true c.m 0 ea)))
    go false ea true eb = omega (arith, next-none c (inr (eqb-true c.window 0 eb)))
    go false ea false eb =
        let f = mul-le-mul_right c.m (window_factor_le c) in
        let faults = s.faults in
        rw (next_past c (eqb-false c.m 0 ea) (eqb-false c.window 0 eb))
        (past-le (window_factor c) c.n c.m c.window s.some_cabinet (omega arith)
        (pos_of_ne-zero (eqb-false c.window 0 eb)))

-- the quotient rounded up is at most the next window
pub ceil_next-le : (c : Settings) → 0 < c.n → ceil_div (window_factor c * (c.m * c.window)) c.n ≤ next_window c
ceil_next-le c some-n = go (eqb c.m 0) refl (eqb c.window 0) refl
  where
    none : window_factor c * (c.m * c.window) ≤ 0 * c.n → ceil_div (window_factor c * (c.m * c.window)) c.n ≤ next_window c
    none l = omega (arith, ceil_div_least c.n some-n l)

    go :
        (a : Bool) → eqb c.m 0 ≡ a → (b : Bool) → eqb c.window 0 ≡ b
        → ceil_div (window_factor c * (c.m * c.window)) c.n ≤ next_window c
    go true ea b eb =
        let z : c.m * c.window ≡ 0 = ap (λ (a : ℕ). a * c.window) (eqb-true c.m 0 ea) ∙ zero-mul c.window in
        let y = ap (λ (a : ℕ). window_factor c * a) z in
        none (omega (arith, mul-zero (window_factor c)))
    go false ea true eb =
        let z : c.m * c.window ≡ 0 = ap (λ (a : ℕ). c.m * a) (eqb-true c.window 0 eb) ∙ mul-zero c.m in
        let y = ap (λ (a : ℕ). window_factor c * a) z in
        none (omega (arith, mul-zero (window_factor c)))
    go false ea false eb =
        rw (next_past c (eqb-false c.m 0 ea) (eqb-false c.window 0 eb))
        (ceil_past c.n some-n (window_factor c * (c.m * c.window)))

pub growth-le : (c : Settings) → Planned c → growth c ≤ c.window
unfolding growth
growth-le c s =
    let one = ap (λ (a : ℕ). ceil_div a c.n) (one-mul (c.m * c.window)) in
    let l = share-le 1 c s.some_cabinet (omega arith) in
    omega arith

-- settings pass with any window that does
passes-window : (c : Settings) (w : ℕ) → Planned c → w ≤ max_window → Planned (with_window c w)
passes-window c w s l =
    record {
      some_cabinet = s.some_cabinet;
      cabinets = s.cabinets;
      faults = s.faults;
      method = s.method;
      window = l;
    }

passes-advance : (p : Plan) → Planned p.settings → Planned (advance p).settings
unfolding advance
passes-advance p s = passes-window p.settings _ s (le_trans (next-window-le p.settings s) s.window)

pub passes-after : (k : ℕ) (p : Plan) → Planned p.settings → Planned (after k p).settings
unfolding after
passes-after zero p s = s
passes-after (suc k) p s = passes-advance (after k p) (passes-after k p s)

-- ---- windows never grow

window-advance-le : (p : Plan) → Planned p.settings → (advance p).settings.window ≤ p.settings.window
unfolding advance
window-advance-le p s = next-window-le p.settings s

pub window-after-le : (k : ℕ) (p : Plan) → Planned p.settings → (after k p).settings.window ≤ p.settings.window
unfolding after
window-after-le zero p s = le_refl _
window-after-le (suc k) p s = le_trans (window-advance-le (after k p) (passes-after k p s)) (window-after-le k p s)

pub window-after_mono : (j k : ℕ) (p : Plan) → Planned p.settings → j ≤ k
    → (after k p).settings.window ≤ (after j p).settings.window
window-after_mono j k p s l =
    let e : k - j + j ≡ k = omega arith in
    let split =
    ap (λ (i : ℕ). (after i p).settings.window) (sym e)
    ∙ ap (λ (q : Plan). q.settings.window) (after_add (k - j) j p) in
    let d = window-after-le (k - j) (after j p) (passes-after j p s) in
    omega arith

-- ---- the accuracy grows each round by at most the widest window

accuracy-advance-le : (p : Plan) → Planned p.settings → (advance p).accuracy ≤ p.accuracy + max_window
unfolding advance
accuracy-advance-le p s =
    let g = growth-le p.settings s in
    omega arith

pub accuracy-after-le : (k : ℕ) (p : Plan) → Planned p.settings → (after k p).accuracy ≤ p.accuracy + k * max_window
unfolding after
accuracy-after-le zero p s = omega arith
accuracy-after-le (suc k) p s =
    let ih = accuracy-after-le k p s in
    let a = accuracy-advance-le (after k p) (passes-after k p s) in
    omega arith
