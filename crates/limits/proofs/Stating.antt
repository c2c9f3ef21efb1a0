-- What the guarantee states, by cases: each outcome of the code, on plain values. Products are small, since the
-- settings pass.
-- Assumes nothing.
use mathlib.Core.Bool.{Bool, true, false, cond, ◌&&◌}
use mathlib.Core.Option.{none}
use mathlib.Core.Path.{◌≡◌, refl, ap, ap₂, ◌∙◌, subst}
use Prim.Native.Nat.{ℕ, ◌+◌, ◌*◌, ◌-◌, ◌/◌, ◌%◌, ◌≤◌, ◌<◌}
use native.Mathlib.Nat.{le_trans, mul-le-mul, mul-le-mul_left, mul-one, div-le_self}
use native.Mathlib.Omega.{arith}
use borrow.Author.Tests.{le-leb, lt-leb, leb-true, ltb-true, eqb-true}
use lib.Dec.{leb, ltb, eqb}
use Rattle.arithmetic.proofs.Bools.{and_left, and_right}
use Rattle.model.specs.declared.Settings.{Settings}
use Rattle.model.specs.RoundSheet.{fca, median}
use Rattle.model.specs.Planner.{ceil_div, past_div}
use Rattle.model.specs.Cases.{settings}
use Rattle.model.specs.Refusals.{first_of, plan_checks}
use Rattle.model.specs.Ensemble.{max_window}
use Rattle.planner_laws.proofs.Ceiling.{ceil_div_least}
use Rattle.planner_laws.proofs.Checks.{none-may-start}
use Rattle.refusal_laws.proofs.Limits.{Planned}
use Rattle.value_laws.proofs.Means.{odd-one}
use Rattle.demand_3.specs.Exact.{half_up, half_down}
use Rattle.sharpness.specs.Sharpness.{Covered}
use Rattle.reached_limits.specs.Reached.{reachable}
use Rattle.limits.specs.Sizes.{Sizes}
use Rattle.limits.specs.Limits.{Stated, planned, wider, nothing}
use Rattle.limits.specs.Limits.{wider_at, bounds}

ceil_div_le : (n : ℕ) → 0 < n → (a : ℕ) → ceil_div a n ≤ a
ceil_div_le n some-n a =
    let e = mul-one a in
    let l : a * 1 ≤ a * n = mul-le-mul_left a some-n in
    ceil_div_least n some-n (omega arith)

-- a half goes down where the window is odd
by-half :
    (x n w d : ℕ) → (x + (n - w % 2)) / d ≡ cond (eqb (w % 2) 0) ((x + n) / d) ((x + (n - 1)) / d)
by-half x n w d = go (eqb (w % 2) 0) refl
  where
    go : (b : Bool) → eqb (w % 2) 0 ≡ b → (x + (n - w % 2)) / d ≡ cond b ((x + n) / d) ((x + (n - 1)) / d)
    go true e =
        let z = eqb-true (w % 2) 0 e in
        let s : x + (n - w % 2) ≡ x + n = omega arith in
        ap (λ (a : ℕ). a / d) s
    go false e =
        let s : x + (n - w % 2) ≡ x + (n - 1) = omega (arith, odd-one w e) in
        ap (λ (a : ℕ). a / d) s

module _ (c : Settings) where
  module _ (l : Planned c) (parts : ℕ) (few : parts ≤ 256) where
    product_le : parts * c.window ≤ 256000000
    product_le = mul-le-mul {n₂ = 256} {m₂ = max_window} few l.window

    past-le : past_div (parts * c.window) c.n ≤ 256000001
    unfolding past_div
    past-le = omega (arith, div-le_self (parts * c.window) c.n, product_le)

    share-le : ceil_div (parts * c.window) c.n ≤ 256000000
    share-le = le_trans (ceil_div_le c.n l.some_cabinet (parts * c.window)) product_le

  pub granted-sizes : (κ t : ℕ) → first_of (plan_checks c κ 0) ≡ none → t < c.n - c.m → Sizes c κ t
  granted-sizes κ t e h =
      let start = none-may-start c κ 0 e in
      let l = start.passes in
      let cabinets = l.cabinets in
      let faults = l.faults in
      record {
        some_cabinet = l.some_cabinet;
        cabinets = cabinets;
        window = l.window;
        accurate = start.accurate;
        few = omega arith;
        gap = past-le l (c.n + 2 * t + 2 * c.m) (omega arith);
        growth = share-le l (c.m + t) (omega arith);
        excess = product_le l (c.m + t) (omega arith);
      }

  pub granted-faults : (κ : ℕ) → first_of (plan_checks c κ 0) ≡ none → 3 * c.m + 1 ≤ c.n
  granted-faults κ e = (none-may-start c κ 0 e).passes.faults

  pub bounds-planned : (κ t : ℕ) → t ≤ c.m → planned ≡ bounds c κ t
  unfolding bounds
  bounds-planned κ t l = rw (le-leb t c.m l) refl

  pub bounds-nothing : (κ t : ℕ) → c.m < t → c.n - c.m ≤ t → nothing ≡ bounds c κ t
  unfolding bounds
  bounds-nothing κ t l h = rw (lt-leb t c.m l, le-leb (c.n - c.m) t h) refl

  pub bounds-wider : (κ t : ℕ) {s : Stated} → c.m < t → t < c.n - c.m → s ≡ wider_at c κ t → s ≡ bounds c κ t
  unfolding bounds
  bounds-wider κ t l h e = rw (lt-leb t c.m l, lt-leb (c.n - c.m) t h) e

  -- the wider limits, from their parts
  pub wider-at : (κ t : ℕ) {gap growth above below : ℕ} {known : Bool}
      → gap ≡ past_div ((c.n + 2 * t + 2 * c.m) * c.window) c.n
      → growth ≡ ceil_div ((c.m + t) * c.window) c.n
      → above ≡ (2 * ((c.m + t) * c.window) + c.n) / (2 * c.n)
      → below ≡ (2 * ((c.m + t) * c.window) + (c.n - c.window % 2)) / (2 * c.n)
      → known ≡ reachable c κ t
      → wider gap (κ + growth) (c.window + (above + below)) (κ + above) known ≡ wider_at c κ t
  unfolding wider_at half_up half_down
  wider-at κ t {gap} {growth} {above} {below} {known} g e a b k =
      let x : ℕ = (c.m + t) * c.window in
      rw (g, e, a, b ∙ by-half (2 * x) c.n c.window (2 * c.n), k)

  -- what is said to be reached is: `always_reached` speaks of it
  pub reachable_covered : (κ t : ℕ) → first_of (plan_checks c κ 0) ≡ none → c.m < t → t < c.n - c.m
      → reachable c κ t ≡ true → Covered c.n c.m t c.window κ × (c.window ≤ 2 * κ)
  unfolding reachable
  reachable_covered κ t passes more fewer h =
      let fast : Bool = eqb c.rule 0 in
      let middle : Bool = eqb c.estimator 1 in
      let many : Bool = leb c.n (2 * c.m + t) in
      let inexact : Bool = ltb 0 κ in
      let wide : Bool = leb c.window (2 * κ) in
      let method = and_left (fast && middle) (many && (inexact && wide)) h in
      let sizes = and_right (fast && middle) (many && (inexact && wide)) h in
      let accuracy = and_right many (inexact && wide) sizes in
      let rule : c.rule ≡ 0 = eqb-true c.rule 0 (and_left fast middle method) in
      let estimator : c.estimator ≡ 1 = eqb-true c.estimator 1 (and_right fast middle method) in
      let same : c ≡ settings c.n c.m fca median c.window =
      ap₂ (λ (i j : ℕ). settings c.n c.m i j c.window) rule estimator in (
        record {
          grants = subst (λ (d : Settings). first_of (plan_checks d κ 0) ≡ none) same passes;
          more = more;
          fewer = fewer;
          crowded = leb-true c.n (2 * c.m + t) (and_left many (inexact && wide) sizes);
          inexact = ltb-true 0 κ (and_left inexact wide accuracy);
        },
        leb-true c.window (2 * κ) (and_right inexact wide accuracy),
      )
