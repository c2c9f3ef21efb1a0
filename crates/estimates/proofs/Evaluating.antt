-- What each `return` of the estimate and of the evaluation answers, by the tests that led there and by what was
-- gathered: used values are the lowest reading and their distances from it.
-- Assumes nothing.
use mathlib.Core.Bool.{Bool, true, false, not, cond}
use mathlib.Core.List.{List}
use mathlib.Core.Logic.{⊎_elim}
use mathlib.Core.Path.{◌≡◌, refl, sym, ap, ap₂, ◌∙◌}
use Prim.Native.Nat.{ℕ, ◌+◌, ◌*◌, ◌-◌, ◌/◌, ◌≤◌, ◌<◌}
use native.Mathlib.Nat.{mul-le-mul, mul-le-mul_left, mul_comm, mul-add, add-mul, add_comm, add-mul-div_right, pos_of_ne-zero}
use native.Mathlib.Omega.{arith}
use borrow.Author.Tests.{eq-eqb, ne_eqb}
use lib.ListN.{length}
use Rattle.arithmetic.specs.Counting.{bit, count, sum}
use Rattle.arithmetic.proofs.Bools.{both_ways}
use Rattle.arithmetic.proofs.Counting.{count-le, count-not}
use Rattle.arithmetic.specs.Naturals.{down, up, total}
use Rattle.arithmetic.proofs.Shift.{up-down}
use Rattle.arithmetic.proofs.Sums.{total_ext, total_add, total_scale, total_const, count-total}
use Rattle.arithmetic.specs.Words.{two_to31, two_to32}
use Rattle.model.specs.Ensemble.{max_cabinets}
use Rattle.model.specs.Steps.{mean, used_value}
use Rattle.round_laws.specs.Naturals.{average_nat, median_nat, midpoint_nat, estimate_nat, mean_nat}
use Rattle.round_laws.proofs.Shifted.{estimate-shifted, value_shifted, even_31}
use Rattle.value_laws.proofs.Estimates.{Between, estimate-within}
use Rattle.value_laws.proofs.Means.{mean_upper}
use Rattle.std.specs.Prelude.{None}
use Rattle.held.specs.Held.{present_in, value_at, readings_in}
use Rattle.held.proofs.Held.{fit_intro}
use Rattle.means.specs.Means.{floor_mean, nearest_mean}
use Rattle.means.proofs.Means.{floor_is, nearest_is}
use Rattle.selection.specs.Order.{numbered_of}
use Rattle.summaries.specs.Summaries.{used_at, present_count, most_apart, distance_at, ungathered, Summarizes, Fitting, Gathers}
use Rattle.summaries.specs.declared.Summary.{Summary}
use Rattle.summaries.proofs.Gathering.{distances_small, numbers-sum}
use Rattle.estimates.specs.Values.{estimate_of_held, mean_in, estimate_at}
use Rattle.estimates.specs.Values.{nothing, evaluated_of}
use Rattle.estimates.specs.declared.Estimated.{Estimated}

module _ (marks values : List ℕ) where
  -- how many are missing
  absent-count : count (λ i. not (present_in marks i)) (length marks) ≡ length marks - present_count marks
  absent-count = omega (arith, count-not (present_in marks) (length marks))

  -- document 01's estimate and mean, moved up, are those of the naturals
  module _ (kind : ℕ) (some : 0 < present_count marks) where
    estimate-down : estimate_of_held kind marks values ≡ down two_to31 (estimate_at kind marks values)
    unfolding estimate_of_held estimate_at
    estimate-down =
        let acc = present_in marks in
        estimate-shifted two_to31 acc (value_at values) acc (length marks) (λ r e. e) some kind

    estimate-moved : up two_to31 (estimate_of_held kind marks values) ≡ estimate_at kind marks values
    estimate-moved = ap (up two_to31) estimate-down ∙ up-down two_to31 (estimate_at kind marks values)

    value-moved :
        up two_to31 (mean_in marks values (estimate_of_held kind marks values))
        ≡ mean_nat (length marks) (total (used_at marks values (estimate_at kind marks values)) (length marks))
    unfolding mean_in
    value-moved =
        let e = estimate_at kind marks values in
        let n = length marks in
        ap (λ z. up two_to31 (mean n (sum (used_value (present_in marks) (readings_in marks values) z) n))) estimate-down
        ∙ ap (up two_to31)
        (value_shifted two_to31 (present_in marks) (value_at values) (present_in marks) n (λ r p. p) e
        (omega (arith, count-le (present_in marks) n))
        even_31)
        ∙ up-down two_to31 (mean_nat n (total (used_at marks values e) n))

  module _ (fit : Fitting marks values) (r : Summary) (gathered : Summarizes r marks values) where
    -- the widest distance
    abbrev pub wide : ℕ
    wide = r.high - r.low

    wide-most : wide ≤ most_apart
    wide-most = omega (arith, gathered.apart)

    some-present : 0 < present_count marks
    some-present = omega (arith, gathered.counted, gathered.some)

    pub count-few : r.count ≤ length marks
    count-few = omega (arith, gathered.counted, count-le (present_in marks) (length marks))

    pub has_some : length marks ≡ 0 → ⊥
    has_some z = omega (arith, count-few, gathered.some)

    sum-small : r.sum ≤ r.count * wide
    sum-small =
        let l = distances_small marks values r.low r.high gathered.least gathered.greatest in
        let c = ap (λ (k : ℕ). k * wide) gathered.counted in
        omega (arith, gathered.added)

    total-present : total (used_at marks values 0) (length marks) ≡ r.sum + r.low * r.count
    total-present =
        numbers-sum marks values r.low r.high gathered.least gathered.greatest
        ∙ ap₂ (λ (x y : ℕ). x + y) (sym gathered.added)
        (ap (λ (k : ℕ). k * r.low) (sym gathered.counted) ∙ mul_comm r.count r.low)

    -- what replaces each missing reading adds its distance once for each
    total-used :
        (e : ℕ) → r.low ≤ e
        → total (used_at marks values e) (length marks)
        ≡ r.sum + (length marks - r.count) * (e - r.low) + r.low * length marks
    total-used e l =
        let n = length marks in
        let absent : ℕ → Bool = λ i. not (present_in marks i) in
        total_ext (used_at marks values e) (λ i. distance_at marks values r.low i + bit (absent i) * (e - r.low) + r.low) n
        (λ i k. one (present_in marks i) (value_at values i) (gathered.least i k))
        ∙ total_add (λ i. distance_at marks values r.low i + bit (absent i) * (e - r.low)) (λ _. r.low) n
        ∙ ap₂ (λ (x y : ℕ). x + y)
        (total_add (distance_at marks values r.low) (λ i. bit (absent i) * (e - r.low)) n
        ∙ ap₂ (λ (x y : ℕ). x + y) (sym gathered.added)
        (total_scale (λ i. bit (absent i)) (e - r.low) n
        ∙ ap (λ (x : ℕ). x * (e - r.low))
        (sym (count-total absent n) ∙ absent-count ∙ ap (λ (k : ℕ). n - k) (sym gathered.counted))))
        (total_const r.low n ∙ mul_comm n r.low)
      where
        one :
            (b : Bool) (v : ℕ) → (b ≡ true → r.low ≤ v)
            → cond b v e ≡ cond b (v - r.low) 0 + bit (not b) * (e - r.low) + r.low
        one true v h = omega (arith, h refl)
        one false v h = omega (arith, l)

    module _ (kind : ℕ) where
      -- the estimate lies between the lowest and the highest
      pub between : Between r.low r.high (estimate_at kind marks values)
      unfolding estimate_at
      between =
          estimate-within (present_in marks) (length marks) (value_at values) some-present r.low r.high
          gathered.least
          gathered.greatest
          two_to31
          kind

      -- where an estimate is so far above the lowest
      above : (a : ℕ) → r.low + a ≡ estimate_at kind marks values → a ≡ estimate_at kind marks values - r.low
      above a e = omega (arith, e)

      average_due :
          kind ≡ 0 → (a : ℕ) → a ≡ floor_mean r.count r.sum → r.low + a ≡ estimate_at kind marks values
      unfolding estimate_at estimate_nat average_nat
      average_due e a q =
          rw (eq-eqb kind 0 e, ← gathered.counted, total-present)
          (ap (λ (k : ℕ). r.low + k) (q ∙ sym (floor_is r.count r.sum (λ z. omega (arith, gathered.some, z))))
          ∙ add_comm r.low (r.sum / r.count)
          ∙ sym (add-mul-div_right r.sum r.low gathered.some))

      pub estimate-average :
          kind ≡ 0 → (a : ℕ) → a ≡ floor_mean r.count r.sum → a ≡ estimate_at kind marks values - r.low
      estimate-average e a q = above a (average_due e a q)

      pub estimate-median :
          (kind ≡ 0 → ⊥)
          → kind ≡ 1
          → (a : ℕ)
          → a ≡ numbered_of marks values ((r.count + 1) / 2)
          → a ≡ estimate_at kind marks values
      unfolding estimate_at estimate_nat median_nat numbered_of
      estimate-median d e a q =
          rw (ne_eqb kind 0 d, eq-eqb kind 1 e, ← gathered.counted)
          (rw (fit_intro (length marks) (length values) fit.few fit.even) at q)

      midpoint_due :
          (kind ≡ 0 → ⊥) → (kind ≡ 1 → ⊥) → r.low + (r.high - r.low) / 2 ≡ estimate_at kind marks values
      unfolding estimate_at estimate_nat midpoint_nat
      midpoint_due d e =
          rw (ne_eqb kind 0 d, ne_eqb kind 1 e, ← gathered.lowest, ← gathered.highest)
          (omega (arith, gathered.ordered))

      pub estimate-midpoint :
          (kind ≡ 0 → ⊥) → (kind ≡ 1 → ⊥) → (r.high - r.low) / 2 ≡ estimate_at kind marks values - r.low
      estimate-midpoint d e = above ((r.high - r.low) / 2) (midpoint_due d e)

      -- the sum of the distances of all used values
      module _ (a : ℕ) (is : a ≡ estimate_at kind marks values - r.low) where
        estimate_is : r.low + a ≡ estimate_at kind marks values
        estimate_is = omega (arith, is, between.low)

        pub estimate-most : r.low + a ≤ r.high
        estimate-most = omega (arith, estimate_is, between.high)

        pub sum-most : r.sum + (length marks - r.count) * a ≤ length marks * wide
        sum-most =
            let l : a ≤ wide = omega (arith, estimate-most) in
            let replaced = mul-le-mul_left (length marks - r.count) l in
            let both = add-mul r.count (length marks - r.count) wide in
            let all : r.count + (length marks - r.count) ≡ length marks = omega (arith, count-few) in
            let scaled = ap (λ (k : ℕ). k * wide) all in
            omega (arith, sum-small)

        -- which fits in 32 bits
        pub sum_fits : length marks * wide < two_to32
        sum_fits =
            let l = mul-le-mul {n₂ = max_cabinets} {m₂ = most_apart} fit.few wide-most in
            omega arith

        pub value-most :
            (v : ℕ) → v ≡ nearest_mean (length marks) (r.sum + (length marks - r.count) * a) r.low → r.low + v ≤ r.high
        value-most v q =
            let n = length marks in
            let used = r.sum + (n - r.count) * a in
            let parts : wide + r.low ≡ r.high = omega (arith, gathered.ordered) in
            let scaled = ap (λ (k : ℕ). n * k) parts in
            let most : used + r.low * n ≤ n * r.high =
            omega (arith, sum-most, mul-add n wide r.low, mul_comm n r.low) in
            omega (
              arith,
              mean_upper n (pos_of_ne-zero has_some) (used + r.low * n) r.high most,
              nearest_is n used has_some r.low,
              q,
            )

        pub evaluate_some :
            ungathered marks values ≡ false
            → (v : ℕ)
            → v ≡ nearest_mean (length marks) (r.sum + (length marks - r.count) * a) r.low
            → ◌≡◌ {A = Estimated} (record { count = r.count; estimate = r.low + a; value = r.low + v })
            (evaluated_of kind marks values)
        unfolding evaluated_of
        evaluate_some f v q =
            let n = length marks in
            let e = estimate_at kind marks values in
            let used = r.sum + (n - r.count) * a in
            let due : r.low + v ≡ mean_nat n (total (used_at marks values e) n) =
            ap (λ (k : ℕ). r.low + k) q
            ∙ sym (nearest_is n used has_some r.low)
            ∙ ap (λ (k : ℕ). mean_nat n (r.sum + (n - r.count) * k + r.low * n)) is
            ∙ ap (mean_nat n) (sym (total-used e between.low)) in
            rw (f, estimate-moved kind some-present, value-moved kind some-present, due, estimate_is, gathered.counted)

  -- nothing is counted
  pub evaluate_empty : (kind : ℕ) → Gathers None marks values → nothing ≡ evaluated_of kind marks values
  unfolding evaluated_of
  evaluate_empty kind g = ⊎_elim (λ t. rw t) (λ f. absurd ((g.all f).1)) (both_ways (ungathered marks values))
