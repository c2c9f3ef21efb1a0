-- "Each estimator lies between the lowest and the highest accepted reading", and the new value between the lowest and
-- the highest used value.
-- Assumes nothing.
use mathlib.Core.Bool.{Bool, true}
use mathlib.Core.Path.{◌≡◌, refl, ◌∙◌, subst, subst⁻¹}
use Prim.Native.Nat.{ℕ, ◌+◌, ◌≤◌, ◌<◌}
use native.Mathlib.Nat.{lt_of_lt_of_le}
use native.Mathlib.Omega.{arith}
use lib.IntN.{ℤ}
use lib.Signed.{◌≤ℤ◌}
use Rattle.arithmetic.specs.Counting.{count}
use Rattle.arithmetic.proofs.Counting.{count-pos}
use Rattle.arithmetic.specs.Naturals.{down}
use Rattle.arithmetic.proofs.Shift.{down-up}
use Rattle.model.specs.declared.Settings.{Settings}
use Rattle.model.specs.Ensemble.{Readings, is_present, ticks}
use Rattle.model.specs.Steps.{accepted_at, round_of, span_width}
use Rattle.round_laws.proofs.Local.{EqualBelow}
use Rattle.round_laws.proofs.Natural.{acc-of, used-of, round-count, round-estimate, round-used, round-value}
use Rattle.round_laws.proofs.Represent.{reach, reach-above, represented, raise}
use Rattle.round_laws.specs.Naturals.{Even, shifted}
use Rattle.value_laws.proofs.Estimates.{estimate-between}
use Rattle.value_laws.proofs.Extremes.{least, greatest}
use Rattle.value_laws.proofs.Means.{mean-above, mean-below}
use Rattle.demand_1_2.proofs.Represented.{le-of-down, accepted-up}

-- z lies between the readings of two accepted cabinets
pub record AmongAccepted (c : Settings) (D : ℕ) (v : Readings) (z : ℤ) : Type 0 where
  pub lowest : ℕ
  pub highest : ℕ
  pub lowest_accepted : (lowest < c.n) × (accepted_at c D v lowest ≡ true)
  pub highest_accepted : (highest < c.n) × (accepted_at c D v highest ≡ true)
  pub above : ticks (v lowest) ≤ℤ z
  pub below : z ≤ℤ ticks (v highest)

-- z lies between the values used for two cabinets
pub record AmongUsed (c : Settings) (D : ℕ) (v : Readings) (z : ℤ) : Type 0 where
  pub lowest : ℕ
  pub highest : ℕ
  pub lowest_in : lowest < c.n
  pub highest_in : highest < c.n
  pub above : (round_of c D v).used lowest ≤ℤ z
  pub below : z ≤ℤ (round_of c D v).used highest

module _ (c : Settings) (D : ℕ) (v : Readings) (some-acc : 0 < (round_of c D v).count) where
  -- the readings moved up far enough for all of them, and by an even number
  abbrev k : ℕ
  k = reach v c.n + reach v c.n

  even-k : Even (reach v c.n + reach v c.n)
  even-k = record { half = reach v c.n; twice = refl }

  far : reach v c.n ≤ reach v c.n + reach v c.n
  far = omega arith

  abbrev pres : ℕ → Bool
  pres r = is_present (v r)

  same : EqualBelow c.n v (shifted k (λ r. is_present (v r)) (raise k v))
  same = represented k v c.n far

  counted : 0 < count (acc-of c D pres (raise k v)) c.n
  counted = subst (λ (a : ℕ). 0 < a) (round-count c D pres (raise k v) v k same) some-acc

  accepts : (r : ℕ) → r < c.n → accepted_at c D v r ≡ acc-of c D pres (raise k v) r
  unfolding accepted_at
  accepts r l = accepted-up v c.n k far (span_width c D) _ r l

  raised : (r : ℕ) → r < c.n → down k (raise k v r) ≡ ticks (v r)
  raised r l = down-up k (ticks (v r)) (lt_of_lt_of_le (reach-above v c.n r l) far)

  pub estimate_among : AmongAccepted c D v (round_of c D v).estimate
  estimate_among =
      let lo = least (acc-of c D pres (raise k v)) (raise k v) c.n counted in
      let hi = greatest (acc-of c D pres (raise k v)) (raise k v) c.n counted in
      let e = round-estimate c D pres (raise k v) v k same counted in
      let b = estimate-between (acc-of c D pres (raise k v)) c.n (raise k v) counted k c.estimator lo hi in
      record {
        lowest = lo.index;
        highest = hi.index;
        lowest_accepted = (lo.in_range, accepts lo.index lo.in_range ∙ lo.passes);
        highest_accepted = (hi.in_range, accepts hi.index hi.in_range ∙ hi.passes);
        above =
            subst (λ z. z ≤ℤ (round_of c D v).estimate) (raised lo.index lo.in_range)
            (subst⁻¹ (λ z. down k (raise k v lo.index) ≤ℤ z) e (le-of-down k _ _ b.low));
        below =
            subst (λ z. (round_of c D v).estimate ≤ℤ z) (raised hi.index hi.in_range)
            (subst⁻¹ (λ z. z ≤ℤ down k (raise k v hi.index)) e (le-of-down k _ _ b.high));
      }

  pub value_among : 0 < c.n → AmongUsed c D v (round_of c D v).value
  value_among some-n =
      let all : 0 < count (λ _. true) c.n = count-pos (λ _. true) c.n 0 some-n refl in
      let lo = least (λ _. true) (used-of c D pres (raise k v) k) c.n all in
      let hi = greatest (λ _. true) (used-of c D pres (raise k v) k) c.n all in
      let e = round-value c D pres (raise k v) v k same some-n even-k counted in
      let low =
      mean-above c.n some-n (used-of c D pres (raise k v) k) (used-of c D pres (raise k v) k lo.index)
      (λ r l. lo.first r l refl) in
      let high =
      mean-below c.n some-n (used-of c D pres (raise k v) k) (used-of c D pres (raise k v) k hi.index)
      (λ r l. hi.first r l refl) in
      record {
        lowest = lo.index;
        highest = hi.index;
        lowest_in = lo.in_range;
        highest_in = hi.in_range;
        above =
            subst⁻¹ (λ z. z ≤ℤ (round_of c D v).value)
            (round-used c D pres (raise k v) v k same counted lo.index lo.in_range)
            (subst⁻¹ (λ z. down k (used-of c D pres (raise k v) k lo.index) ≤ℤ z) e (le-of-down k _ _ low));
        below =
            subst⁻¹ (λ z. (round_of c D v).value ≤ℤ z)
            (round-used c D pres (raise k v) v k same counted hi.index hi.in_range)
            (subst⁻¹ (λ z. z ≤ℤ down k (used-of c D pres (raise k v) k hi.index)) e (le-of-down k _ _ high));
      }
