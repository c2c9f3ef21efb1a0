-- How far apart the readings of one round lie. Two accepted ones lie within twice a span: each stands in a span that
-- holds more than half of all, so the two spans share a reading. All that is used lies within twice a span of the lowest
-- accepted reading; the span from that one holds N-m readings and the reading itself, so the distances of all used
-- values from it add up to at most N+m-1 spans.
-- Assumes nothing.
use mathlib.Core.Bool.{Bool, true, false, not, ◌&&◌}
use mathlib.Core.Path.{◌≡◌, refl, ap, ◌∙◌}
use Prim.Native.Nat.{ℕ, ◌+◌, ◌*◌, ◌-◌, ◌≤◌, ◌<◌}
use native.Mathlib.Nat.{le_trans, add-mul, mul-le-mul, le_refl, one-mul}
use native.Mathlib.Omega.{arith}
use borrow.Author.Tests.{eq-eqb, eqb-true}
use lib.Dec.{eqb}
use Rattle.arithmetic.specs.Counting.{bit, count}
use Rattle.arithmetic.specs.Naturals.{total}
use Rattle.arithmetic.proofs.Bools.{and_left, and_right, and_intro}
use Rattle.arithmetic.proofs.Counting.{count-le, count_mono, count-not, count-pos, share}
use Rattle.arithmetic.proofs.Sums.{total_mono, total_add, total_const, total_scale, count-total}
use Rattle.round_laws.specs.Naturals.{accepted_nat, estimate_nat, used_nat}
use Rattle.value_laws.proofs.Extremes.{LeastOf}
use Rattle.value_laws.proofs.Estimates.{Between, used-within}
use Rattle.value_laws.proofs.Acceptance.{inside_span, inside_intro, inside-low, inside-high}
use Rattle.value_laws.proofs.Acceptance.{accepted_nat_span}

module _ (w : ℕ) (pres : ℕ → Bool) (x : ℕ → ℕ) (need n : ℕ) where
  abbrev acc : ℕ → Bool
  acc = accepted_nat w pres x need n

  -- the accepted readings of a span
  abbrev held : ℕ → ℕ → Bool
  held start t = accepted_nat w pres x need n t && inside_span w start (x t)

  pub accepted-apart : n < 2 * need → (i j : ℕ) → acc i ≡ true → acc j ≡ true → x j ≤ x i + 2 * w
  accepted-apart most i j p q =
      let a = accepted_nat_span w pres x need n i p in
      let b = accepted_nat_span w pres x need n j q in
      let all = count-le (λ _. true) n in
      let s = share (held a.start) (held b.start) (λ _. true) n (λ _ _ _. refl) (λ _ _ _. refl)
      (omega (arith, a.holds, b.holds)) in
      let t = s.0 in
      let up = inside-high w a.start (x t) (and_right (acc t) (inside_span w a.start (x t)) s.2) in
      let down = inside-low w b.start (x t) (and_right (acc t) (inside_span w b.start (x t)) s.3) in
      omega (arith, a.low, b.high)

  module _ (most : n < 2 * need) (k kind : ℕ) (lo : LeastOf acc x n) where
    abbrev low : ℕ
    low = x lo.index

    abbrev used : ℕ → ℕ
    used = used_nat acc x (estimate_nat k kind acc n x)

    some : 0 < count acc n
    some = count-pos acc n lo.index lo.in_range lo.passes

    -- all that is used lies within twice a span of the lowest accepted reading
    pub used-near : (r : ℕ) → r < n → Between low (low + 2 * w) (used r)
    used-near r l =
        used-within acc n x some low (low + 2 * w) lo.first
        (λ j _ q. accepted-apart most lo.index j lo.passes q)
        k kind r l

    -- the distance of a used value from it
    abbrev pub distance : ℕ → ℕ
    distance r = used r - low

    pub distance_most : (r : ℕ) → r < n → distance r ≤ 2 * w
    distance_most r l = omega (arith, (used-near r l).high)

    pub distances_twice : total distance n ≤ n * (2 * w)
    distances_twice = omega (arith, total_mono distance (λ _. 2 * w) n distance_most, total_const (2 * w) n)

    -- the span from the lowest accepted reading holds N-m of them
    first_holds : need ≤ count (held low) n
    first_holds =
        let a = accepted_nat_span w pres x need n lo.index lo.passes in
        le_trans a.holds
        (count_mono (held a.start) (held low) n
        (λ t l e.
        let here = and_left (acc t) (inside_span w a.start (x t)) e in
        let high = inside-high w a.start (x t) (and_right (acc t) (inside_span w a.start (x t)) e) in
        and_intro here (inside_intro w low (x t) (lo.first t l here) (omega (arith, a.low)))))

    -- one span for each, one more for each outside the first span, and one less for the lowest itself
    pub distances_most : total distance n + w ≤ (n + (n - need)) * w
    distances_most =
        let mono = total_mono (λ r. distance r + bit (eqb r lo.index) * w) (λ r. w + bit (not (held low r)) * w) n each in
        let left = total_add distance (λ r. bit (eqb r lo.index) * w) n in
        let right = total_add (λ _. w) (λ r. bit (not (held low r)) * w) n in
        let once = total_scale (λ r. bit (eqb r lo.index)) w n in
        let outside = total_scale (λ r. bit (not (held low r))) w n in
        let one : 1 ≤ total (λ r. bit (eqb r lo.index)) n =
        omega (
          arith,
          count-total (λ r. eqb r lo.index) n,
          count-pos (λ r. eqb r lo.index) n lo.index lo.in_range (eq-eqb lo.index lo.index refl),
        ) in
        let few : total (λ r. bit (not (held low r))) n ≤ n - need =
        omega (arith, count-total (λ r. not (held low r)) n, count-not (held low) n, first_holds) in
        let least = mul-le-mul {n₂ = total (λ r. bit (eqb r lo.index)) n} {m₂ = w} one (le_refl w) in
        let greatest = mul-le-mul {n₂ = n - need} {m₂ = w} few (le_refl w) in
        omega (arith, total_const w n, add-mul n (n - need) w, one-mul w)
      where
        used-own : (r : ℕ) → acc r ≡ true → used r ≡ x r
        used-own r p = rw p

        -- the lowest itself
        itself : (r : ℕ) → eqb r lo.index ≡ true → used r ≡ low
        itself r e =
            let same = eqb-true r lo.index e in
            used-own r (ap acc same ∙ lo.passes) ∙ ap x same

        each : (r : ℕ) → r < n → distance r + bit (eqb r lo.index) * w ≤ w + bit (not (held low r)) * w
        each r l = go (held low r) (eqb r lo.index) refl refl
          where
            go :
                (b c : Bool) → held low r ≡ b → eqb r lo.index ≡ c
                → distance r + bit c * w ≤ w + bit (not b) * w
            go b true e f = omega (arith, itself r f)
            go true false e f =
                let here = used-own r (and_left (acc r) (inside_span w low (x r)) e) in
                omega (arith, inside-high w low (x r) (and_right (acc r) (inside_span w low (x r)) e))
            go false false e f = omega (arith, distance_most r l)
