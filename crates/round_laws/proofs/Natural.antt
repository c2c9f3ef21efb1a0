-- The round of readings that are naturals moved down is the round of the naturals, moved down.
-- Assumes nothing.
use mathlib.Core.Bool.{Bool, true, ◌&&◌}
use mathlib.Core.Path.{◌≡◌, refl, ap, ◌∙◌}
use Prim.Native.Nat.{ℕ, ◌<◌}
use lib.Dec.{leb}
use Rattle.arithmetic.specs.Counting.{count}
use Rattle.arithmetic.proofs.Bools.{and_left, and_right}
use Rattle.arithmetic.proofs.Counting.{count_ext, any_some}
use Rattle.arithmetic.specs.Naturals.{down, total}
use Rattle.arithmetic.proofs.Sums.{sum_ext, sum-down}
use Rattle.model.specs.declared.Settings.{Settings}
use Rattle.model.specs.Ensemble.{Readings, quorum}
use Rattle.model.specs.Steps.{accepted_at, estimate, mean, round_of, span_width}
use Rattle.round_laws.proofs.Local.{EqualBelow, EqualRounds, round_local, estimate_local}
use Rattle.round_laws.specs.Naturals.{shifted, spans, accepted_nat, estimate_nat, Even, mean_nat, used_nat}
use Rattle.round_laws.proofs.Shifted.{accepted-shifted, estimate-shifted, mean-down, used-shifted}

-- an accepted reading is present
pub accepted-present : (w : ℕ) (pres : ℕ → Bool) (x : ℕ → ℕ) (need n r : ℕ) → accepted_nat w pres x need n r ≡ true → pres r ≡ true
unfolding accepted_nat
accepted-present w pres x need n r e =
    let s = any_some (λ s. spans w pres x s r && leb need (count (spans w pres x s) n)) n e in
    and_left (pres r) _ (and_right (pres s.0) _ (and_left (spans w pres x s.0 r) _ s.2))

module _ (c : Settings) (D : ℕ) (pres : ℕ → Bool) (x : ℕ → ℕ) where
  -- the accepted cabinets
  abbrev pub acc-of : ℕ → Bool
  acc-of = accepted_nat (span_width c D) pres x (quorum c) c.n

  abbrev pub estimate-of : ℕ → ℕ
  estimate-of k = estimate_nat k c.estimator acc-of c.n x

  -- what cabinet r counts for
  abbrev pub used-of : ℕ → ℕ → ℕ
  used-of k = used_nat acc-of x (estimate-of k)

  -- the new value
  abbrev pub value_of : ℕ → ℕ
  value_of k = mean_nat c.n (total (used-of k) c.n)

  sub : (r : ℕ) → acc-of r ≡ true → pres r ≡ true
  sub r = accepted-present (span_width c D) pres x (quorum c) c.n r

  pub accepted-at : (k r : ℕ) → accepted_at c D (shifted k pres x) r ≡ acc-of r
  unfolding accepted_at
  accepted-at k r = accepted-shifted (span_width c D) pres x k (quorum c) c.n r

  pub count-shifted : (k : ℕ) → (round_of c D (shifted k pres x)).count ≡ count acc-of c.n
  unfolding round_of
  count-shifted k = count_ext (accepted_at c D (shifted k pres x)) acc-of c.n (λ r _. accepted-at k r)

  module _ (k : ℕ) (some-acc : 0 < count acc-of c.n) where
    pub estimate-of-round : (round_of c D (shifted k pres x)).estimate ≡ down k (estimate-of k)
    unfolding round_of
    estimate-of-round =
        estimate_local c.n (shifted k pres x) (shifted k pres x) (accepted_at c D (shifted k pres x)) acc-of (λ r _. accepted-at k r) (λ _ _ _. refl) c.estimator
        ∙ estimate-shifted k pres x acc-of c.n sub some-acc c.estimator

    pub used-of-round : (r : ℕ) → (round_of c D (shifted k pres x)).used r ≡ down k (used-of k r)
    unfolding round_of
    used-of-round r = rw (accepted-at k r, estimate-of-round) (used-shifted k pres x acc-of c.n sub (estimate-of k) r)

    pub value-of-round : 0 < c.n → Even k → (round_of c D (shifted k pres x)).value ≡ down k (value_of k)
    unfolding round_of
    value-of-round h even =
        ap (mean c.n) (sum_ext (round_of c D (shifted k pres x)).used (λ r. down k (used-of k r)) c.n (λ r _. used-of-round r) ∙ sum-down k (used-of k) c.n)
        ∙ mean-down k c.n (total (used-of k) c.n) h even

  -- the same of any readings that agree with these below N
  module _ (v : Readings) (k : ℕ) (same : EqualBelow c.n v (shifted k pres x)) where
    alike : EqualRounds c.n (round_of c D v) (round_of c D (shifted k pres x))
    alike = round_local c D v (shifted k pres x) same

    pub round-count : (round_of c D v).count ≡ count acc-of c.n
    round-count = alike.count ∙ count-shifted k

    pub round-value : 0 < c.n → Even k → 0 < count acc-of c.n → (round_of c D v).value ≡ down k (value_of k)
    round-value h even some-acc = alike.value ∙ value-of-round k some-acc h even

    pub round-estimate : 0 < count acc-of c.n → (round_of c D v).estimate ≡ down k (estimate-of k)
    round-estimate some-acc = alike.estimate ∙ estimate-of-round k some-acc

    pub round-used : 0 < count acc-of c.n → (r : ℕ) → r < c.n → (round_of c D v).used r ≡ down k (used-of k r)
    round-used some-acc r l = alike.used r l ∙ used-of-round k some-acc r
