-- What a cabinet reads in a round, moved up into the naturals: its round is the round of those naturals, moved down.
-- Assumes nothing.
use mathlib.Core.Path.{◌≡◌, sym, ap, ◌∙◌, subst}
use Prim.Native.Nat.{ℕ, ◌≤◌, ◌<◌}
use native.Mathlib.Nat.{lt_of_lt_of_le}
use mir.Syntax.{w32}
use mir.Val.{SFits}
use Rattle.arithmetic.specs.Counting.{count}
use Rattle.arithmetic.specs.Naturals.{down, up}
use Rattle.arithmetic.specs.Words.{two_to31}
use Rattle.model.specs.declared.Settings.{Settings}
use Rattle.model.specs.Ensemble.{Readings, is_present, ticks}
use Rattle.model.specs.Steps.{round_of, span_width}
use Rattle.round_laws.proofs.Local.{EqualBelow}
use Rattle.round_laws.proofs.Natural.{round-count, round-value}
use Rattle.round_laws.proofs.Represent.{shift-raise}
use Rattle.round_laws.specs.Naturals.{Even, shifted}
use Rattle.limit_laws.proofs.Settled.{Receiver, accepts, value_by}
use Rattle.demand_3.proofs.Distances.{fits-mag}

-- the readings v moved up by k
abbrev pub received : Settings → Readings → ℕ → Receiver
received c v k = record { pres = λ r. is_present (v r); x = λ r. up k (ticks (v r)); k = k; kind = c.estimator }

-- with a span as wide as w
module _ (c : Settings) (D w : ℕ) (wide : span_width c D ≡ w) (v : Readings)
    (fits : (r : ℕ) → r < c.n → SFits w32 (ticks (v r))) (k : ℕ) (far : two_to31 ≤ k) where
  represented : EqualBelow c.n v (shifted k (λ r. is_present (v r)) (λ r. up k (ticks (v r))))
  represented r l = sym (shift-raise k (v r) (lt_of_lt_of_le (fits-mag (ticks (v r)) (fits r l)) far))

  pub received-count : (round_of c D v).count ≡ count (accepts c.n c.m w (received c v k)) c.n
  received-count =
      round-count c D (λ r. is_present (v r)) (λ r. up k (ticks (v r))) v k represented
      ∙ ap (λ (y : ℕ). count (accepts c.n c.m y (received c v k)) c.n) wide

  pub received-value :
      0 < c.n → Even k → 0 < (round_of c D v).count
      → (round_of c D v).value ≡ down k (value_by c.n c.m w (received c v k))
  received-value some-n even some-acc =
      round-value c D (λ r. is_present (v r)) (λ r. up k (ticks (v r))) v k represented some-n even
      (subst (λ (a : ℕ). 0 < a)
      (round-count c D (λ r. is_present (v r)) (λ r. up k (ticks (v r))) v k represented)
      some-acc)
      ∙ ap (λ (y : ℕ). down k (value_by c.n c.m y (received c v k))) wide
