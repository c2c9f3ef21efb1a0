-- "Some span [s, f] with s ≤ v ≤ f and f - s ≤ δ holds at least N-m present readings": the definition of acceptance
-- tries spans that start at a reading, and these laws say that it is the same for any span. So "too many faults" is
-- said exactly where no span as wide as the window holds N-m readings.
-- Assumes nothing.
use mathlib.Core.Bool.{Bool, true, ◌&&◌}
use mathlib.Core.Logic.{◌↔◌}
use mathlib.Core.Path.{◌≡◌, refl, sym, ap, ap₂, ◌∙◌, subst}
use Prim.Native.Nat.{ℕ, zero, suc, ◌+◌, ◌≤◌, ◌<◌}
use native.Mathlib.Nat.{le_trans, lt_of_lt_of_le}
use native.Mathlib.Omega.{arith}
use borrow.Author.Tests.{leb-true}
use lib.Dec.{leb}
use lib.IntN.{ℤ, pos, ◌+ℤ◌}
use lib.Signed.{le_z, mag, ◌≤ℤ◌, ≤ℤ_refl}
use Rattle.arithmetic.specs.Counting.{count}
use Rattle.arithmetic.proofs.Bools.{clash, of_t, and_left, and_right}
use Rattle.arithmetic.proofs.Counting.{count_mono, count-some, count-pos, any_some}
use Rattle.arithmetic.proofs.Shift.{down-up, le_down, add_pos-down}
use Rattle.arithmetic.specs.Naturals.{up}
use Rattle.model.specs.declared.Settings.{Settings}
use Rattle.model.specs.Ensemble.{Reading, missing, present, Readings, is_present, ticks, quorum}
use Rattle.model.specs.Steps.{inside, within, accepted, accepted_at, round_of, span_width}
use Rattle.round_laws.proofs.Represent.{reach, reach-above, raise}
use Rattle.value_laws.proofs.Acceptance as A
use Rattle.value_laws.proofs.Acceptance.{span-accepted}
use Rattle.demand_1_2.specs.Demand2.{FullSpan, SpanWith}
use Rattle.demand_1_2.proofs.Represented.{le_up, pres, accepted-up}

module _ (c : Settings) (D : ℕ) (v : Readings) where
  abbrev w : ℕ
  w = span_width c D

  -- ---- from the definition to a span

  span-at :
      (s r : ℕ) (y : Reading) → v s ≡ y
      → (within w y (v r) && leb (quorum c) (count (λ t. within w y (v t)) c.n)) ≡ true → SpanWith c D v r
  span-at s r missing e h = clash h refl
  span-at s r (present a) e h =
      record {
        span =
            record {
              start = a;
              end = a +ℤ pos w;
              narrow = ≤ℤ_refl (a +ℤ pos w);
              enough = leb-true (quorum c) _ (and_right (within w (present a) (v r)) _ h);
            };
        within = and_left (within w (present a) (v r)) _ h;
      }

  pub accepted-holds : (r : ℕ) → accepted_at c D v r ≡ true → SpanWith c D v r
  unfolding accepted accepted_at
  accepted-holds r e =
      let test : ℕ → Bool = λ s. within w (v s) (v r) && leb (quorum c) (count (λ t. within w (v s) (v t)) c.n) in
      let s = any_some test c.n e in
      span-at s.0 r (v s.0) refl s.2

  -- ---- from any span to the definition

  -- far enough for every reading and for the ends of the span
  module _ (r : ℕ) (l : r < c.n) (h : SpanWith c D v r) where
    abbrev s : ℤ
    s = h.span.start

    abbrev f : ℤ
    f = h.span.end

    abbrev k : ℕ
    k = reach v c.n + suc (mag s) + suc (mag f)

    far : reach v c.n ≤ reach v c.n + suc (mag h.span.start) + suc (mag h.span.end)
    far = omega arith

    start-near : mag h.span.start < reach v c.n + suc (mag h.span.start) + suc (mag h.span.end)
    start-near = omega arith

    end-near : mag h.span.end < reach v c.n + suc (mag h.span.start) + suc (mag h.span.end)
    end-near = omega arith

    reading-near : (t : ℕ) → t < c.n → mag (ticks (v t)) < k
    reading-near t i = lt_of_lt_of_le (reach-above v c.n t i) far

    end-le : up k f ≤ up k s + w
    end-le =
        leb-true (up k f) (up k s + w)
        (sym (le_down k (up k f) (up k s + w))
        ∙ ap₂ le_z (down-up k f end-near)
        (sym (add_pos-down k (up k s) w) ∙ ap (λ z. z +ℤ pos w) (down-up k s start-near))
        ∙ of_t (le_z f (s +ℤ pos w)) h.span.narrow.le)

    -- a reading inside the span is inside it as a natural
    inside-up :
        (t : ℕ) (y : Reading) → v t ≡ y → t < c.n → inside s f y ≡ true
        → (is_present y && A.inside_span w (up k s) (up k (ticks y))) ≡ true
    inside-up t missing e i z = z
    inside-up t (present y) e i z =
        let near : mag y < k = subst (λ (x : Reading). mag (ticks x) < k) e (reading-near t i) in
        let low : up k s ≤ up k y =
        leb-true (up k s) (up k y) (sym (le_up k s y start-near near) ∙ and_left (le_z s y) (le_z y f) z) in
        let high : up k y ≤ up k f =
        leb-true (up k y) (up k f) (sym (le_up k y f near end-near) ∙ and_right (le_z s y) (le_z y f) z) in
        A.inside_intro w (up k s) (up k y) low (le_trans high end-le)

    pub holds-accepted : accepted_at c D v r ≡ true
    unfolding accepted_at
    holds-accepted =
        let here = inside-up r (v r) refl l h.within in
        accepted-up v c.n k far w (quorum c) r l
        ∙ span-accepted w (pres v c.n k far) (raise k v) (quorum c) c.n r l (and_left (is_present (v r)) _ here)
        (record {
          start = up k s;
          low = A.inside-low w (up k s) (up k (ticks (v r))) (and_right (is_present (v r)) _ here);
          high = A.inside-high w (up k s) (up k (ticks (v r))) (and_right (is_present (v r)) _ here);
          holds =
              le_trans h.span.enough
              (count_mono (λ t. inside s f (v t))
              (λ t. is_present (v t) && A.inside_span w (up k s) (up k (ticks (v t)))) c.n
              (λ t i z. inside-up t (v t) refl i z));
        })

  -- document 01's words: a reading is accepted exactly where some span as wide as the window holds it and N-m readings
  pub accepted-span : (r : ℕ) → r < c.n → (accepted_at c D v r ≡ true) ↔ SpanWith c D v r
  accepted-span r l = (accepted-holds r, holds-accepted r l)

  -- an accepted cabinet's reading is present
  inside-present : (s f : ℤ) (y : Reading) → inside s f y ≡ true → y ≡ present (ticks y)
  inside-present s f missing h = clash h refl
  inside-present s f (present z) h = refl

  pub accepted-present : (r : ℕ) → accepted_at c D v r ≡ true → v r ≡ present (ticks (v r))
  accepted-present r e = let h = accepted-holds r e in inside-present h.span.start h.span.end (v r) h.within

  -- demand 2's words: no reading is accepted exactly where no span as wide as the window holds N-m readings
  pub too_many-faults : 0 < quorum c → ((round_of c D v).count ≡ 0) ↔ (FullSpan c D v → ⊥)
  unfolding round_of
  too_many-faults some-need = (none, nothing)
    where
      impossible : (k : ℕ) → 0 < k → k ≡ 0 → ⊥
      impossible k h e = omega arith

      none : count (accepted_at c D v) c.n ≡ 0 → FullSpan c D v → ⊥
      none z span =
          let r =
          count-some (λ t. inside span.start span.end (v t)) c.n
          (lt_of_lt_of_le some-need span.enough) in
          impossible (count (accepted_at c D v) c.n)
          (count-pos (accepted_at c D v) c.n r.0 r.1
          (holds-accepted r.0 r.1 (record { span = span; within = r.2 })))
          z

      nothing : (FullSpan c D v → ⊥) → count (accepted_at c D v) c.n ≡ 0
      nothing none-holds = go (count (accepted_at c D v) c.n) refl
        where
          go : (k : ℕ) → count (accepted_at c D v) c.n ≡ k → k ≡ 0
          go zero e = refl
          go (suc k) e =
              let r = count-some (accepted_at c D v) c.n (subst (λ (j : ℕ). 0 < j) (sym e) (omega arith)) in
              absurd (none-holds (accepted-holds r.0 r.2).span)
