-- By FCA and CCA: agreement on what is held of a sheet's readings is the sheet's round.
-- Assumes nothing.
use mathlib.Core.Bool.{Bool, true, false, cond, ◌||◌}
use mathlib.Core.List.{List}
use mathlib.Core.Option.{none}
use mathlib.Core.Path.{◌≡◌, refl, sym, ap, ◌∙◌}
use Prim.Native.Nat.{ℕ, zero, suc, ◌+◌, ◌≤◌, ◌<◌}
use native.Mathlib.Nat.{pos_of_ne-zero}
use native.Mathlib.Omega.{arith}
use borrow.Author.Tests.{eq-eqb, ne_eqb}
use lib.Dec.{eqb}
use lib.IntN.{ℤ}
use lib.ListN.{length, get_or}
use Rattle.arithmetic.specs.Naturals.{down, up}
use Rattle.arithmetic.specs.Writing.{table}
use Rattle.arithmetic.specs.Words.{two_to31}
use Rattle.arithmetic.proofs.Writing.{length-table}
use Rattle.model.specs.declared.Settings.{Settings}
use Rattle.model.specs.Ensemble.{Readings, ticks, quorum, max_window, max_spread}
use Rattle.model.specs.RoundSheet.{trims, settings_at}
use Rattle.model.specs.Steps.{span_width, Round, round_of, round_at}
use Rattle.model.specs.Refusals.{first_of, row_checks, bad_spread}
use Rattle.refusal_laws.proofs.Limits.{Limits, spread-most}
use Rattle.round_laws.specs.Naturals.{shift}
use Rattle.round_laws.proofs.Local.{EqualBelow, EqualRounds, rounds_trans, round-by-spans}
use Rattle.held.specs.Held.{value_at, present_in, readings_in}
use Rattle.summaries.specs.Summaries.{far_apart}
use Rattle.estimates.specs.Values.{nothing}
use Rattle.estimates.specs.declared.Estimated.{Estimated}
use Rattle.acceptance.specs.Values.{accepted_in, accepted_count}
use Rattle.acceptance.proofs.Spans.{held-present}
use Rattle.agreement.specs.Values.{mark_at, agreed_marks, agreed_round, agreed_of}
use Rattle.agreement.proofs.Agreeing.{kept_at, kept-present}
use Rattle.agreement.proofs.Holding.{agreed_is, counted_is, near-held}
use Rattle.agreement.proofs.Rounds.{estimate-back, value-back}
use Rattle.reception.specs.Receiving.{reading_at}
use Rattle.answer_writer.specs.Answers.{used_in, round_held}
use Rattle.settling.proofs.Received as received
use Rattle.settling.proofs.Received.{Receives, Written}

-- an accepted reading is used as it is, and the estimate for any other
used-held :
    (here accepted : Bool) (x e : ℕ) (z : ℤ)
    → (accepted ≡ true → here ≡ true)
    → down two_to31 e ≡ z
    → down two_to31 (cond accepted x e) ≡ cond accepted (ticks (shift two_to31 here x)) z
used-held here true x e z f p = sym (ap (λ (b : Bool). ticks (shift two_to31 b x)) (f refl))
used-held here false x e z f p = p

module _ (c : Settings) (D : ℕ) (v : Readings) (marks values : List ℕ) (long : length marks ≡ c.n)
    (same : EqualBelow c.n v (readings_in marks values)) where
  abbrev width : ℕ
  width = span_width c D

  abbrev need : ℕ
  need = quorum c

  -- the round that is agreed on
  abbrev agreed : Round
  agreed = agreed_round width need c.estimator marks values

  module _ (some-acc : 0 < accepted_count width need marks values) (kept : List ℕ)
      (keeps : kept ≡ table (mark_at width need marks values) (length marks)) where
    settled-mark : EqualBelow c.n (λ r. get_or kept r 0) agreed.mark
    settled-mark r l =
        ap (λ (k : List ℕ). get_or k r 0) keeps ∙ kept_at width need marks values r (rw long l)

    settled-used :
        (e : ℕ) → down two_to31 e ≡ agreed.estimate → EqualBelow c.n (used_in kept values e) agreed.used
    settled-used e p r l =
        ap (λ (b : Bool). down two_to31 (cond b (value_at values r) e))
        (ap (λ (k : List ℕ). present_in k r) keeps ∙ kept-present width need marks values r (rw long l))
        ∙ used-held (present_in marks r) (accepted_in width need marks values r) (value_at values r) e agreed.estimate
        (held-present width need marks values r)
        p

    -- the round that is written is the round of the readings
    pub settled-alike :
        EqualRounds c.n
        (round_held agreed.count (up two_to31 agreed.estimate) (up two_to31 agreed.value) kept values)
        (round_of c D v)
    settled-alike =
        let e = estimate-back width need c.estimator marks values some-acc in
        rounds_trans
        (record {
          count = refl;
          estimate = e;
          value = value-back width need c.estimator marks values some-acc;
          mark = settled-mark;
          used = settled-used (up two_to31 agreed.estimate) e;
        })
        (agreed_is c D v marks values long same)

module _ (s : List ℕ) (D : ℕ) (pass : first_of (row_checks s) ≡ none) (spread : bad_spread (settings_at s) D ≡ none)
    (spans : trims (settings_at s).rule ≡ false) where
  abbrev own : Settings
  own = settings_at s

  within : Limits own
  within = received.within s pass

  module _ (marks₀ values₀ marks values kept : List ℕ) (a : Estimated)
      (h : Receives s (settings_at s) marks₀ values₀ marks values)
      (agrees : a ≡ agreed_of (span_width own D) (quorum own) own.estimator marks values)
      (keeps : kept ≡ agreed_marks (span_width own D) (quorum own) marks values) where
    long-here : length marks ≡ own.n
    long-here = received.long-here s pass marks₀ values₀ marks values h

    -- the readings that are accepted
    abbrev counted : ℕ
    counted = accepted_count (span_width own D) (quorum own) marks values

    -- the round that is agreed on
    abbrev here : Round
    here = agreed_round (span_width own D) (quorum own) own.estimator marks values

    -- the round by FCA or CCA
    round_is : round_at s D ≡ round_of own D (reading_at s own)
    unfolding round_at
    round_is = round-by-spans own D (reading_at s own) spans

    counted-here : counted ≡ (round_at s D).count
    counted-here =
        counted_is own (reading_at s own) (received.kept_here s pass marks₀ values₀ marks values h) marks values
        (received.marks-here s pass marks₀ values₀ marks values h)
        (received.values-here s pass marks₀ values₀ marks values h) D
        ∙ ap (λ (r : Round). r.count) (sym round_is)

    abbrev answer : Estimated
    answer = record { count = counted; estimate = up two_to31 here.estimate; value = up two_to31 here.value }

    -- a span is no wider than the widest
    narrow : span_width own D ≤ max_window + max_spread
    narrow = omega (arith, within.window, spread-most own D spread)

    near-here : far_apart (accepted_in (span_width own D) (quorum own) marks values) (length marks) (value_at values) ≡ false
    near-here =
        near-held own (reading_at s own) (received.kept_here s pass marks₀ values₀ marks values h) marks values
        (received.marks-here s pass marks₀ values₀ marks values h)
        (received.values-here s pass marks₀ values₀ marks values h) D within.cabinets
        (omega (arith, within.faults))
        narrow

    agreed-here : a ≡ cond (eqb counted 0 || false) nothing answer
    unfolding agreed_of
    agreed-here = agrees ∙ rw (received.fit-here s pass marks₀ values₀ marks values h, near-here)

    -- where something is counted, the three numbers are those of the round
    agreed-some : (counted ≡ 0 → ⊥) → a ≡ answer
    agreed-some d = agreed-here ∙ rw (ne_eqb counted 0 d)

    nothing-agreed : counted ≡ 0 → a ≡ nothing
    nothing-agreed e = agreed-here ∙ rw (eq-eqb counted 0 e)

    agreed-none : counted ≡ 0 → a.count ≡ 0
    agreed-none e = ap (λ (x : Estimated). x.count) (nothing-agreed e)

    count-some : (a.count ≡ 0 → ⊥) → counted ≡ 0 → ⊥
    count-some d e = d (agreed-none e)

    marks-kept : (a.count ≡ 0 → ⊥) → kept ≡ table (mark_at (span_width own D) (quorum own) marks values) (length marks)
    unfolding agreed_marks
    marks-kept d = keeps ∙ rw (received.fit-here s pass marks₀ values₀ marks values h, ne_eqb counted 0 (count-some d))

    kept-long : (a.count ≡ 0 → ⊥) → length kept ≡ own.n
    kept-long d =
        ap length (marks-kept d)
        ∙ length-table (mark_at (span_width own D) (quorum own) marks values) (length marks)
        ∙ long-here

    count_none : a.count ≡ 0 → (round_at s D).count ≡ 0
    count_none z = go counted refl
      where
        go : (k : ℕ) → counted ≡ k → (round_at s D).count ≡ 0
        go zero e = sym counted-here ∙ e
        go (suc k) e =
            let d : counted ≡ 0 → ⊥ = λ q. absurd (apart k (sym e ∙ q)) in
            absurd (apart k (sym e ∙ sym (ap (λ (x : Estimated). x.count) (agreed-some d)) ∙ z))
          where
            apart : (k : ℕ) → suc k ≡ 0 → ⊥
            apart k q = omega arith

    -- the round that is written
    abbrev round : Round
    round = round_held a.count a.estimate a.value kept values

    alike-here : (a.count ≡ 0 → ⊥) → EqualRounds own.n round (round_at s D)
    unfolding accepted_count
    alike-here d =
        rw (round_is, agreed-some (count-some d))
        (settled-alike own D (reading_at s own) marks values long-here
        (received.same_here s pass marks₀ values₀ marks values h) (pos_of_ne-zero (count-some d)) kept
        (marks-kept d))

    pub agreed-written : Written s D values kept a
    agreed-written = record { none = count_none; long = kept-long; alike = alike-here }
