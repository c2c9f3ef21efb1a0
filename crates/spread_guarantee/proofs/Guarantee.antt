-- The limits of one round with a spread hold: `spread-guarantee` is the theorem that specs/Guarantee.antt states. A
-- cabinet's readings are moved up into the naturals by an even number, far enough for true time too. The span's width is the window and
-- the spread; with it the laws of one round hold as they are, and what two cabinets read of a good one differs by at
-- most the spread.
-- Assumes nothing.
use mathlib.Core.Bool.{Bool}
use mathlib.Core.Path.{◌≡◌, refl, ap, ◌∙◌, subst, subst⁻¹}
use Prim.Native.Nat.{ℕ, ◌+◌, ◌*◌, ◌%◌, ◌≤◌, ◌<◌}
use native.Mathlib.Nat.{le_refl, lt_of_lt_of_le}
use native.Mathlib.Omega.{arith}
use borrow.Author.Tests.{le-ltb}
use lib.IntN.{ℤ}
use lib.Signed.{mag}
use mir.Syntax.{w32}
use mir.Val.{SFits}
use Rattle.arithmetic.specs.Counting.{count}
use Rattle.arithmetic.specs.Naturals.{down, up}
use Rattle.arithmetic.specs.Words.{two_to31}
use Rattle.arithmetic.proofs.Shift.{down-up}
use Rattle.model.specs.declared.Settings.{Settings}
use Rattle.model.specs.Ensemble.{ticks}
use Rattle.model.specs.RoundSheet.{cca, settings_at}
use Rattle.model.specs.AnswerSheet.{answer_length}
use Rattle.model.specs.Steps.{Round, round_of, round_by, round_at, span_width}
use Rattle.model.specs.Calls.{granted}
use Rattle.refusal_laws.proofs.Limits.{Limits}
use Rattle.round_laws.proofs.Local.{round-by-spans}
use Rattle.value_laws.proofs.Sheets.{readings-fit}
use Rattle.limit_laws.proofs.Settled.{Receiver, value_by, Few, Truth}
use Rattle.limit_laws.proofs.Settled as receiving
use Rattle.limit_laws.proofs.Means.{MeansClose}
use Rattle.limit_laws.proofs.Limits.{unrefused, accuracy-bad, precision-spread}
use Rattle.demand_1_2.proofs.Refused.{passed-limits, passed-granted}
use Rattle.demand_1_2.proofs.Demand2.{demand_2}
use Rattle.demand_3.specs.Guarantee.{apart}
use Rattle.demand_3.proofs.Distances.{dist_above, dist_below, dist_of, fits-mag, even-far, far-most, far-near, far-twice}
use Rattle.demand_3.proofs.Received.{received, received-count, received-value}
use Rattle.spread_guarantee.specs.Guarantee.{Cabinet, reading, settled, new_value, bad, Reads, Alike, spread_parts}
use Rattle.spread_guarantee.specs.Guarantee.{spread_gap, odd_spread_gap, spread_error, SpreadGuarantee}
use Rattle.spread_guarantee.proofs.Rounding.{parts_are}

module _ (c : Settings) (D κ : ℕ) (truth : ℤ) (good : ℕ → Bool) (spans : c.rule ≤ cca)
    (few : bad c good ≤ c.m) where
  -- the span's width
  abbrev w : ℕ
  w = span_width c D

  abbrev far : ℕ
  far = even-far truth

  far-enough : two_to31 ≤ even-far truth
  far-enough = far-most truth

  truth-near : mag truth < even-far truth
  truth-near = far-near truth

  -- ---- one cabinet

  module _ (p : Cabinet) (h : Reads c D κ truth good p) where
    within : Limits c
    within = subst Limits h.settings (passed-limits p.sheet D p.buffer h.passes)

    fits : (r : ℕ) → r < c.n → SFits w32 (ticks (reading p r))
    fits r l = readings-fit p.sheet h.bytes r (subst⁻¹ (λ (d : Settings). r < d.n) h.settings l)

    near : (r : ℕ) → r < c.n → mag (ticks (reading p r)) < far
    near r l = lt_of_lt_of_le (fits-mag (ticks (reading p r)) (fits r l)) far-enough

    -- its readings as naturals
    abbrev has : Receiver
    has = received c (reading p) far

    abbrev value : ℕ
    value = value_by c.n c.m w has

    few_sheets : Few c.n c.m w good has.x
    few_sheets =
        record {
          planned = omega (arith, within.faults);
          few = few;
          close = λ r s lr ls er es.
              dist_above far w (ticks (reading p r)) (ticks (reading p s)) (near r lr) (near s ls)
              (h.precise r s lr ls er es);
        }

    all_read : receiving.Reads c.n good has.x has
    all_read = record { alike = λ r l e here. refl; here = h.present }

    true_time : Truth c.n good has.x (up far truth) κ
    true_time =
        record {
          above = λ r l e. dist_above far κ (ticks (reading p r)) truth (near r l) truth-near (h.accurate r l e);
          below = λ r l e. dist_below far κ (ticks (reading p r)) truth (near r l) truth-near (h.accurate r l e);
        }

    -- the round of its sheet
    round_is : round_at p.sheet D ≡ round_of c D (reading p)
    unfolding round_at
    round_is =
        ap (λ (d : Settings). round_by d D (reading p)) h.settings
        ∙ round-by-spans c D (reading p) (le-ltb cca c.rule spans)

    some-accepted : 0 < (round_of c D (reading p)).count
    some-accepted =
        subst⁻¹ (λ (a : ℕ). 0 < a) (received-count c D w refl (reading p) fits far far-enough)
        (unrefused c.n c.m w good has.x few_sheets has all_read)

    grants : (settled D p).verdict ≡ granted (answer_length (settings_at p.sheet).n)
    grants =
        passed-granted p.sheet D p.buffer h.passes
        (subst⁻¹ (λ (x : Round). 0 < x.count) round_is some-accepted)

    pub no_refusal : (settled D p).verdict ≡ granted (answer_length c.n)
    no_refusal = grants ∙ ap (λ (d : Settings). granted (answer_length d.n)) h.settings

    -- its new value, from the bytes of its answer sheet
    value_is : new_value D p ≡ down far value
    value_is =
        (demand_2.shown p.sheet D p.buffer h.bytes (answer_length (settings_at p.sheet).n) grants).value
        ∙ ap (λ (x : Round). x.value) round_is
        ∙ received-value c D w refl (reading p) fits far far-enough within.some_cabinet (far-twice truth) some-accepted

    pub near-true : apart (new_value D p) truth ≤ spread_error c D κ (bad c good)
    near-true =
        let a = accuracy-bad c.n c.m w good has.x few_sheets has all_read (bad c good) (le_refl (bad c good))
        (up far truth) κ true_time in
        rw value_is
        (subst (λ (t : ℤ). apart (down far value) t ≤ spread_error c D κ (bad c good)) (down-up far truth truth-near)
        (dist_of far (spread_error c D κ (bad c good)) value (up far truth) a.above a.below))

  -- ---- two

  module _ (p q : Cabinet) (hp : Reads c D κ truth good p) (hq : Reads c D κ truth good q) (alike : Alike c D good p q)
    where
      few-bad : bad c good ≤ c.n
      few-bad = omega (arith, (within p hp).faults, few)

      parts : D * c.n + 2 * (bad c good * w) ≡ spread_parts c D (bad c good)
      parts = parts_are c.n (bad c good) c.window D few-bad

      above : MeansClose c.n (value p hp) (value q hq) (spread_parts c D (bad c good))
      above =
          rw (← parts)
          (precision-spread c.n c.m w D good (has p hp).x (has q hq).x (few_sheets p hp) (few_sheets q hq)
          (λ r l e. dist_above far D (ticks (reading p r)) (ticks (reading q r)) (near p hp r l) (near q hq r l) (alike r l e))
          (has p hp) (has q hq) (all_read p hp) (all_read q hq) (bad c good) (le_refl (bad c good)))

      below : MeansClose c.n (value q hq) (value p hp) (spread_parts c D (bad c good))
      below =
          rw (← parts)
          (precision-spread c.n c.m w D good (has q hq).x (has p hp).x (few_sheets q hq) (few_sheets p hp)
          (λ r l e. dist_below far D (ticks (reading p r)) (ticks (reading q r)) (near p hp r l) (near q hq r l) (alike r l e))
          (has q hq) (has p hp) (all_read q hq) (all_read p hp) (bad c good) (le_refl (bad c good)))

      near_by :
          (d : ℕ) → value p hp ≤ value q hq + d → value q hq ≤ value p hp + d → apart (new_value D p) (new_value D q) ≤ d
      near_by d h i = rw (value_is p hp, value_is q hq) (dist_of far d (value p hp) (value q hq) h i)

      pub near-each : apart (new_value D p) (new_value D q) ≤ spread_gap c D (bad c good)
      near-each = near_by (spread_gap c D (bad c good)) above.past below.past

      pub near-odd : c.n % 2 ≡ 1 → apart (new_value D p) (new_value D q) ≤ odd_spread_gap c D (bad c good)
      near-odd odd = near_by (odd_spread_gap c D (bad c good)) (above.odd odd) (below.odd odd)

pub spread-guarantee : SpreadGuarantee
spread-guarantee c D κ truth good spans few =
    record {
      unrefused = no_refusal c D κ truth good spans few;
      precise = near-each c D κ truth good spans few;
      odd = λ odd p q hp hq alike. near-odd c D κ truth good spans few p q hp hq alike odd;
      accurate = near-true c D κ truth good spans few;
    }
