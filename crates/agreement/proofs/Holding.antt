-- Agreement on lists that hold the readings v is the round of v: the accepted count, and the new value moved up.
-- Assumes nothing.
use mathlib.Core.Bool.{false, cond, ◌||◌}
use mathlib.Core.List.{List}
use mathlib.Core.Path.{◌≡◌, refl, sym, ap, ap₂, ◌∙◌, subst}
use Prim.Native.Nat.{ℕ, zero, suc, ◌+◌, ◌*◌, ◌≤◌, ◌<◌}
use native.Mathlib.Omega.{arith}
use borrow.Author.Tests.{le-ltb, eq-eqb, ne_eqb}
use lib.Dec.{eqb}
use lib.ListN.{length, get_or}
use Rattle.arithmetic.specs.Naturals.{up}
use Rattle.arithmetic.specs.Words.{two_to31}
use Rattle.arithmetic.specs.Writing.{table}
use Rattle.arithmetic.proofs.Writing.{length-table, get_d_table}
use Rattle.model.specs.declared.Settings.{Settings}
use Rattle.model.specs.Ensemble.{Readings, quorum, max_cabinets, max_window, max_spread}
use Rattle.model.specs.Steps.{span_width, accepted, accepted_at, estimate, Round, round_with, round_of}
use Rattle.round_laws.specs.Naturals.{shift}
use Rattle.round_laws.proofs.Local.{EqualBelow, EqualRounds, round_local}
use Rattle.held.proofs.Kept.{Kept}
use Rattle.held.specs.Held.{held_mark, held_value, value_at, readings_in, unfit}
use Rattle.summaries.specs.Summaries.{far_apart}
use Rattle.estimates.specs.Values.{nothing}
use Rattle.estimates.specs.declared.Estimated.{Estimated}
use Rattle.acceptance.specs.Values.{accepted_in, accepted_count}
use Rattle.agreement.specs.Values.{agreed_round, agreed_of}
use Rattle.agreement.proofs.Near.{agreed-near}

module _ (c : Settings) (D : ℕ) (v : Readings) (marks values : List ℕ) (long : length marks ≡ c.n)
    (same : EqualBelow c.n v (readings_in marks values)) where
  -- the round that is agreed on
  abbrev pub agreed : Round
  agreed = agreed_round (span_width c D) (quorum c) c.estimator marks values

  -- it is the round of the readings
  pub agreed_is : EqualRounds c.n agreed (round_of c D v)
  unfolding round_of accepted_at accepted_in
  agreed_is =
      subst (λ (r : Round). EqualRounds c.n r (round_of c D v)) (sym here)
      (round_local c D (readings_in marks values) v (λ r l. sym (same r l)))
    where
      of : ℕ → Round
      of n =
          round_with n (readings_in marks values) (accepted (span_width c D) (quorum c) n (readings_in marks values))
          (estimate c.estimator (accepted (span_width c D) (quorum c) n (readings_in marks values)) n
          (readings_in marks values))

      here : agreed ≡ round_of c D (readings_in marks values)
      here = ap of long

-- the lists hold the readings
module _ (c : Settings) (v : Readings)
    (kept : (r : ℕ) → r < c.n → Kept (v r))
    (marks values : List ℕ)
    (marked : marks ≡ table (λ r. held_mark (v r)) c.n)
    (valued : values ≡ table (λ r. held_value (v r)) c.n) where
  pub marks-long : length marks ≡ c.n
  marks-long = ap length marked ∙ length-table (λ r. held_mark (v r)) c.n

  pub values-long : length values ≡ c.n
  values-long = ap length valued ∙ length-table (λ r. held_value (v r)) c.n

  -- what is held of each reading is the reading
  pub same-held : EqualBelow c.n v (readings_in marks values)
  same-held r l =
      sym
      (ap₂ (λ (x y : ℕ). shift two_to31 (eqb x 1) y)
      (ap (λ (k : List ℕ). get_or k r 0) marked ∙ get_d_table (λ r. held_mark (v r)) c.n r 0 l)
      (ap (λ (k : List ℕ). get_or k r 0) valued ∙ get_d_table (λ r. held_value (v r)) c.n r 0 l)
      ∙ kept r l)

  pub fit-held : c.n ≤ max_cabinets → unfit (length marks) (length values) ≡ false
  fit-held few =
      rw (marks-long, values-long, le-ltb max_cabinets c.n few, eq-eqb c.n c.n refl)

  -- with a spread
  module _ (D : ℕ) where
    abbrev counted : ℕ
    counted = accepted_count (span_width c D) (quorum c) marks values

    pub counted_is : counted ≡ (round_of c D v).count
    unfolding accepted_count
    counted_is = (agreed_is c D v marks values marks-long same-held).count

    -- at most 64, of which more than half must agree, in a span that is no wider than the widest
    module _ (few : c.n ≤ max_cabinets) (most : c.n < 2 * quorum c) (narrow : span_width c D ≤ max_window + max_spread) where
      pub near-held :
          far_apart (accepted_in (span_width c D) (quorum c) marks values) (length marks) (value_at values) ≡ false
      near-held = agreed-near (span_width c D) (quorum c) marks values (rw marks-long most) narrow

      abbrev given : Estimated
      given = agreed_of (span_width c D) (quorum c) c.estimator marks values

      pub agreed-count : given.count ≡ (round_of c D v).count
      unfolding agreed_of
      agreed-count = rw (fit-held few, near-held) (go counted refl)
        where
          go :
              (k : ℕ) → counted ≡ k
              → (cond (eqb k 0 || false) nothing
              (record {
                count = counted;
                estimate = up two_to31 (agreed c D v marks values marks-long same-held).estimate;
                value = up two_to31 (agreed c D v marks values marks-long same-held).value;
              })).count
              ≡ (round_of c D v).count
          go zero e = sym e ∙ counted_is
          go (suc k) e = rw (ne_eqb (suc k) 0 (λ h. omega arith)) counted_is

      pub agreed-value : ((round_of c D v).count ≡ 0 → ⊥) → given.value ≡ up two_to31 (round_of c D v).value
      unfolding agreed_of
      agreed-value d =
          rw (fit-held few, near-held, ne_eqb counted 0 (λ h. d (sym counted_is ∙ h)))
          (ap (up two_to31) (agreed_is c D v marks values marks-long same-held).value)
