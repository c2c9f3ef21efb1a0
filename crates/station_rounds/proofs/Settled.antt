-- What a sound cabinet's settling gives, on plain values: it meets too many faults where its round accepts nothing, and
-- else its value is the round's, moved up. What is held of a reading that is heard is the reading.
-- Assumes nothing.
use mathlib.Core.Bool.{Bool, true, false, cond}
use mathlib.Core.List.{List}
use mathlib.Core.Path.{◌≡◌, sym, ap, ◌∙◌}
use Prim.Native.Nat.{ℕ, ◌+◌, ◌*◌, ◌-◌, ◌≤◌, ◌<◌}
use native.Mathlib.Nat.{add-zero}
use native.Mathlib.Omega.{arith}
use borrow.Author.Tests.{eq-eqb, ne_eqb, le-leb, lt-ltb}
use lib.Dec.{eqb}
use lib.ListN.{length, get_or}
use Rattle.arithmetic.specs.Naturals.{down}
use Rattle.arithmetic.specs.Words.{two_to31}
use Rattle.arithmetic.specs.Writing.{table}
use Rattle.arithmetic.proofs.Bools.{and_intro, clash}
use Rattle.arithmetic.proofs.Counting.{lowest-none, lowest-some}
use Rattle.model.specs.declared.Settings.{Settings}
use Rattle.model.specs.Ensemble.{present, Readings, max_cabinets, max_window, max_spread, quorum}
use Rattle.model.specs.Steps.{span_width}
use Rattle.model.specs.RoundSheet.{byte, word}
use Rattle.sheet_laws.proofs.Words.{word_fits}
use Rattle.held.specs.Held.{entry_reading, held_mark, held_value}
use Rattle.held.proofs.Held.{reading-held}
use Rattle.held.proofs.Kept.{Kept, entry_kept}
use Rattle.estimates.specs.declared.Estimated.{Estimated}
use Rattle.agreement.specs.Values.{agreed_of}
use Rattle.agreement.proofs.Holding.{agreed-count, agreed-value}
use Rattle.hearing.specs.Heard.{heard_from, audible, marks_heard, values_heard}
use Rattle.station_rounds.specs.Rounds.{heard_round, meets_too_many, next_value, place_of, first_refused}
use Rattle.station_rounds.specs.Settling.{Fits}

-- ---- what is held of a reading that is heard is the reading

module _ (roles held sent readings : List ℕ) (small : (j : ℕ) → byte readings j < 256) (p r : ℕ) where
  heard-kept : Kept (heard_from roles held sent readings p r)
  heard-kept = go (eqb (get_or roles r 0) 1)
    where
      e : ℕ
      e = r * length roles + p

      go :
          (b : Bool)
          → Kept (cond b (present (down two_to31 (get_or held r 0))) (entry_reading (byte sent e) (word readings (4 * e))))
      go true = reading-held (get_or held r 0)
      go false = entry_kept (eqb (byte sent e) 1) (word readings (4 * e)) (word_fits readings (4 * e) small)

-- ---- one cabinet

module _ (c : Settings) (roles held sent readings : List ℕ) (p : ℕ) where
  pub faulty-passes : (get_or roles p 0 ≡ 1 → ⊥) → false ≡ meets_too_many c roles held sent readings p
  unfolding meets_too_many
  faulty-passes d = rw (ne_eqb (get_or roles p 0) 1 d)

  pub faulty-zero : (get_or roles p 0 ≡ 1 → ⊥) → 0 ≡ next_value c roles held sent readings p
  unfolding next_value
  faulty-zero d = rw (ne_eqb (get_or roles p 0) 1 d)

  module _ (marks₀ values₀ : List ℕ) (fits : Fits c roles held sent readings (length marks₀) (length values₀))
      (small : (j : ℕ) → byte readings j < 256) (here : p < length roles) (sound : get_or roles p 0 ≡ 1)
      (marks values : List ℕ)
      (marked : marks ≡ marks_heard roles held sent readings p marks₀ values₀)
      (valued : values ≡ values_heard roles held sent readings p marks₀ values₀)
      (a : Estimated)
      (agrees : a ≡ agreed_of c.window (c.n - c.m) c.estimator marks values) where
    sized :
        audible (length roles) (length held) (length sent) (length readings) p (length marks₀) (length values₀) ≡ true
    unfolding audible
    sized =
        and_intro (and_intro (le-leb (length roles) max_cabinets fits.few) (lt-ltb p (length roles) here))
        (and_intro
        (and_intro
        (and_intro (eq-eqb (length held) (length roles) fits.values-held)
        (eq-eqb (length sent) (length roles * length roles) fits.pairs))
        (eq-eqb (length readings) (4 * (length roles * length roles)) fits.bytes))
        (and_intro (eq-eqb (length marks₀) (length roles) fits.mark-room)
        (eq-eqb (length values₀) (length roles) fits.value_room)))

    heard : Readings
    heard = heard_from roles held sent readings p

    marks-are : marks ≡ table (λ r. held_mark (heard_from roles held sent readings p r)) c.n
    unfolding marks_heard
    marks-are =
        marked ∙ rw sized
        (ap (table (λ r. held_mark (heard_from roles held sent readings p r))) (sym fits.cabinets))

    values-are : values ≡ table (λ r. held_value (heard_from roles held sent readings p r)) c.n
    unfolding values_heard
    values-are =
        valued ∙ rw sized
        (ap (table (λ r. held_value (heard_from roles held sent readings p r))) (sym fits.cabinets))

    few : c.n ≤ max_cabinets
    few = rw fits.cabinets fits.few

    most : c.n < 2 * quorum c
    most = omega (arith, fits.cabinets, fits.faults)

    narrow : span_width c 0 ≤ max_window + max_spread
    narrow = omega (arith, fits.narrow)

    -- without a spread the span is as wide as the window
    agrees-wide : a ≡ agreed_of (span_width c 0) (quorum c) c.estimator marks values
    agrees-wide =
        agrees
        ∙ ap (λ (w : ℕ). agreed_of w (quorum c) c.estimator marks values) (sym (add-zero c.window))

    count_is : a.count ≡ (heard_round c roles held sent readings p).count
    count_is =
        ap (λ (x : Estimated). x.count) agrees-wide
        ∙ agreed-count c (heard_from roles held sent readings p)
        (λ r l. heard-kept roles held sent readings small p r) marks values marks-are values-are 0 few most narrow

    pub sound-meets : eqb a.count 0 ≡ meets_too_many c roles held sent readings p
    unfolding meets_too_many
    sound-meets = rw (eq-eqb (get_or roles p 0) 1 sound) (ap (λ (k : ℕ). eqb k 0) count_is)

    pub sound-value : eqb a.count 0 ≡ false → a.value ≡ next_value c roles held sent readings p
    unfolding next_value
    sound-value h =
        rw (eq-eqb (get_or roles p 0) 1 sound)
        (ap (λ (x : Estimated). x.value) agrees-wide
        ∙ agreed-value c (heard_from roles held sent readings p)
        (λ r l. heard-kept roles held sent readings small p r) marks values marks-are values-are 0 few most narrow
        (λ z. clash (eq-eqb a.count 0 (count_is ∙ z)) h))

-- ---- the first that meets too many faults

module _ (c : Settings) (roles held sent readings : List ℕ) (r : ℕ)
    (passed : (p : ℕ) → p < r → meets_too_many c roles held sent readings p ≡ false) where
  pub first-refused :
      r < length roles → meets_too_many c roles held sent readings r ≡ true → r ≡ first_refused c roles held sent readings
  unfolding first_refused
  first-refused l m =
      ap (place_of c roles held sent readings)
      (sym (lowest-some (meets_too_many c roles held sent readings) (length roles) r l m passed))

  pub none-refused : length roles ≤ r → r ≤ length roles → r ≡ first_refused c roles held sent readings
  unfolding first_refused
  none-refused l h =
      let none-meets = lowest-none (meets_too_many c roles held sent readings) (length roles)
      (λ p k. passed p (omega arith)) in
      omega (arith, ap (place_of c roles held sent readings) none-meets)
