-- Demand 2 of settling: "Where no earlier check refuses, "too many faults" is said when no span as wide as the window
-- holds N-m readings, and never otherwise", by FCA and CCA.
-- Assumes nothing.
use mathlib.Core.Bool.{Bool, true, false, not}
use mathlib.Core.List.{List, [], ◌∷◌, ◌++◌}
use mathlib.Core.Logic.{◌↔◌}
use mathlib.Core.Option.{none, some}
use mathlib.Core.Path.{◌≡◌, refl, sym, ap, ◌∙◌}
use Prim.Native.Nat.{ℕ, ◌*◌, ◌-◌, ◌≤◌, ◌<◌}
use native.Mathlib.Omega.{arith}
use borrow.Author.Tests.{eqb-true, eq-eqb, ne_eqb, le-ltb, ltb-false}
use lib.Dec.{eqb}
use lib.ListN.{length, get_or, get_or-append}
use Rattle.arithmetic.proofs.Bools.{clash, not-true-false}
use Rattle.model.specs.Refusals.{Refusal}
use Rattle.model.specs.declared.Settings.{Settings}
use Rattle.model.specs.Ensemble.{Readings, quorum}
use Rattle.model.specs.RoundSheet.{cca, trims, settings_at, entry_count, entry_at, mark_at, bits_at}
use Rattle.model.specs.AnswerSheet.{answer_length}
use Rattle.model.specs.Steps.{readings_of, trimmed_round, round_by, round_at}
use Rattle.model.specs.Refusals.{refusal, Check, refuse_if, or_next, first_of, no_room, too_many_faults, settings_checks}
use Rattle.model.specs.Refusals.{spread_checks, entry_checks, settle_checks, too_many_faults_number}
use Rattle.model.specs.Calls.{granted, verdict, settle_spread}
use Rattle.refusal_laws.proofs.Checks.{first_snoc, none-at, none_left}
use Rattle.refusal_laws.proofs.Limits.{Limits, limits}
use Rattle.refusal_laws.proofs.Numbers.{no_checks, each, each_at}
use Rattle.sheet_laws.proofs.Checks.{settings-passed}
use Rattle.sheet_laws.proofs.Orders.{spread-passed}
use Rattle.sheet_laws.proofs.Outcomes.{refused-some}
use Rattle.demand_1_2.specs.Demand1.{InOrder}
use Rattle.demand_1_2.specs.Demand2.{Passed, NoSpan, TooManyFaults}
use Rattle.demand_1_2.proofs.Orders.{first-applies, all_pass, entry-order}
use Rattle.demand_1_2.proofs.Demand1.{before-settle}
use Rattle.demand_1_2.proofs.Spans.{too_many-faults}

module _ (s : List ℕ) (D : ℕ) (answer : List ℕ) where
  -- checks 1 to 5, 16, and 6 to 9
  abbrev front : List Check
  front = spread_checks s D ++ (no_room (length answer) (answer_length (settings_at s).n) ∷ entry_checks s)

  -- check 10 comes behind them
  rows : settle_checks s D (length answer) ≡ front ++ (too_many_faults (round_at s D).count ∷ [])
  unfolding settle_checks spread_checks settings_checks entry_checks
  rows = refl

  ten : length front ≡ 10
  unfolding spread_checks settings_checks entry_checks
  ten = refl

  front-order : InOrder (1 ∷ 2 ∷ 3 ∷ 4 ∷ 5 ∷ 16 ∷ 6 ∷ 7 ∷ 8 ∷ 9 ∷ []) front
  unfolding spread_checks settings_checks entry_checks
  front-order =
      entry-order (mark_at s) (bits_at s (entry_count (settings_at s))) (entry_count (settings_at s))
      (before-settle s D answer) no_checks

  front_at : (i : ℕ) → i < 10 → get_or (settle_checks s D (length answer)) i none ≡ get_or front i none
  front_at i l =
      ap (λ (checks : List Check). get_or checks i none) rows
      ∙ get_or-append front (too_many_faults (round_at s D).count ∷ []) none i (rw ten l)

  passed-front : Passed s D answer → first_of front ≡ none
  passed-front pass = all_pass front (λ i l. let k : i < 10 = rw ten at l in sym (front_at i k) ∙ pass i k)

  front-passed : first_of front ≡ none → Passed s D answer
  front-passed h i l = front_at i l ∙ none-at front h i

  first-row : first_of (settle_checks s D (length answer)) ≡ or_next (first_of front) (too_many_faults (round_at s D).count)
  first-row = ap first_of rows ∙ first_snoc front (too_many_faults (round_at s D).count)

  -- a check that says 10 is the last, and it says so where nothing is accepted
  last_says :
      (r : Refusal) → r.number ≡ too_many_faults_number → (x : Check) → first_of front ≡ x
      → or_next x (too_many_faults (round_at s D).count) ≡ some r → (first_of front ≡ none) × ((round_at s D).count ≡ 0)
  unfolding too_many_faults each
  last_says r is_ten none e h = (e, zeroes (eqb (round_at s D).count 0) refl h)
    where
      zeroes : (b : Bool) → eqb (round_at s D).count 0 ≡ b → refuse_if b too_many_faults_number ≡ some r → (round_at s D).count ≡ 0
      zeroes true e h = eqb-true (round_at s D).count 0 e
      zeroes false e h = cc
  last_says r is_ten (some y) e h =
      let first = first-applies front r (e ∙ h) in
      let numbers : List ℕ = 1 ∷ 2 ∷ 3 ∷ 4 ∷ 5 ∷ 16 ∷ 6 ∷ 7 ∷ 8 ∷ 9 ∷ [] in
      let i = first.index in
      let other = each_at (λ n. not (eqb n too_many_faults_number)) numbers refl refl i in
      let number = front-order.says first.index r first.applies in
      clash other (ap not (eq-eqb (get_or numbers i 0) too_many_faults_number (sym number ∙ is_ten)))

  enough : first_of front ≡ none → 0 < quorum (settings_at s)
  enough pass =
      let l = limits (settings_at s) (settings-passed s (spread-passed s D (none_left (spread_checks s D) _ pass)).1) in
      let f = l.faults in
      omega arith

  abbrev own : Settings
  own = settings_at s

  abbrev readings : Readings
  readings = readings_of (settings_at s) (entry_at s (entry_count (settings_at s)))

  -- by FCA and CCA nothing is counted where no span holds enough
  faults : first_of front ≡ none → trims (settings_at s).rule ≡ false → ((round_at s D).count ≡ 0) ↔ NoSpan s D
  unfolding round_at round_by
  faults pass spans = rw spans (too_many-faults own D readings (enough pass))

  -- by rules 2 and 3 something is
  trimmed-some : first_of front ≡ none → trims (settings_at s).rule ≡ true → (round_at s D).count ≡ 0 → ⊥
  unfolding round_at round_by trimmed_round
  trimmed-some pass trimmed z =
      let l = limits own (settings-passed s (spread-passed s D (none_left (spread_checks s D) _ pass)).1) in
      let count : own.n - 2 * own.m ≡ 0 = rw trimmed at z in
      omega (arith, l.faults)

  by-spans : first_of front ≡ none → (round_at s D).count ≡ 0 → trims (settings_at s).rule ≡ false
  by-spans pass z = not-true-false (trims (settings_at s).rule) (λ t. trimmed-some pass t z)

  last-ten : (x : Check) (k : ℕ) → x ≡ none → k ≡ 0 → or_next x (too_many_faults k) ≡ some (refusal too_many_faults_number 0)
  unfolding too_many_faults
  last-ten x k p z = rw (p, eq-eqb k 0 z)

  pub too_many-said : TooManyFaults s D answer
  unfolding settle_spread
  too_many-said =
      record {
        said = λ spans pass none-holds.
            let front-pass = passed-front pass in
            let counted = faults front-pass (le-ltb cca (settings_at s).rule spans) in
            ap (λ (x : Check). verdict x (answer_length (settings_at s).n))
            (first-row ∙ last-ten (first_of front) (round_at s D).count front-pass (counted.1 none-holds));
        never = λ r h is_ten.
            let row = refused-some (first_of (settle_checks s D (length answer))) (answer_length (settings_at s).n) r h in
            let parts = last_says r is_ten (first_of front) refl (sym first-row ∙ row) in
            let spans = by-spans parts.0 parts.1 in
            (ltb-false cca (settings_at s).rule spans, front-passed parts.0, (faults parts.0 spans).0 parts.1);
      }

  -- where the checks before 10 pass, the settings are within their limits, and what accepts a reading is granted
  pub passed-limits : Passed s D answer → Limits (settings_at s)
  passed-limits pass =
      limits (settings_at s)
      (settings-passed s (spread-passed s D (none_left (spread_checks s D) _ (passed-front pass))).1)

  pub passed-granted :
      Passed s D answer → 0 < (round_at s D).count
      → (settle_spread s D answer).verdict ≡ granted (answer_length (settings_at s).n)
  unfolding settle_spread too_many_faults
  passed-granted pass some-acc =
      let some-row = ne_eqb (round_at s D).count 0 (λ e. omega arith) in
      let row : first_of (settle_checks s D (length answer)) ≡ none = first-row ∙ rw (passed-front pass, some-row) in
      ap (λ (x : Check). verdict x (answer_length (settings_at s).n)) row
