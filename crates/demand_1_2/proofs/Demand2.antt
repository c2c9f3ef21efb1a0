-- Demand 2 holds: the steps of a round, the planner, "too many faults" and the round trips are as the paper and
-- document 01 say.
-- Assumes nothing.
use mathlib.Core.Bool.{Bool, true, false, cond, ◌&&◌}
use mathlib.Core.List.{List}
use mathlib.Core.Logic.{◌↔◌, inl, inr}
use mathlib.Core.Option.{none}
use mathlib.Core.Path.{◌≡◌, refl, sym, ap, ◌∙◌, subst, subst⁻¹}
use Prim.Native.Nat.{ℕ, ◌+◌, ◌*◌, ◌≤◌, ◌<◌}
use native.Mathlib.Nat.{one-mul, lt_of_not-le}
use native.Mathlib.Omega.{arith}
use borrow.Author.Tests.{eqb-true, eq-eqb, ne_eqb, le-ltb}
use lib.Dec.{eqb}
use lib.IntN.{ℤ}
use lib.ListN.{length}
use Rattle.arithmetic.specs.Counting.{sum}
use Rattle.arithmetic.specs.Writing.{overwrite}
use Rattle.arithmetic.proofs.Bools.{and_left, and_right, and_intro}
use Rattle.model.specs.declared.Settings.{Settings}
use Rattle.model.specs.Ensemble.{missing, present, Readings, quorum}
use Rattle.model.specs.RoundSheet.{cca, median, settings_at, entry_count, entry_at}
use Rattle.model.specs.AnswerSheet.{answer_length, answer_bytes}
use Rattle.model.specs.Steps.{Decision, known_faulty, decided_reading, decide_row, readings_of, Round, round_of, round_at}
use Rattle.model.specs.Planner.{Plan, plan_from, window_factor, next_window, growth, advance, after}
use Rattle.model.specs.Refusals.{Check, first_of, settle_checks, step_checks}
use Rattle.model.specs.Calls.{granted, lent, settle_spread, step}
use Rattle.decision_laws.proofs.Decision.{decided-need, decide_value, decide_none}
use Rattle.decision_laws.proofs.Equality.{missing-present}
use Rattle.decision_laws.proofs.Rows.{reading-decided, read-direct, read-decided}
use Rattle.round_laws.proofs.Local.{round-by-spans}
use Rattle.planner_laws.proofs.Checks.{none-may-step}
use Rattle.planner_laws.proofs.Steps.{plan-granted_check, plan-steps}
use Rattle.planner_laws.proofs.Verdicts.{granted_check}
use Rattle.planner_laws.proofs.Windows.{next_past, next-none}
use Rattle.sheet_laws.proofs.Answer.{answer-cabinets, answer-count, answer-estimate, answer-value, answer-mark, answer-used}
use Rattle.sheet_laws.proofs.Outcomes.{granted-none}
use Rattle.sheet_laws.proofs.RoundTrips.{read-write, write_read}
use Rattle.demand_1_2.specs.Demand2.{Accepted, copies_equal, Decided, Used, Bytes, Shown, PastWhole, Forward}
use Rattle.demand_1_2.specs.Demand2.{PlannedRounds, BySpans, Demand2}
use Rattle.demand_1_2.proofs.Estimated.{estimated}
use Rattle.demand_1_2.proofs.Refused.{too_many-said}
use Rattle.demand_1_2.proofs.Roundings.{mean_nearest_whole, rounded-up, past-whole}
use Rattle.value_laws.proofs.Sheets.{settled-estimate, settled-value, settled-used}
use Rattle.demand_1_2.proofs.Spans.{accepted-span}

-- ---- accepted readings and used values

module _ (c : Settings) (D : ℕ) (v : Readings) where
  accepted : Accepted c D v
  unfolding round_of
  accepted =
      record {
        some_span = accepted-span c D v;
        counted = refl;
        mark_missing = λ r e. rw e;
        mark_accepted = λ r z e a. rw (e, a);
        mark_not_accepted = λ r z e a. rw (e, a);
      }

  used : Used c D v
  unfolding round_of
  used =
      record {
        accepted = λ r a. rw a;
        replaced = λ r a. rw a;
        mean = λ some-n. mean_nearest_whole c.n (sum (round_of c D v).used c.n) some-n;
      }

-- ---- the crusaders decision

module _ (c : Settings) (entry : Readings) (r : ℕ) (three : 3 * c.m + 1 ≤ c.n) where
  abbrev copy : Readings
  copy s = entry (r * c.n + s)

  abbrev row : Decision
  row = decide_row (quorum c) c.n copy

  some-quorum : 0 < quorum c
  some-quorum = omega arith

  most-quorum : c.n < quorum c + quorum c
  most-quorum = omega arith

  module _ (crusaders : c.rule ≡ cca) where
    reads : readings_of c entry r ≡ decided_reading row
    reads = read-decided c entry r (eq-eqb c.rule cca crusaders)

    value : (z : ℤ) → (readings_of c entry r ≡ present z) ↔ (quorum c ≤ copies_equal c entry r z)
    value z = (
      (λ e. decided-need (quorum c) c.n copy z (reading-decided row z (sym reads ∙ e)) some-quorum),
      (λ l. reads ∙ ap decided_reading (decide_value (quorum c) c.n copy z most-quorum l)),
    )

    short : readings_of c entry r ≡ missing → (z : ℤ) → copies_equal c entry r z < quorum c
    short e z = lt_of_not-le (λ l. missing-present (sym e ∙ (value z).1 l))

    known-faulty : (readings_of c entry r ≡ missing) ↔ ((z : ℤ) → copies_equal c entry r z < quorum c)
    known-faulty = (short, (λ f. reads ∙ ap decided_reading (decide_none (quorum c) c.n copy some-quorum f)))

  decision : Decided c entry r
  decision =
      record {
        direct = λ other. read-direct c entry r (ne_eqb c.rule cca other);
        value = value;
        known_faulty = known-faulty;
      }

-- ---- the answer sheet

module _ (s : List ℕ) (D : ℕ) (answer : List ℕ) (small : Bytes s) (size : ℕ)
    (g : (settle_spread s D answer).verdict ≡ granted size) where
  abbrev round : Round
  round = round_at s D

  passed : first_of (settle_checks s D (length answer)) ≡ none
  unfolding settle_spread
  passed = granted-none (first_of (settle_checks s D (length answer))) (answer_length (settings_at s).n) size g

  left : (settle_spread s D answer).buffer ≡ overwrite (answer_bytes (settings_at s).n (round_at s D)) answer
  unfolding settle_spread
  left = ap (λ (x : Check). lent x (overwrite (answer_bytes (settings_at s).n round) answer) answer) passed

  answer-shown : Shown s D (overwrite (answer_bytes (settings_at s).n (round_at s D)) answer)
  answer-shown =
      record {
        cabinets = answer-cabinets (settings_at s).n round answer;
        counted = answer-count (settings_at s).n round answer;
        estimate = answer-estimate (settings_at s).n round answer (settled-estimate s small D answer passed);
        value = answer-value (settings_at s).n round answer (settled-value s small D answer passed);
        mark = answer-mark (settings_at s).n round answer;
        used = λ r l. answer-used (settings_at s).n round answer r l (settled-used s small D answer passed r l);
      }

  shown : Shown s D (settle_spread s D answer).buffer
  shown = subst⁻¹ (Shown s D) left answer-shown

-- ---- the planner

module _ (p : Plan) where
  abbrev c : Settings
  c = p.settings

  by_factor : (f : ℕ) → 0 < c.n → window_factor c ≡ f → (c.m ≡ 0 → ⊥) → (c.window ≡ 0 → ⊥)
      → PastWhole (f * (c.m * c.window)) c.n (next_window c)
  by_factor f some-n e a b =
      rw (next_past c a b, e) (past-whole (f * (c.m * c.window)) c.n some-n)

  factor_two : ((c.rule ≡ cca) × (c.estimator ≡ median) → ⊥) → window_factor c ≡ 2
  unfolding window_factor
  factor_two other = go (eqb c.rule cca && eqb c.estimator median) refl
    where
      go : (b : Bool) → (eqb c.rule cca && eqb c.estimator median) ≡ b → ◌≡◌ {A = ℕ} (cond b 1 2) 2
      go false e = refl
      go true e =
          absurd (other (
            eqb-true c.rule cca (and_left (eqb c.rule cca) _ e),
            eqb-true c.estimator median (and_right (eqb c.rule cca) _ e),
          ))

  factor_one : c.rule ≡ cca → c.estimator ≡ median → window_factor c ≡ 1
  unfolding window_factor
  factor_one a b = rw (and_intro (eq-eqb c.rule cca a) (eq-eqb c.estimator median b))

  advanced : 0 < p.settings.n → Forward p (advance p)
  unfolding advance growth
  advanced some-n =
      record {
        no_faults = λ e. next-none c (inl e);
        no_window = λ e. next-none c (inr e);
        window = λ a b other. by_factor 2 some-n (factor_two other) a b;
        median_window = λ a b i j.
            subst (λ (q : ℕ). PastWhole q c.n (next_window c)) (one-mul (c.m * c.window))
            (by_factor 1 some-n (factor_one i j) a b);
        growth = growth c;
        accuracy = refl;
        share = rounded-up (c.m * c.window) c.n some-n;
        rounds = refl;
        kept = refl;
      }

  forward : (q : Plan) → step p ≡ granted q → Forward p q
  unfolding step
  forward q e =
      let stepped = granted_check (advance p) (first_of (step_checks p)) (sym e) in
      subst⁻¹ (Forward p) stepped.1 (advanced (none-may-step p stepped.0).passes.some_cabinet)

planned : (c : Settings) (κ : ℕ) → PlannedRounds c κ
planned c κ =
    record {
      fresh = λ p e. start p (plan-granted_check c κ 0 (sym e)).1;
      stepwise = plan-steps c κ;
    }
  where
    start : (p : Plan) → p ≡ after 0 (plan_from c κ) → p ≡ plan_from c κ
    start p e = unfold after in e

by-spans :
    (s : List ℕ) (D : ℕ) → BySpans s
    → round_at s D ≡ round_of (settings_at s) D (readings_of (settings_at s) (entry_at s (entry_count (settings_at s))))
unfolding round_at
by-spans s D spans =
    round-by-spans (settings_at s) D (readings_of (settings_at s) (entry_at s (entry_count (settings_at s))))
    (le-ltb cca (settings_at s).rule spans)

-- ---- the statement

pub demand_2 : Demand2
demand_2 =
    record {
      accepted = accepted;
      estimate = estimated;
      decision = decision;
      mean = used;
      round = by-spans;
      shown = shown;
      planned = planned;
      forward = forward;
      too_many_faults = too_many-said;
      read_then_written = λ s marks readings buffer small room c g. read-write s marks readings c small g buffer room;
      written_then_read = λ c marks readings buffer fits size g. write_read c marks readings buffer size fits g;
    }
