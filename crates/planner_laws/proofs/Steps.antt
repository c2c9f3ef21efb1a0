-- Going k rounds at once is k steps, each granted: a start that is granted never meets the step's refusal within 32
-- rounds.
-- Assumes nothing.
use mathlib.Core.Option.{none, some}
use mathlib.Core.Path.{◌≡◌, refl, sym, ap, ◌∙◌}
use Prim.Native.Nat.{ℕ, zero, suc, ◌+◌, ◌≤◌, ◌<◌}
use borrow.Author.Tests.{le-ltb}
use native.Mathlib.Omega.{arith}
use Rattle.model.specs.declared.Settings.{Settings}
use Rattle.model.specs.Refusals.{Refusal}
use Rattle.model.specs.Planner.{Plan, plan_from, advance, after, max_accuracy, max_rounds}
use Rattle.model.specs.Refusals.{Check, first_of, plan_checks, step_checks}
use Rattle.model.specs.Calls.{granted, refused, verdict, plan, step}
use Rattle.planner_laws.specs.Stepping.{then_step, steps}
use Rattle.refusal_laws.proofs.Limits.{Planned}
use Rattle.planner_laws.proofs.Checks.{MayStep, none-may-start, may-step-none}
use Rattle.planner_laws.proofs.Rounds.{rounds-after}
use Rattle.planner_laws.proofs.Verdicts.{granted_check, refused_check}
use Rattle.planner_laws.proofs.Windows.{passes-after, accuracy-after-le}

-- up to 32 the number of rounds decides nothing
plan-checks-rounds : (c : Settings) (κ k : ℕ) → k ≤ max_rounds → plan_checks c κ k ≡ plan_checks c κ 0
unfolding plan_checks
plan-checks-rounds c κ k l = rw (le-ltb max_rounds k l)

-- an accuracy that may start allows every step within 32 rounds
pub may-step-after : (p : Plan) (k : ℕ) → Planned p.settings → p.accuracy ≤ max_accuracy → p.rounds + k < max_rounds
    → MayStep (after k p)
may-step-after p k s h l =
    let r = rounds-after k p in
    let a = accuracy-after-le k p s in
    record { passes = passes-after k p s; early = omega arith; accurate = omega arith }

-- a start that is granted never meets the step's refusal within 32 rounds
start-step-passes : (c : Settings) (κ k : ℕ) → first_of (plan_checks c κ 0) ≡ none → k < max_rounds
    → first_of (step_checks (after k (plan_from c κ))) ≡ none
start-step-passes c κ k e l =
    let s = none-may-start c κ 0 e in
    may-step-none (after k (plan_from c κ)) (may-step-after (plan_from c κ) k s.passes s.accurate (omega arith))

-- ---- what the calls give

-- each is its first check's refusal, or grants
pub plan-by_check : (c : Settings) (κ k : ℕ) {check : Check} → first_of (plan_checks c κ k) ≡ check
    → plan c κ k ≡ verdict check (after k (plan_from c κ))
unfolding plan
plan-by_check c κ k e = ap (λ (check : Check). verdict check (after k (plan_from c κ))) e

pub step-by_check : (p : Plan) {check : Check} → first_of (step_checks p) ≡ check → step p ≡ verdict check (advance p)
unfolding step
step-by_check p e = ap (λ (check : Check). verdict check (advance p)) e

-- no step of a start that is granted refuses within 32 rounds
pub start-step-granted : (c : Settings) (κ k : ℕ) → first_of (plan_checks c κ 0) ≡ none → k < max_rounds
    → step (after k (plan_from c κ)) ≡ granted (after (suc k) (plan_from c κ))
unfolding after
start-step-granted c κ k e l = step-by_check (after k (plan_from c κ)) (start-step-passes c κ k e l)

-- what a call gives tells which
pub plan-granted_check : (c : Settings) (κ k : ℕ) {p : Plan} → granted p ≡ plan c κ k
    → (first_of (plan_checks c κ k) ≡ none) × (p ≡ after k (plan_from c κ))
unfolding plan
plan-granted_check c κ k e = granted_check (after k (plan_from c κ)) (first_of (plan_checks c κ k)) e

pub plan-refused_check : (c : Settings) (κ k : ℕ) {r : Refusal} → refused r ≡ plan c κ k
    → first_of (plan_checks c κ k) ≡ some r
unfolding plan
plan-refused_check c κ k e = refused_check (after k (plan_from c κ)) (first_of (plan_checks c κ k)) e

-- ---- going k rounds at once is k steps

-- one round more is one step more, whether the start is granted or refused
pub plan-suc : (c : Settings) (κ k : ℕ) → k < max_rounds → plan c κ (suc k) ≡ then_step (plan c κ k)
unfolding after
plan-suc c κ k l = go (first_of (plan_checks c κ 0)) refl
  where
    at : (j : ℕ) {check : Check} → j ≤ max_rounds → first_of (plan_checks c κ 0) ≡ check
        → plan c κ j ≡ verdict check (after j (plan_from c κ))
    at j h e = plan-by_check c κ j (ap first_of (plan-checks-rounds c κ j h) ∙ e)

    go : (check : Check) → first_of (plan_checks c κ 0) ≡ check → plan c κ (suc k) ≡ then_step (plan c κ k)
    go none e =
        at (suc k) l e
        ∙ sym (start-step-granted c κ k e l)
        ∙ sym (ap then_step (at k (omega arith) e))
    go (some r) e = at (suc k) l e ∙ sym (ap then_step (at k (omega arith) e))

pub plan-steps : (c : Settings) (κ k : ℕ) → k ≤ max_rounds → plan c κ k ≡ steps k (plan c κ 0)
unfolding steps
plan-steps c κ zero l = refl
plan-steps c κ (suc k) l = plan-suc c κ k l ∙ ap then_step (plan-steps c κ k (omega arith))
