-- The planner's loops: after k turns the plan is the start k rounds on, each turn's step is granted, and what the loop
-- for a target answers is right.
-- Assumes nothing.
use mathlib.Core.Option.{none}
use mathlib.Core.Path.{◌≡◌, sym, ap, subst, ◌∙◌}
use Prim.Native.Nat.{ℕ, ◌+◌, ◌≤◌, ◌<◌}
use native.Mathlib.Omega.{arith}
use Rattle.std.proofs.Common.{add-one}
use Rattle.model.specs.declared.Settings.{Settings}
use Rattle.model.specs.Planner.{Plan, plan_from, advance, after, window_after, max_rounds, max_step_accuracy}
use Rattle.model.specs.Refusals.{refusal, first_of, planner_checks, plan_checks, target_missed_number}
use Rattle.model.specs.Calls.{granted, refused, Target}
use Rattle.refusal_laws.proofs.Limits.{planner_pass}
use Rattle.planner_laws.proofs.Checks.{MayStep, none-may-start}
use Rattle.planner_laws.proofs.Steps.{may-step-after}
use Rattle.planner_laws.proofs.Targets.{target-missed, target-reached}

-- no turn: a plan with no round done is a fresh one
pub no_turn : (p : Plan) → p.rounds ≡ 0 → p ≡ after 0 (plan_from p.settings p.accuracy)
unfolding after
no_turn p e = ap (λ (j : ℕ). record { settings = p.settings; accuracy = p.accuracy; rounds = j }) e

module _ (c : Settings) (κ k : ℕ) {q : Plan} (e : q ≡ after k (plan_from c κ)) where
  -- one turn more
  pub turn : {r : Plan} → r ≡ advance q → r ≡ after (k + 1) (plan_from c κ)
  unfolding after
  turn d = rw add-one (d ∙ ap advance e)

  -- the next turn's step is granted
  module _ (j : ℕ) (s : first_of (plan_checks c κ j) ≡ none) (l : k < max_rounds) where
    may_step : MayStep q
    may_step =
        let start = none-may-start c κ j s in
        subst MayStep (sym e) (may-step-after (plan_from c κ) k start.passes start.accurate (omega arith))

    pub turn_passes : first_of (planner_checks q.settings) ≡ none
    turn_passes = planner_pass q.settings may_step.passes

    pub turn_early : (q.rounds < max_rounds) × (q.accuracy ≤ max_step_accuracy)
    turn_early = (may_step.early, may_step.accurate)

  module _ (target : ℕ) (s : first_of (plan_checks c κ 0) ≡ none) (l : k ≤ max_rounds) where
    window_is : q.settings.window ≡ window_after k c κ
    window_is = ap (λ (p : Plan). p.settings.window) e

    pub turn-missed : max_rounds ≤ k → target < q.settings.window
        → Target c κ target (refused (refusal target_missed_number 0))
    turn-missed h m =
        let last : k ≡ max_rounds = omega arith in
        let window = window_is ∙ ap (λ (j : ℕ). window_after j c κ) last in
        target-missed c κ target s (omega arith)

    pub turn-reached : q.settings.window ≤ target → Target c κ target (granted k)
    turn-reached h =
        let window = window_is in
        target-reached c κ target s k l (omega arith)
