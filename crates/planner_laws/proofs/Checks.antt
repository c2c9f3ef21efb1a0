-- What it means that no check of a call refuses, as facts of numbers.
-- Assumes nothing.
use mathlib.Core.Bool.{Bool, false, ◌||◌}
use mathlib.Core.List.{[], ◌∷◌, ◌++◌}
use mathlib.Core.Option.{none}
use mathlib.Core.Path.{◌≡◌, ◌∙◌}
use Prim.Native.Nat.{ℕ, ◌≤◌, ◌<◌}
use lib.Dec.{ltb, leb}
use borrow.Author.Tests.{ltb-false, leb-false, le-ltb, lt-leb}
use Rattle.arithmetic.proofs.Bools.{or_false, or_left, or_right}
use Rattle.model.specs.declared.Settings.{Settings}
use Rattle.model.specs.Planner.{Plan, max_accuracy, max_rounds, max_step_accuracy}
use Rattle.model.specs.Refusals.{first_of, planner_checks, plan_checks, step_checks, bad_plan, bad_plan_number}
use Rattle.refusal_laws.proofs.Checks.{first_snoc, none-at, none_left, none_right, when_none}
use Rattle.refusal_laws.proofs.Limits.{Planned, planner_limits, planner_pass}

-- checks 2 to 5, and then 11
module _ (c : Settings) (fails : Bool) where
  none_eleven : first_of (planner_checks c ++ (bad_plan fails ∷ [])) ≡ none → Planned c × (fails ≡ false)
  unfolding bad_plan
  none_eleven e =
      let eleven = none-at (bad_plan fails ∷ []) (none_right (planner_checks c) (bad_plan fails ∷ []) e) 0 in
      (planner_limits c (none_left (planner_checks c) (bad_plan fails ∷ []) e), when_none fails bad_plan_number eleven)

  eleven_none : Planned c → fails ≡ false → first_of (planner_checks c ++ (bad_plan fails ∷ [])) ≡ none
  unfolding bad_plan
  eleven_none p t = first_snoc (planner_checks c) (bad_plan fails) ∙ (rw (planner_pass c p, t))

-- a start that the planner grants for k rounds
pub record MayStart (c : Settings) (κ k : ℕ) : Type 0 where
  pub passes : Planned c
  pub accurate : κ ≤ max_accuracy
  pub few : k ≤ max_rounds

module _ (c : Settings) (κ k : ℕ) where
  pub none-may-start : first_of (plan_checks c κ k) ≡ none → MayStart c κ k
  unfolding plan_checks
  none-may-start e =
      let parts = none_eleven c (ltb max_accuracy κ || ltb max_rounds k) e in
      record {
        passes = parts.0;
        accurate = ltb-false max_accuracy κ (or_left (ltb max_accuracy κ) (ltb max_rounds k) parts.1);
        few = ltb-false max_rounds k (or_right (ltb max_accuracy κ) (ltb max_rounds k) parts.1);
      }

  pub may-start-none : MayStart c κ k → first_of (plan_checks c κ k) ≡ none
  unfolding plan_checks
  may-start-none s =
      let accurate = le-ltb max_accuracy κ s.accurate in
      eleven_none c _ s.passes (or_false accurate (le-ltb max_rounds k s.few))

-- a plan whose step is granted
pub record MayStep (p : Plan) : Type 0 where
  pub passes : Planned p.settings
  pub early : p.rounds < max_rounds
  pub accurate : p.accuracy ≤ max_step_accuracy

module _ (p : Plan) where
  pub none-may-step : first_of (step_checks p) ≡ none → MayStep p
  unfolding step_checks
  none-may-step e =
      let late = leb max_rounds p.rounds in
      let wide = ltb max_step_accuracy p.accuracy in
      let parts = none_eleven p.settings (late || wide) e in
      record {
        passes = parts.0;
        early = leb-false max_rounds p.rounds (or_left late wide parts.1);
        accurate = ltb-false max_step_accuracy p.accuracy (or_right late wide parts.1);
      }

  pub may-step-none : MayStep p → first_of (step_checks p) ≡ none
  unfolding step_checks
  may-step-none s =
      let early = lt-leb max_rounds p.rounds s.early in
      let accurate = le-ltb max_step_accuracy p.accuracy s.accurate in
      eleven_none p.settings _ s.passes (or_false early accurate)
