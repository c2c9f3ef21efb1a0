-- Checks 2 to 5 of a plan's settings, and then 11.
-- Assumes nothing.
use Rattle.std.proofs.Common.{◌≡◌, Bool, refl, ap, ◌∙◌, [], ◌∷◌}
use Rattle.model.specs.declared.Settings.{Settings}
use Rattle.model.specs.Refusals.{Check, refuse_if, or_next, first_of, planner_checks, planning_checks, bad_plan, bad_plan_number}
use Rattle.refusal_laws.proofs.Checks.{first_append, next-none}

pub in_turn :
    (c : Settings) (fails : Bool)
    → first_of (planning_checks c fails) ≡ or_next (first_of (planner_checks c)) (refuse_if fails bad_plan_number)
unfolding first_of bad_plan
in_turn c fails =
    first_append (planner_checks c) (bad_plan fails ∷ [])
    ∙ ap (or_next (first_of (planner_checks c))) (next-none (bad_plan fails))
