-- What a plan may not have is what no sheet has.
use Rattle.std.proofs.Common.{ap, ◌∙◌, Bool, [], ◌∷◌}
use Rattle.model.specs.Refusals.{first_of, refuse_if, settings_checks, planner_checks, bad_method_number}
use Rattle.model.specs.Refusals.{bad_cabinets, bad_faults, bad_method, unplanned, bad_window}
use Rattle.settings_checks.proofs.screen_plan.Goals as goal

pub returns : goal.returns
unfolding settings_checks planner_checks bad_cabinets bad_faults bad_method unplanned bad_window
returns c =
    let s = c.args.settings in
    c.screen.ensures
    ∙ ap (λ (b : Bool). first_of (bad_cabinets s ∷ bad_faults s ∷ refuse_if b bad_method_number ∷ bad_window s ∷ []))
    (c.planned_rule.ensures s.estimator)
