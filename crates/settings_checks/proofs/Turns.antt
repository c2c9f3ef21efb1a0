-- Checks 2 to 5, each by its test, one after the other.
-- Assumes nothing.
use Rattle.std.proofs.Common.{◌≡◌, refl, ◌||◌, ◌+◌, ◌*◌, eqb, ltb}
use Rattle.std.proofs.Math.Option.{none}
use Rattle.model.specs.declared.Settings.{Settings}
use Rattle.model.specs.Ensemble.{max_cabinets, max_window}
use Rattle.model.specs.Refusals.{Check, refuse_if, or_next, first_of, settings_checks, unknown_method}
use Rattle.model.specs.Refusals.{bad_cabinets, bad_faults, bad_method, bad_window}
use Rattle.model.specs.Refusals.{bad_cabinets_number, bad_faults_number, bad_method_number, bad_window_number}

pub in_turn :
    (c : Settings)
    → first_of (settings_checks c)
    ≡ or_next (refuse_if (eqb c.n 0 || ltb max_cabinets c.n) bad_cabinets_number)
    (or_next (refuse_if (ltb c.n (3 * c.m + 1)) bad_faults_number)
    (or_next (refuse_if (unknown_method c.rule c.estimator) bad_method_number)
    (or_next (refuse_if (ltb max_window c.window) bad_window_number) none)))
unfolding settings_checks first_of bad_cabinets bad_faults bad_method bad_window
in_turn c = refl
