-- What settings that pass checks 2 to 5 are, of a sheet or of a plan: the limits of N, m, rule, estimator and window, and
-- of the number of entries.
-- Assumes nothing.
use mathlib.Core.Bool.{Bool, true, false, cond, ◌||◌}
use mathlib.Core.List.{List, [], ◌∷◌}
use mathlib.Core.Option.{none}
use mathlib.Core.Path.{◌≡◌}
use Prim.Native.Nat.{ℕ, ◌+◌, ◌*◌, ◌≤◌}
use native.Mathlib.Nat.{mul-le-mul}
use native.Mathlib.Omega.{arith}
use borrow.Author.Tests.{ltb-false, le-ltb, ne_eqb}
use lib.Dec.{ltb, eqb}
use Rattle.arithmetic.proofs.Bools.{or_false, or_left, or_right}
use Rattle.model.specs.declared.Settings.{Settings}
use Rattle.model.specs.RoundSheet.{entry_count, cca, trimmed_mean, trims, midpoint}
use Rattle.model.specs.Refusals.{Check, refuse_if, first_of, settings_checks, planner_checks, bad_cabinets, bad_faults, bad_method, unplanned}
use Rattle.model.specs.Refusals.{bad_window, unknown_method, unplanned_method, bad_spread, unfit_spread}
use Rattle.model.specs.Refusals.{bad_cabinets_number, bad_faults_number, bad_method_number, bad_window_number, bad_spread_number}
use Rattle.model.specs.Ensemble.{max_cabinets, max_window, max_spread}
use Rattle.refusal_laws.proofs.Checks.{none-at, when_none}

-- settings within document 01's limits, by what is said of the rule and the estimator
pub record LimitsBy (unknown : ℕ → ℕ → Bool) (c : Settings) : Type 0 where
  pub some_cabinet : 1 ≤ c.n
  pub cabinets : c.n ≤ max_cabinets
  pub faults : 3 * c.m + 1 ≤ c.n
  pub method : unknown c.rule c.estimator ≡ false
  pub window : c.window ≤ max_window

-- those of a sheet, and those of a plan
abbrev pub Limits : Settings → Type 0
Limits c = LimitsBy unknown_method c

abbrev pub Planned : Settings → Type 0
Planned c = LimitsBy unplanned_method c

module _ (unknown : ℕ → ℕ → Bool) (c : Settings) where
  -- checks 2 to 5
  abbrev checks-by : List Check
  checks-by =
      bad_cabinets c ∷ bad_faults c ∷ refuse_if (unknown c.rule c.estimator) bad_method_number ∷ bad_window c ∷ []

  limits-by : first_of checks-by ≡ none → LimitsBy unknown c
  unfolding bad_cabinets bad_faults bad_window
  limits-by h =
      let cabinets = when_none (eqb c.n 0 || ltb max_cabinets c.n) bad_cabinets_number (none-at checks-by h 0) in
      let faults = when_none (ltb c.n (3 * c.m + 1)) bad_faults_number (none-at checks-by h 1) in
      let method = when_none (unknown c.rule c.estimator) bad_method_number (none-at checks-by h 2) in
      let window = when_none (ltb max_window c.window) bad_window_number (none-at checks-by h 3) in
      let three : 3 * c.m + 1 ≤ c.n = ltb-false c.n (3 * c.m + 1) faults in
      record {
        some_cabinet = omega arith;
        cabinets = ltb-false max_cabinets c.n (or_right (eqb c.n 0) (ltb max_cabinets c.n) cabinets);
        faults = three;
        method = method;
        window = ltb-false max_window c.window window;
      }

  pass-by : LimitsBy unknown c → first_of checks-by ≡ none
  unfolding first_of bad_cabinets bad_faults bad_window
  pass-by l =
      let some-cabinet : eqb c.n 0 ≡ false = ne_eqb c.n 0 (λ e. let s = l.some_cabinet in omega arith) in
      let cabinets : ltb max_cabinets c.n ≡ false = le-ltb max_cabinets c.n l.cabinets in
      let faults : ltb c.n (3 * c.m + 1) ≡ false = le-ltb c.n (3 * c.m + 1) l.faults in
      let window : ltb max_window c.window ≡ false = le-ltb max_window c.window l.window in
      rw (some-cabinet, cabinets, faults, l.method, window)

module _ (c : Settings) where
  pub limits : first_of (settings_checks c) ≡ none → Limits c
  unfolding settings_checks bad_method
  limits = limits-by unknown_method c

  pub limits-pass : Limits c → first_of (settings_checks c) ≡ none
  unfolding settings_checks bad_method
  limits-pass = pass-by unknown_method c

  pub planner_limits : first_of (planner_checks c) ≡ none → Planned c
  unfolding planner_checks unplanned
  planner_limits = limits-by unplanned_method c

  pub planner_pass : Planned c → first_of (planner_checks c) ≡ none
  unfolding planner_checks unplanned
  planner_pass = pass-by unplanned_method c

  -- a plan's settings are a sheet's, by a rule that drops none
  pub planned-spans : Planned c → trims c.rule ≡ false
  planned-spans l = or_left (trims c.rule) (ltb midpoint c.estimator) l.method

  pub planned-limits : Planned c → Limits c
  planned-limits l =
      record {
        some_cabinet = l.some_cabinet;
        cabinets = l.cabinets;
        faults = l.faults;
        method = known (planned-spans l);
        window = l.window;
      }
    where
      known : trims c.rule ≡ false → unknown_method c.rule c.estimator ≡ false
      known spans =
          let few = ltb-false cca c.rule spans in
          or_false (le-ltb trimmed_mean c.rule (omega arith))
          (rw spans (or_right (trims c.rule) (ltb midpoint c.estimator) l.method))

  -- the other way round
  pub limits-planned : Limits c → trims c.rule ≡ false → Planned c
  limits-planned l spans =
      record {
        some_cabinet = l.some_cabinet;
        cabinets = l.cabinets;
        faults = l.faults;
        method = or_false spans (rw spans at (or_right (ltb trimmed_mean c.rule) _ l.method));
        window = l.window;
      }

  -- a spread that check 16 passes
  pub spread-most : (D : ℕ) → bad_spread c D ≡ none → D ≤ max_spread
  unfolding bad_spread
  spread-most D h =
      ltb-false max_spread D (or_left (ltb max_spread D) _ (when_none (unfit_spread c.rule D) bad_spread_number h))

  -- at most 64 × 64 entries
  pub entries-most : c.n ≤ max_cabinets → entry_count c ≤ 4096
  unfolding entry_count
  entries-most h = go (eqb c.rule cca)
    where
      go : (b : Bool) → cond b (c.n * c.n) c.n ≤ 4096
      go true = mul-le-mul h h
      go false = omega arith
