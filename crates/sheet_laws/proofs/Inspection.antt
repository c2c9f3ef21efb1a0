-- What it means that checks 1 to 6, and checks 1 to 6, 8 and 9, grant settings.
-- Assumes nothing.
use mathlib.Core.List.{List}
use mathlib.Core.Option.{none}
use mathlib.Core.Path.{◌≡◌, sym, ap, ◌∙◌}
use Prim.Native.Nat.{ℕ, ◌≤◌}
use lib.ListN.{length}
use Rattle.model.specs.declared.Settings.{Settings}
use Rattle.model.specs.RoundSheet.{settings_at, entry_count, sheet_length}
use Rattle.model.specs.Refusals.{first_of, settings_checks, sheet_checks, row_checks, entry_checks}
use Rattle.model.specs.Calls.{granted, verdict}
use Rattle.refusal_laws.proofs.Checks.{none_left, none_right}
use Rattle.refusal_laws.proofs.Limits.{Limits, limits, entries-most}
use Rattle.sheet_laws.proofs.Checks.{settings-passed, sheet-length-passed}
use Rattle.sheet_laws.proofs.Outcomes.{granted-none, granted-same}

-- what it means that checks 1 to 6 grant settings
pub record Inspected (s : List ℕ) (c : Settings) : Type 0 where
  pub passes : first_of (sheet_checks s) ≡ none
  pub settings : settings_at s ≡ c
  pub long : length s ≡ sheet_length c
  pub within : Limits c
  pub few : entry_count c ≤ 4096

pub inspected :
    (s : List ℕ) (c : Settings) → verdict (first_of (sheet_checks s)) (settings_at s) ≡ granted c → Inspected s c
inspected s c h =
    record {
      passes = passes;
      settings = same;
      long = sheet-length-passed s passes ∙ ap (λ (d : Settings). sheet_length d) same;
      within = within;
      few = entries-most c within.cabinets;
    }
  where
    passes : first_of (sheet_checks s) ≡ none
    passes = granted-none (first_of (sheet_checks s)) (settings_at s) c h

    same : settings_at s ≡ c
    same = granted-same (first_of (sheet_checks s)) (settings_at s) c h

    within : Limits c
    within = limits c (ap (λ (d : Settings). first_of (settings_checks d)) (sym same) ∙ settings-passed s passes)

-- what it means that checks 1 to 6, 8 and 9 grant settings
pub record Validated (s : List ℕ) (c : Settings) : Type 0 where
  pub sizes : Inspected s c
  pub checks : first_of (row_checks s) ≡ none
  pub entries : first_of (entry_checks s) ≡ none

pub validated :
    (s : List ℕ) (c : Settings) → verdict (first_of (row_checks s)) (settings_at s) ≡ granted c → Validated s c
unfolding row_checks
validated s c h =
    record {
      sizes =
          inspected s c
          (rw (none_left (sheet_checks s) (entry_checks s) checks)
          (ap granted (granted-same (first_of (row_checks s)) (settings_at s) c h)));
      checks = checks;
      entries = none_right (sheet_checks s) (entry_checks s) checks;
    }
  where
    checks : first_of (row_checks s) ≡ none
    checks = granted-none (first_of (row_checks s)) (settings_at s) c h
