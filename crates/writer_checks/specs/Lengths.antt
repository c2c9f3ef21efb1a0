-- The writer's checks before those of the entries: 2 to 5, 6 of each array, 7.
use Rattle.std.specs.Prelude.{List, [], ◌∷◌, ◌++◌, ℕ}
use Rattle.model.specs.declared.Settings.{Settings}
use Rattle.model.specs.RoundSheet.{entry_count, sheet_length}
use Rattle.model.specs.Refusals.{Check, settings_checks, bad_length, no_room}

unfoldable pub length_checks : Settings → ℕ → ℕ → ℕ → List Check
length_checks c marks readings room =
    settings_checks c
    ++ (bad_length marks (entry_count c) ∷ bad_length readings (entry_count c) ∷ no_room room (sheet_length c) ∷ [])
