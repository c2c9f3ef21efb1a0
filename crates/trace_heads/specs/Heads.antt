-- INNER: no reader needs this page to believe a public promise.
-- The checks of a trace that come before those of its entries.
--   head_checks   1 to 5, 13 and 7, for a buffer of this length
use Rattle.std.specs.Prelude.{List, [], ◌∷◌, ◌++◌, ℕ, ◌*◌}
use Rattle.model.specs.RoundSheet.{settings_at}
use Rattle.model.specs.Refusals.{Check, too_short, settings_checks, no_room}
use Rattle.trace.specs.Replay.{bad_trace}

unfoldable pub head_checks : List ℕ → ℕ → List Check
head_checks s room =
    (too_short s ∷ settings_checks (settings_at s)) ++ (bad_trace s ∷ no_room room (4 * (settings_at s).n) ∷ [])
