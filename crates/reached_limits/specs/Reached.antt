-- Document 01, "Limits for sound cabinets", where more than m are bad: which exact limits are known to be reached.
--   reachable    the settings for which `always_reached` (crates/sharpness) has a round that reaches both of the exact
--                limits, where m < t < N-m
use Rattle.std.specs.Prelude.{Bool, ◌&&◌, ℕ, ◌+◌, ◌*◌, leb, ltb, eqb}
use Rattle.model.specs.declared.Settings.{Settings}
use Rattle.model.specs.RoundSheet.{fca, median}

-- FCA with median; N ≤ 2m+t; 0 < κ, δ ≤ 2κ
unfoldable pub reachable : Settings → ℕ → ℕ → Bool
reachable c κ t =
    (eqb c.rule fca && eqb c.estimator median)
    && (leb c.n (2 * c.m + t) && (ltb 0 κ && leb c.window (2 * κ)))
