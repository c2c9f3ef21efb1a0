-- INNER: no reader needs this page to believe a public promise. What the functions below `settle_round` ask and give.
--   Fits    the sizes of a round, with places for marks and values, and settings that can be agreed by
--   Left    the cabinets before the first that meets too many faults hold their next values
use Rattle.std.specs.Prelude.{List, ◌≡◌, ℕ, ◌*◌, ◌≤◌, ◌<◌, length}
use Rattle.arithmetic.specs.Writing.{table, overwrite}
use Rattle.model.specs.declared.Settings.{Settings}
use Rattle.model.specs.Ensemble.{max_cabinets, max_window}
use Rattle.station_rounds.specs.Rounds.{next_value, first_refused}

pub record Fits (c : Settings) (roles held sent readings : List ℕ) (marks values : ℕ) : Type 0 where
  pub cabinets : c.n ≡ length roles
  pub faults : 2 * c.m < length roles
  pub narrow : c.window ≤ max_window
  pub few : length roles ≤ max_cabinets
  pub values-held : length held ≡ length roles
  pub pairs : length sent ≡ length roles * length roles
  pub bytes : length readings ≡ 4 * (length roles * length roles)
  pub mark-room : marks ≡ length roles
  pub value_room : values ≡ length roles

pub record Left (c : Settings) (roles held sent readings next₀ : List ℕ) (r : ℕ) (next : List ℕ) : Type 0 where
  pub first : r ≡ first_refused c roles held sent readings
  pub stored : next ≡ overwrite (table (next_value c roles held sent readings) r) next₀
