-- INNER: no reader needs this page to believe a public promise. How large what is multiplied and added gets.
--   Sizes    of settings that the planner grants, where fewer than N-m are bad
use Rattle.std.specs.Prelude.{ℕ, ◌+◌, ◌*◌, ◌≤◌, ◌<◌}
use Rattle.model.specs.declared.Settings.{Settings}
use Rattle.model.specs.Ensemble.{max_cabinets, max_window}
use Rattle.model.specs.Planner.{ceil_div, past_div, max_accuracy}

pub record Sizes (c : Settings) (κ t : ℕ) : Type 0 where
  pub some_cabinet : 0 < c.n
  pub cabinets : c.n ≤ max_cabinets
  pub window : c.window ≤ max_window
  pub accurate : κ ≤ max_accuracy
  pub few : t ≤ max_cabinets
  pub gap : past_div ((c.n + 2 * t + 2 * c.m) * c.window) c.n ≤ 256000001
  pub growth : ceil_div ((c.m + t) * c.window) c.n ≤ 256000000
  pub excess : (c.m + t) * c.window ≤ 256000000
