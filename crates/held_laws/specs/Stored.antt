-- INNER: no reader needs this page to believe a public promise.
--   Stored    lent lists whose first entries hold the first n readings; the others are as they were
use Rattle.std.specs.Prelude.{List, ◌≡◌, ℕ}
use Rattle.arithmetic.specs.Writing.{table, overwrite}
use Rattle.model.specs.Ensemble.{Readings}
use Rattle.held.specs.Held.{held_mark, held_value}

pub record Stored (v : Readings) (n : ℕ) (marks₀ values₀ marks values : List ℕ) : Type 0 where
  pub marked : marks ≡ overwrite (table (λ r. held_mark (v r)) n) marks₀
  pub valued : values ≡ overwrite (table (λ r. held_value (v r)) n) values₀
