-- INNER: no reader needs this page to believe a public promise. The values in a buffer that a replay has written.
--   value_at    a cabinet's value
use Rattle.std.specs.Prelude.{List, ℕ, ◌*◌, ℤ}
use Rattle.std.specs.Int.{w32}
use Rattle.std.proofs.Common.{to_z}
use Rattle.model.specs.RoundSheet.{word}

abbrev pub value_at : List ℕ → ℕ → ℤ
value_at values p = to_z w32 (word values (4 * p))
