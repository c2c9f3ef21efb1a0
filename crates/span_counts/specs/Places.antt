-- INNER: no reader needs this page to believe a public promise.
--   places    how many readings two lists hold: at most 64, and no more than either list
use Rattle.std.specs.Prelude.{ℕ, min}
use Rattle.model.specs.Ensemble.{max_cabinets}

abbrev pub places : ℕ → ℕ → ℕ
places marks values = min max_cabinets (min marks values)
