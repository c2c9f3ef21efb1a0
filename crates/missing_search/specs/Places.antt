-- INNER: no reader needs this page to believe a public promise.
--   place_of    the entry that a search found, or the number past every entry
use Rattle.std.proofs.Math.Option.{Option, none, some}
use Rattle.std.specs.Prelude.{ℕ}
use Rattle.sheet_sizes.specs.Bounds.{most_entries}

abbrev pub place_of : Option ℕ → ℕ
place_of none = most_entries
place_of (some e) = e
