-- The most entries of a sheet or of a trace: 32 rounds of 64 × 64, and so more than N × N with N a byte.
use Rattle.std.specs.Prelude.{ℕ}

abbrev pub most_entries : ℕ
most_entries = 131072
