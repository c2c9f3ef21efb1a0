-- Sizes of a byte make few entries: 255 × 255 × 255 at most.
-- Assumes nothing.
use Prim.Native.Nat.{ℕ, ◌≤◌}
use native.Mathlib.Nat.{mul-le-mul}
use Rattle.trace.specs.Trace.{trace_entries}

pub byte-entries : (n rounds : ℕ) → n ≤ 255 → rounds ≤ 255 → trace_entries n rounds ≤ 16581375
byte-entries n rounds small few = mul-le-mul few (mul-le-mul small small)
