-- What is left of a buffer from place k on, as it is lent.
-- Assumes nothing.
use mathlib.Core.List.{List}
use mathlib.Core.Path.{◌≡◌, sym}
use Prim.Native.Nat.{ℕ, ◌-◌}
use native.Mathlib.Nat.{le_of_eq}
use lib.ListN.{length, take, drop, length-drop}
use lib.Seq.{length-take-le}

pub length_tail : {A : Type 0} (b : List A) (k : ℕ) → length (take (length b - k) (drop k b)) ≡ length b - k
length_tail b k = length-take-le (length b - k) (drop k b) (le_of_eq (sym (length-drop k b)))
