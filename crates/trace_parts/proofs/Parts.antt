-- A part of a list, by whether all its bytes lie in it; and what stands at its places.
-- Assumes nothing.
use mathlib.Core.List.{List}
use mathlib.Core.Path.{◌≡◌, ap, ◌∙◌}
use Prim.Native.Nat.{ℕ, ◌+◌, ◌≤◌, ◌<◌}
use native.Mathlib.Omega.{arith}
use borrow.Author.Tests.{le-ltb}
use lib.ListN.{length, get_or, take, drop, length-drop}
use lib.Seq.{length-take-le, get_or-take, get_or-drop}
use Rattle.model.specs.RoundSheet.{word}
use Rattle.sheet_laws.proofs.Words.{word_ext}
use Rattle.trace_parts.specs.Parts.{part_from}

module _ (s : List ℕ) (start size : ℕ) where
  module _ (lies : start + size ≤ length s) where
    pub part_is : part_from s start size ≡ take size (drop start s)
    unfolding part_from
    part_is = rw (le-ltb (length s) (start + size) lies)

    pub part_length : length (part_from s start size) ≡ size
    part_length =
        ap length part_is
        ∙ length-take-le size (drop start s) (let d = length-drop start s in omega arith)

    pub part_at : (i : ℕ) → i < size → get_or (part_from s start size) i 0 ≡ get_or s (start + i) 0
    part_at i h =
        ap (λ (l : List ℕ). get_or l i 0) part_is ∙ get_or-take size (drop start s) i 0 h ∙ get_or-drop start s i 0

    pub part-word : (i : ℕ) → i + 3 < size → word (part_from s start size) i ≡ word s (start + i)
    part-word i h =
        word_ext (part_from s start size) s i (start + i)
        (λ b l. part_at (i + b) (omega arith) ∙ ap (λ (j : ℕ). get_or s j 0) (omega arith))
