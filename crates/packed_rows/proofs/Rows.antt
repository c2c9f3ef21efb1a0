-- Where a cabinet's row stands, as start × 2^32 + length: 0 for an empty part, and else what the call computes.
-- Assumes nothing.
use mathlib.Core.Bool.{Bool, true, false, cond}
use mathlib.Core.List.{List, []}
use mathlib.Core.Path.{◌≡◌, sym, ap, ap₂, ◌∙◌}
use Prim.Native.Nat.{ℕ, ◌+◌, ◌*◌, ◌≤◌, ◌<◌}
use native.Mathlib.Omega.{arith}
use borrow.Author.Tests.{ne_eqb}
use lib.Dec.{eqb}
use lib.ListN.{length, drop, length-drop}
use lib.Seq.{length-take-le}
use Rattle.arithmetic.specs.Words.{two_to32}
use Rattle.model.specs.declared.Settings.{Settings}
use Rattle.model.specs.RoundSheet.{cca, row_entries, row_start, row_length, row_part, header_size}
use Rattle.model.specs.Calls.{row}
use Rattle.sheet_laws.proofs.Inspection.{Validated}
use Rattle.sheet_laws.proofs.Shown.{row_within, row-part}
use Rattle.packed_rows.specs.Answers.{packed_row}

-- an empty part
pub empty-packed : (s : List ℕ) (r : ℕ) → row s r ≡ [] → 0 ≡ packed_row s r
unfolding packed_row
empty-packed s r empty = rw empty

-- a row that is shown
module _ (s : List ℕ) (c : Settings) (v : Validated s c) (r : ℕ) (h : r < c.n) where
  -- it lies within the entries, and is not empty
  pub row-few : r * row_entries c + row_entries c ≤ 4096
  row-few =
      let few = v.sizes.few in
      let room = row_within c r h in
      omega arith

  pub row-starts : row_start c r ≤ header_size + 20480
  row-starts =
      let few = v.sizes.few in
      let room = row-few in
      omega arith

  pub row-narrow : row_entries c ≤ 4096
  row-narrow = let room = row-few in omega arith

  some-entry : 1 ≤ row_entries c
  unfolding row_entries
  some-entry = go (eqb c.rule cca)
    where
      go : (b : Bool) → 1 ≤ cond b c.n 1
      go true = omega arith
      go false = omega arith

  pub row_ends : row_start c r + row_length c ≤ length s
  row_ends =
      let room = row_within c r h in
      let size = v.sizes.long in
      omega arith

  row-long : length (row s r) ≡ row_length c
  unfolding row_part
  row-long =
      ap length (sym (row-part s c v r h))
      ∙ length-take-le (row_length c) (drop (row_start c r) s)
      (let rest = length-drop (row_start c r) s in let ends = row_ends in omega arith)

  pub shown-packed : row_start c r * two_to32 + row_length c ≡ packed_row s r
  unfolding packed_row
  shown-packed =
      rw (v.sizes.settings, row-long, ne_eqb (row_length c) 0 (λ e. let some_one = some-entry in omega arith))

  -- as the call computes it
  pub row-packed : (start w : ℕ) → start ≡ row_start c r → w ≡ row_entries c → start * two_to32 + 4 * w ≡ packed_row s r
  row-packed start w from width = ap₂ (λ (a b : ℕ). a * two_to32 + 4 * b) from width ∙ shown-packed
