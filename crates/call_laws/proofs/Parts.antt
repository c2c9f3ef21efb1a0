-- The answer of the row call names the row's bytes, inside the sheet.
-- Assumes nothing.
use mathlib.Core.Bool.{Bool, true, false}
use mathlib.Core.List.{List, []}
use mathlib.Core.Option.{none, some}
use mathlib.Core.Path.{◌≡◌, refl, sym, ap, ap₂, ◌∙◌}
use Prim.Native.Nat.{ℕ, ◌+◌, ◌≤◌, ◌<◌}
use native.Mathlib.Omega.{arith}
use borrow.Author.Tests.{ltb-true, ltb-false}
use lib.Dec.{ltb}
use lib.ListN.{length, take, drop}
use Rattle.arithmetic.specs.Words.{two_to32}
use Rattle.model.specs.declared.Settings.{Settings}
use Rattle.model.specs.RoundSheet.{settings_at, row_start, row_length, row_part}
use Rattle.model.specs.Refusals.{Check, first_of, row_checks}
use Rattle.model.specs.Calls.{verdict, row}
use Rattle.sheet_laws.proofs.Inspection.{Validated, validated}
use Rattle.sheet_laws.proofs.Outcomes.{row-refused}
use Rattle.sheet_laws.proofs.Shown.{row-part, row-empty}
use Rattle.packed_refusals.specs.Answers.{upper_half, lower_half}
use Rattle.packed_rows.specs.Answers.{packed_row, part_in}
use Rattle.packed_rows.proofs.Rows.{empty-packed, row-few, row_ends, shown-packed}
use Rattle.call_laws.specs.Statements.{RowNamed}
use Rattle.packed_refusals.proofs.Halves.{upper_back, lower-back}

-- ---- an empty part

module _ (s : List ℕ) (r : ℕ) (empty : row s r ≡ []) where
  empty_named : part_in s (packed_row s r) ≡ row s r
  empty_named = rw (← empty-packed s r empty) (sym empty)

  empty-inside : upper_half (packed_row s r) + lower_half (packed_row s r) ≤ length s
  empty-inside = rw (← empty-packed s r empty) (omega arith)

-- ---- a row that is shown

module _ (s : List ℕ) (c : Settings) (v : Validated s c) (r : ℕ) (h : r < c.n) where
  small : row_length c < two_to32
  small = let few = row-few s c v r h in omega arith

  start_back : upper_half (packed_row s r) ≡ row_start c r
  start_back = rw (← shown-packed s c v r h) (upper_back (row_start c r) (row_length c) small)

  length_back : lower_half (packed_row s r) ≡ row_length c
  length_back = rw (← shown-packed s c v r h) (lower-back (row_start c r) (row_length c) small)

  shown_named : part_in s (packed_row s r) ≡ row s r
  unfolding row_part
  shown_named = ap₂ (λ (a b : ℕ). take a (drop b s)) length_back start_back ∙ row-part s c v r h

  shown-inside : upper_half (packed_row s r) + lower_half (packed_row s r) ≤ length s
  shown-inside = rw (start_back, length_back) (row_ends s c v r h)

-- ---- any sheet and any cabinet

module _ (s : List ℕ) (r : ℕ) where
  seen : first_of (row_checks s) ≡ none → Validated s (settings_at s)
  seen pass = validated s (settings_at s) (ap (λ (x : Check). verdict x (settings_at s)) pass)

  by-case :
      {X : Type 0} → (row s r ≡ [] → X) → ((v : Validated s (settings_at s)) → r < (settings_at s).n → X) → X
  by-case {X} none-shown shown = go (first_of (row_checks s)) refl
    where
      inner : first_of (row_checks s) ≡ none → (b : Bool) → ltb r (settings_at s).n ≡ b → X
      inner pass true e = shown (seen pass) (ltb-true r (settings_at s).n e)
      inner pass false e = none-shown (sym (row-empty s (settings_at s) (seen pass) r (ltb-false r (settings_at s).n e)))

      go : (x : Check) → first_of (row_checks s) ≡ x → X
      go none e = inner e (ltb r (settings_at s).n) refl
      go (some y) e = none-shown (row-refused s r y e)

pub row_named : RowNamed
row_named =
    record {
      bytes = λ s r. by-case s r (empty_named s r) (λ v h. shown_named s (settings_at s) v r h);
      inside = λ s r. by-case s r (empty-inside s r) (λ v h. shown-inside s (settings_at s) v r h);
    }
