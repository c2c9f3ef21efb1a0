-- What the reader, the writer and the row accessor give, by the first check that refuses.
-- Assumes nothing.
use mathlib.Core.Bool.{true, false}
use mathlib.Core.List.{List, []}
use mathlib.Core.Option.{none, some}
use mathlib.Core.Path.{◌≡◌, refl, ap}
use Prim.Native.Nat.{ℕ}
use lib.Dec.{ltb}
use lib.IntN.{ℤ}
use lib.ListN.{length}
use Rattle.arithmetic.specs.Writing.{overwrite}
use Rattle.model.specs.declared.Settings.{Settings}
use Rattle.model.specs.Refusals.{Refusal}
use Rattle.model.specs.RoundSheet.{settings_at, sheet_length, row_part, sheet_bytes}
use Rattle.model.specs.Refusals.{Check, first_of, read_checks, write_checks, row_checks}
use Rattle.model.specs.Calls.{granted, refused, verdict, marks_of, ticks_of, read_after, read, written_after, write}
use Rattle.model.specs.Calls.{row, lent}

-- ---- verdicts

module _ {A : Type 0} where
  -- a call that grants is refused by no check, and grants what it was to grant
  pub granted-none : (r : Check) (a b : A) → verdict r a ≡ granted b → r ≡ none
  granted-none none a b h = refl
  granted-none (some r) a b h = cc

  pub granted-same : (r : Check) (a b : A) → verdict r a ≡ granted b → a ≡ b
  granted-same none a b h = cc
  granted-same (some r) a b h = cc

  pub refused-some : (r : Check) (a : A) (x : Refusal) → verdict r a ≡ refused x → r ≡ some x
  refused-some none a x h = cc
  refused-some (some r) a x h = cc

-- ---- the reader

module _ (s marks : List ℕ) (readings : List ℤ) where
  pub read-grants :
      first_of (read_checks s (length marks) (length readings)) ≡ none
      → read s marks readings ≡ record {
        verdict = granted (settings_at s);
        marks = overwrite (marks_of s) marks;
        readings = overwrite (ticks_of s) readings;
      }
  unfolding read
  read-grants h = ap (λ (r : Check). read_after r s marks readings) h

-- ---- the writer

module _ (c : Settings) (marks : List ℕ) (readings : List ℤ) (buffer : List ℕ) where
  pub write-grants :
      first_of (write_checks c marks readings (length buffer)) ≡ none
      → write c marks readings buffer ≡ record
      { verdict = granted (sheet_length c); buffer = overwrite (sheet_bytes c marks readings) buffer }
  unfolding write
  write-grants h = ap (λ (r : Check). written_after r (sheet_length c) (sheet_bytes c marks readings) buffer) h

-- ---- the row accessor

module _ (s : List ℕ) where
  pub row-shown :
      (r : ℕ) → first_of (row_checks s) ≡ none → ltb r (settings_at s).n ≡ true → row s r ≡ row_part s (settings_at s) r
  unfolding row
  row-shown r h l = rw (h, l)

  pub row-past : (r : ℕ) → ltb r (settings_at s).n ≡ false → row s r ≡ []
  unfolding row
  row-past r l = rw l (go (first_of (row_checks s)))
    where
      go : (x : Check) → lent {A = List ℕ} x [] [] ≡ []
      go none = refl
      go (some y) = refl

  pub row-refused : (r : ℕ) (x : Refusal) → first_of (row_checks s) ≡ some x → row s r ≡ []
  unfolding row
  row-refused r x h = rw h
