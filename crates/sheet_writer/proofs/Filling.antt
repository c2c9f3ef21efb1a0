-- What the writer gives, by its checks and by what is stored.
-- Assumes nothing.
use mathlib.Core.List.{List, ◌++◌}
use mathlib.Core.Option.{none, some}
use mathlib.Core.Path.{◌≡◌, sym, ap, ◌∙◌}
use Prim.Native.Nat.{ℕ}
use lib.IntN.{ℤ}
use lib.ListN.{length}
use Rattle.arithmetic.specs.Writing.{overwrite}
use Rattle.model.specs.declared.Settings.{Settings}
use Rattle.model.specs.Refusals.{Refusal}
use Rattle.model.specs.RoundSheet.{sheet_length, reading_bytes, size_bytes, sheet_bytes}
use Rattle.model.specs.Refusals.{Check, first_of, write_checks}
use Rattle.model.specs.Calls.{granted, refused, write, written_after, Outcome}
use Rattle.sheet_laws.proofs.Outcomes.{write-grants}

module _ (c : Settings) (marks : List ℕ) (readings : List ℤ) (buffer : List ℕ) where
  pub writer_refuses :
      (r : Refusal) → some r ≡ first_of (write_checks c marks readings (length buffer))
      → ◌≡◌ {A = Outcome} (record { verdict = refused r; buffer = buffer }) (write c marks readings buffer)
  unfolding write
  writer_refuses r h =
      sym (ap (λ (x : Check). written_after x (sheet_length c) (sheet_bytes c marks readings) buffer) (sym h))

  -- the buffer filled is what the writer leaves
  pub writer_fills :
      (filled : List ℕ) (size : ℕ) → first_of (write_checks c marks readings (length buffer)) ≡ none
      → size ≡ sheet_length c → filled ≡ overwrite (size_bytes c ++ (marks ++ reading_bytes readings)) buffer
      → ◌≡◌ {A = Outcome} (record { verdict = granted size; buffer = filled }) (write c marks readings buffer)
  unfolding sheet_bytes
  writer_fills filled size checks same f =
      sym
      (write-grants c marks readings buffer checks
      ∙ (λ j. record { verdict = granted (sym same j); buffer = sym f j }))
