-- A sheet filled from one reading for each entry: its marks and readings are well formed, and each entry reads back as it was.
-- Assumes nothing.
use mathlib.Core.Path.{◌≡◌, refl, sym, ap₂, ◌∙◌}
use mathlib.Core.List.{List}
use mathlib.Core.Option.{none}
use Prim.Native.Nat.{ℕ, ◌<◌}
use native.Mathlib.Omega.{arith}
use lib.IntN.{ℤ, pos}
use lib.ListN.{length, get_or}
use mir.Syntax.{w32}
use mir.Val.{SFits}
use Rattle.arithmetic.specs.Counting.{bit}
use Rattle.arithmetic.specs.Writing.{table}
use Rattle.arithmetic.proofs.Counting.{bit-le-one}
use Rattle.arithmetic.proofs.Writing.{length-table, get_d_table}
use Rattle.model.specs.declared.Settings.{Settings}
use Rattle.model.specs.Ensemble.{Reading, missing, present, Readings, is_present, ticks}
use Rattle.model.specs.RoundSheet.{entry_count, sheet_length, entry_at, sheet_bytes}
use Rattle.model.specs.Refusals.{first_of, settings_checks}
use Rattle.model.specs.Calls.{granted, write}
use Rattle.sheet_laws.proofs.Written.{WellFormed, entry_with, entry-back}
use Rattle.sheet_laws.proofs.RoundTrips.{write_fills}

-- a missing reading has the mark 0 and no ticks, a present one the mark 1 and its own
abbrev pub marks_from : Settings → Readings → List ℕ
marks_from c entry = table (λ e. bit (is_present (entry e))) (entry_count c)

abbrev pub ticks_from : Settings → Readings → List ℤ
ticks_from c entry = table (λ e. ticks (entry e)) (entry_count c)

bit-zero : (r : Reading) → bit (is_present r) ≡ 0 → ticks r ≡ pos 0
bit-zero missing h = refl
bit-zero (present z) h = absurd (omega arith)

bit-same : (r : Reading) → entry_with (bit (is_present r)) (ticks r) ≡ r
bit-same missing = refl
bit-same (present z) = refl

module _
    (c : Settings) (entry : Readings) (pass : first_of (settings_checks c) ≡ none)
    (fits : (e : ℕ) → e < entry_count c → SFits w32 (ticks (entry e))) where
  mark-at : (e : ℕ) → e < entry_count c → get_or (marks_from c entry) e 0 ≡ bit (is_present (entry e))
  mark-at e h = get_d_table (λ i. bit (is_present (entry i))) (entry_count c) e 0 h

  ticks-at : (e : ℕ) → e < entry_count c → get_or (ticks_from c entry) e (pos 0) ≡ ticks (entry e)
  ticks-at e h = get_d_table (λ i. ticks (entry i)) (entry_count c) e (pos 0) h

  pub filled_well_formed : WellFormed c (marks_from c entry) (ticks_from c entry)
  filled_well_formed =
      record {
        settings_pass = pass;
        marks_long = length-table (λ e. bit (is_present (entry e))) (entry_count c);
        readings_long = length-table (λ e. ticks (entry e)) (entry_count c);
        marks_pass = λ e h. rw (mark-at e h) (bit-le-one (is_present (entry e)));
        readings_fit = λ e h. rw (ticks-at e h) (fits e h);
        missing_zero = λ e h m. ticks-at e h ∙ bit-zero (entry e) (sym (mark-at e h) ∙ m);
      }

  -- each entry reads back
  pub filled-entry :
      (e : ℕ) → e < entry_count c
      → entry_at (sheet_bytes c (marks_from c entry) (ticks_from c entry)) (entry_count c) e ≡ entry e
  filled-entry e h =
      entry-back c (marks_from c entry) (ticks_from c entry) filled_well_formed e h
      ∙ ap₂ entry_with (mark-at e h) (ticks-at e h)
      ∙ bit-same (entry e)

  -- the writer grants, and leaves the sheet in a buffer of just its length
  pub filled-write :
      (buffer : List ℕ) → length buffer ≡ sheet_length c
      → write c (marks_from c entry) (ticks_from c entry) buffer ≡ record
      { verdict = granted (sheet_length c); buffer = sheet_bytes c (marks_from c entry) (ticks_from c entry) }
  filled-write buffer long = write_fills c (marks_from c entry) (ticks_from c entry) buffer filled_well_formed long
