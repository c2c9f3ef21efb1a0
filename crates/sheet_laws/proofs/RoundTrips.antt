-- The two round trips of the reader and the writer: what is written reads back the same, and what is read writes back
-- the same bytes.
-- Assumes nothing.
use mathlib.Core.List.{List}
use mathlib.Core.Option.{none}
use mathlib.Core.Path.{◌≡◌, sym, ap, ap₂, ◌∙◌, subst}
use Prim.Native.Nat.{ℕ, ◌≤◌, ◌<◌}
use native.Mathlib.Nat.{le_of_eq}
use lib.IntN.{ℤ, pos}
use lib.ListN.{length, get_or, take}
use mir.Syntax.{w32}
use mir.Val.{SFits, to_z, of_z}
use mir.Facts.{to_z-of_z}
use Rattle.arithmetic.specs.Writing.{overwrite}
use Rattle.arithmetic.proofs.Writing.{length-table, take-overwrite, overwrite-whole}
use Rattle.model.specs.declared.Settings.{Settings}
use Rattle.model.specs.RoundSheet.{byte, settings_at, entry_count, sheet_length, mark_at, bits_at, sheet_bytes}
use Rattle.model.specs.Refusals.{first_of, settings_checks, sheet_checks, entry_checks, read_checks, write_checks, no_room}
use Rattle.model.specs.Calls.{granted, verdict, Read, marks_of, ticks_of, read, Outcome, write}
use Rattle.refusal_laws.proofs.Checks.{first_append, next-none-left, next-none-right, none-at}
use Rattle.sheet_laws.proofs.Outcomes.{granted-none, granted-same, read-grants, write-grants}
use Rattle.sheet_laws.proofs.Orders.{read-checks, write-checks}
use Rattle.sheet_laws.proofs.Checks.{length-pass, length-passed, room-pass, marks-pass, marks-passed, missing-pass, missing-passed, sheet-length-passed}
use Rattle.sheet_laws.proofs.Written.{WellFormed, settings-back, length_back, marks-back, readings-back, sheet-passes, entries-pass}
use Rattle.sheet_laws.proofs.Reread.{sheet_again, sheet_well_formed}

-- ---- the reader's checks

module _ (s marks : List ℕ) (readings : List ℤ) where
  pub read-passes :
      first_of (sheet_checks s) ≡ none → entry_count (settings_at s) ≤ length marks
      → entry_count (settings_at s) ≤ length readings → first_of (entry_checks s) ≡ none
      → first_of (read_checks s (length marks) (length readings)) ≡ none
  read-passes a b d e =
      read-checks s (length marks) (length readings)
      ∙ rw (a, room-pass (length marks) (entry_count (settings_at s)) b, room-pass (length readings) (entry_count (settings_at s)) d, e)

  pub read-sheet-passed : first_of (read_checks s (length marks) (length readings)) ≡ none → first_of (sheet_checks s) ≡ none
  read-sheet-passed h = next-none-left (first_of (sheet_checks s)) _ (sym (read-checks s (length marks) (length readings)) ∙ h)

  pub read-entries-passed : first_of (read_checks s (length marks) (length readings)) ≡ none → first_of (entry_checks s) ≡ none
  read-entries-passed h =
      next-none-right (no_room (length readings) (entry_count (settings_at s))) (first_of (entry_checks s))
      (next-none-right (no_room (length marks) (entry_count (settings_at s))) _
      (next-none-right (first_of (sheet_checks s)) _ (sym (read-checks s (length marks) (length readings)) ∙ h)))

-- ---- the writer's checks

module _ (c : Settings) (marks : List ℕ) (readings : List ℤ) (buffer : List ℕ) where
  write-settings-passed : first_of (write_checks c marks readings (length buffer)) ≡ none → first_of (settings_checks c) ≡ none
  write-settings-passed h = next-none-left (first_of (settings_checks c)) _ (sym (write-checks c marks readings (length buffer)) ∙ h)

  pub write-passes :
      WellFormed c marks readings → sheet_length c ≤ length buffer
      → first_of (write_checks c marks readings (length buffer)) ≡ none
  unfolding write_checks first_of
  write-passes w room =
      rw (
        first_append,
        w.settings_pass,
        length-pass (length marks) (entry_count c) w.marks_long,
        length-pass (length readings) (entry_count c) w.readings_long,
        room-pass (length buffer) (sheet_length c) room,
        marks-pass (λ e. get_or marks e 0) (entry_count c) w.marks_pass,
        missing-pass (λ e. get_or marks e 0) (entry_count c) (λ e. of_z w32 (get_or readings e (pos 0)))
            (λ e h m. ap (of_z w32) (w.missing_zero e h m)),
      )

  pub write-passed :
      first_of (write_checks c marks readings (length buffer)) ≡ none
      → ((e : ℕ) → e < entry_count c → SFits w32 (get_or readings e (pos 0))) → WellFormed c marks readings
  unfolding write_checks settings_checks
  write-passed h fits =
      record {
        settings_pass = write-settings-passed h;
        marks_long = length-passed (length marks) (entry_count c) (none-at (write_checks c marks readings (length buffer)) h 4);
        readings_long = length-passed (length readings) (entry_count c) (none-at (write_checks c marks readings (length buffer)) h 5);
        marks_pass = marks-passed (λ e. get_or marks e 0) (entry_count c) (none-at (write_checks c marks readings (length buffer)) h 7);
        readings_fit = fits;
        missing_zero = λ e l m.
            sym (to_z-of_z (fits e l))
            ∙ ap (to_z w32)
            (missing-passed (λ i. get_or marks i 0) (entry_count c) (λ i. of_z w32 (get_or readings i (pos 0)))
            (none-at (write_checks c marks readings (length buffer)) h 8) e l m);
      }

-- the writer fills a buffer of just the sheet's length with the sheet
pub write_fills :
    (c : Settings) (marks : List ℕ) (readings : List ℤ) (buffer : List ℕ) → WellFormed c marks readings
    → length buffer ≡ sheet_length c
    → write c marks readings buffer ≡ record
    { verdict = granted (sheet_length c); buffer = sheet_bytes c marks readings }
write_fills c marks readings buffer w long =
    write-grants c marks readings buffer (write-passes c marks readings buffer w (le_of_eq (sym long)))
    ∙ ap (λ (b : List ℕ). record { verdict = granted (sheet_length c); buffer = b })
    (overwrite-whole (sheet_bytes c marks readings) buffer (le_of_eq (long ∙ sym (length_back c marks readings w))))

-- ---- what is written reads back

module _
    (c : Settings) (marks : List ℕ) (readings : List ℤ) (buffer : List ℕ) (size : ℕ)
    (fits : (e : ℕ) → e < entry_count c → SFits w32 (get_or readings e (pos 0)))
    (g : (write c marks readings buffer).verdict ≡ granted size) where
  passed : first_of (write_checks c marks readings (length buffer)) ≡ none
  unfolding write
  passed = granted-none (first_of (write_checks c marks readings (length buffer))) (sheet_length c) size g

  same_size : sheet_length c ≡ size
  unfolding write
  same_size = granted-same (first_of (write_checks c marks readings (length buffer))) (sheet_length c) size g

  well_formed : WellFormed c marks readings
  well_formed = write-passed c marks readings buffer passed fits

  -- the bytes of the sheet that the writer wrote
  pub write_bytes : take size (write c marks readings buffer).buffer ≡ sheet_bytes c marks readings
  write_bytes =
      ap (λ (w : Outcome). take size w.buffer) (write-grants c marks readings buffer passed)
      ∙ ap (λ (k : ℕ). take k (overwrite (sheet_bytes c marks readings) buffer)) (sym same_size ∙ sym (length_back c marks readings well_formed))
      ∙ take-overwrite (sheet_bytes c marks readings) buffer

  -- read back they give the settings, the marks and the readings
  pub write_read :
      (lent_marks : List ℕ) (lent_readings : List ℤ) → entry_count c ≤ length lent_marks
      → entry_count c ≤ length lent_readings
      → read (take size (write c marks readings buffer).buffer) lent_marks lent_readings ≡ record
      { verdict = granted c; marks = overwrite marks lent_marks; readings = overwrite readings lent_readings }
  write_read lent_marks lent_readings room_marks room_readings =
      ap (λ (s : List ℕ). read s lent_marks lent_readings) write_bytes
      ∙ read-grants (sheet_bytes c marks readings) lent_marks lent_readings
      (read-passes (sheet_bytes c marks readings) lent_marks lent_readings (sheet-passes c marks readings well_formed)
      (rw (settings-back c marks readings well_formed) room_marks)
      (rw (settings-back c marks readings well_formed) room_readings)
      (entries-pass c marks readings well_formed))
      ∙ (λ i.
      record {
        verdict = granted (settings-back c marks readings well_formed i);
        marks = overwrite (marks-back c marks readings well_formed i) lent_marks;
        readings = overwrite (readings-back c marks readings well_formed i) lent_readings;
      })

-- ---- what is read writes back

module _
    (s : List ℕ) (lent_marks : List ℕ) (lent_readings : List ℤ) (c : Settings) (small : (i : ℕ) → byte s i < 256)
    (g : (read s lent_marks lent_readings).verdict ≡ granted c) where
  read_none : first_of (read_checks s (length lent_marks) (length lent_readings)) ≡ none
  unfolding read
  read_none = granted-none (first_of (read_checks s (length lent_marks) (length lent_readings))) (settings_at s) c g

  same-settings : settings_at s ≡ c
  unfolding read
  same-settings = granted-same (first_of (read_checks s (length lent_marks) (length lent_readings))) (settings_at s) c g

  well_formed-back : WellFormed (settings_at s) (marks_of s) (ticks_of s)
  well_formed-back =
      sheet_well_formed s small (read-sheet-passed s lent_marks lent_readings read_none) (read-entries-passed s lent_marks lent_readings read_none)

  -- written again they give the bytes that were read
  pub read-write :
      (buffer : List ℕ) → length s ≤ length buffer
      → write c (take (entry_count c) (read s lent_marks lent_readings).marks)
      (take (entry_count c) (read s lent_marks lent_readings).readings) buffer ≡ record
      { verdict = granted (length s); buffer = overwrite s buffer }
  read-write buffer room =
      subst
      (λ (d : Settings).
      write d (take (entry_count d) (read s lent_marks lent_readings).marks) (take (entry_count d) (read s lent_marks lent_readings).readings) buffer
      ≡ record { verdict = granted (length s); buffer = overwrite s buffer })
      same-settings
      (ap₂ (λ (m : List ℕ) (r : List ℤ). write (settings_at s) m r buffer) same-marks same-readings
      ∙ write-grants (settings_at s) (marks_of s) (ticks_of s) buffer
      (write-passes (settings_at s) (marks_of s) (ticks_of s) buffer well_formed-back (rw long at room))
      ∙ (λ i. record { verdict = granted (sym long i); buffer = overwrite (sheet_again s small sheet-passed i) buffer }))
    where
      sheet-passed : first_of (sheet_checks s) ≡ none
      sheet-passed = read-sheet-passed s lent_marks lent_readings read_none

      long : length s ≡ sheet_length (settings_at s)
      long = sheet-length-passed s sheet-passed

      same-marks : take (entry_count (settings_at s)) (read s lent_marks lent_readings).marks ≡ marks_of s
      same-marks =
          ap (λ (r : Read). take (entry_count (settings_at s)) r.marks) (read-grants s lent_marks lent_readings read_none)
          ∙ ap (λ (k : ℕ). take k (overwrite (marks_of s) lent_marks)) (sym (length-table (mark_at s) (entry_count (settings_at s))))
          ∙ take-overwrite (marks_of s) lent_marks

      same-readings : take (entry_count (settings_at s)) (read s lent_marks lent_readings).readings ≡ ticks_of s
      same-readings =
          ap (λ (r : Read). take (entry_count (settings_at s)) r.readings) (read-grants s lent_marks lent_readings read_none)
          ∙ ap (λ (k : ℕ). take k (overwrite (ticks_of s) lent_readings))
          (sym (length-table (λ e. to_z w32 (bits_at s (entry_count (settings_at s)) e)) (entry_count (settings_at s))))
          ∙ take-overwrite (ticks_of s) lent_readings
