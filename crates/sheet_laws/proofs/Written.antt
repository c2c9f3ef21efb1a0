-- A sheet that was written reads back: the settings, the marks, the readings and each entry of `sheet_bytes` are those
-- that it was made from, its length is the sheet's, and no check of a sheet refuses it.
-- Assumes nothing.
use mathlib.Core.Bool.{cond}
use mathlib.Core.List.{List, [], ◌++◌, append-nil}
use mathlib.Core.Option.{none}
use mathlib.Core.Path.{◌≡◌, refl, sym, ap, ap₂, ◌∙◌}
use Prim.Native.Nat.{ℕ, ◌+◌, ◌*◌, ◌≤◌, ◌<◌}
use native.Mathlib.Nat.{add_assoc}
use native.Mathlib.Omega.{arith}
use lib.Dec.{eqb}
use lib.IntN.{ℤ, pos}
use lib.ListN.{length, get_or, length-append}
use mir.Syntax.{w32}
use mir.Val.{SFits, to_z, of_z}
use mir.Facts.{to_z-of_z}
use Rattle.arithmetic.specs.Writing.{table}
use Rattle.arithmetic.proofs.Writing.{table_ext, table_get_d}
use Rattle.arithmetic.specs.Words.{two_to32}
use Rattle.model.specs.declared.Settings.{Settings}
use Rattle.model.specs.Ensemble.{Reading, missing, present}
use Rattle.model.specs.RoundSheet.{word, settings_at, entry_count, sheet_length, mark_at, bits_at, entry_at, bytes4, reading_bytes, size_bytes, sheet_bytes}
use Rattle.model.specs.Refusals.{first_of, settings_checks, sheet_checks, entry_checks}
use Rattle.model.specs.Calls.{marks_of, ticks_of}
use Rattle.model.specs.RoundSheet.{header_size}
use Rattle.sheet_laws.proofs.Checks.{sheet-pass, sheet-entries-pass}
use Rattle.refusal_laws.proofs.Limits.{limits}
use Rattle.sheet_laws.proofs.Words.{digits4, byte_append_left, byte_append_right, word_append_right}
use Rattle.sheet_laws.proofs.Readings.{length-reading_bytes, word-readings}

-- settings, marks and readings that make a sheet: the settings pass checks 2 to 5, there is a mark of 0 or 1 and a reading of 32
-- signed bits for each entry, and a missing entry's reading is 0
pub record WellFormed (c : Settings) (marks : List ℕ) (readings : List ℤ) : Type 0 where
  pub settings_pass : first_of (settings_checks c) ≡ none
  pub marks_long : length marks ≡ entry_count c
  pub readings_long : length readings ≡ entry_count c
  pub marks_pass : (e : ℕ) → e < entry_count c → get_or marks e 0 ≤ 1
  pub readings_fit : (e : ℕ) → e < entry_count c → SFits w32 (get_or readings e (pos 0))
  pub missing_zero : (e : ℕ) → e < entry_count c → get_or marks e 0 ≡ 0 → get_or readings e (pos 0) ≡ pos 0

pub length-size_bytes : (c : Settings) → length (size_bytes c) ≡ header_size
unfolding size_bytes bytes4
length-size_bytes c = refl

module _ (c : Settings) (marks : List ℕ) (readings : List ℤ) where
  pub written-settings : c.window < two_to32 → settings_at (sheet_bytes c marks readings) ≡ c
  unfolding sheet_bytes size_bytes bytes4 word
  written-settings h =
      ap (λ (w : ℕ). record { n = c.n; m = c.m; rule = c.rule; estimator = c.estimator; window = w }) (digits4 c.window h)

  pub written-length :
      length marks ≡ entry_count c → length readings ≡ entry_count c
      → length (sheet_bytes c marks readings) ≡ sheet_length c
  unfolding sheet_bytes
  written-length a b =
      let whole = length-append (size_bytes c) (marks ++ reading_bytes readings) in
      let sizes = length-size_bytes c in
      let entries = length-append marks (reading_bytes readings) in
      let words = length-reading_bytes readings in
      omega arith

  -- a mark and a reading's bits, each at its place
  pub written-mark : (e : ℕ) → e < length marks → mark_at (sheet_bytes c marks readings) e ≡ get_or marks e 0
  unfolding sheet_bytes
  written-mark e h =
      byte_append_right (size_bytes c) (marks ++ reading_bytes readings) header_size e (length-size_bytes c)
      ∙ byte_append_left marks (reading_bytes readings) e h

  pub written-bits :
      (e : ℕ) → length marks ≡ entry_count c → e < length readings → SFits w32 (get_or readings e (pos 0))
      → bits_at (sheet_bytes c marks readings) (entry_count c) e ≡ of_z w32 (get_or readings e (pos 0))
  unfolding sheet_bytes
  written-bits e a h fits =
      ap (word (size_bytes c ++ (marks ++ reading_bytes readings))) (add_assoc header_size (entry_count c) (4 * e))
      ∙ word_append_right (size_bytes c) (marks ++ reading_bytes readings) header_size (entry_count c + 4 * e) (length-size_bytes c)
      ∙ word_append_right marks (reading_bytes readings) (entry_count c) (4 * e) a
      ∙ ap (λ (l : List ℕ). word l (4 * e)) (sym (append-nil (reading_bytes readings)))
      ∙ word-readings readings [] e h fits

-- an entry that a mark and a reading make
abbrev pub entry_with : ℕ → ℤ → Reading
entry_with mark z = cond (eqb mark 1) (present z) missing

module _ (c : Settings) (marks : List ℕ) (readings : List ℤ) (w : WellFormed c marks readings) where
  window-fits : c.window < two_to32
  window-fits = let l = limits c w.settings_pass in omega arith

  -- the sheet's settings
  pub settings-back : settings_at (sheet_bytes c marks readings) ≡ c
  settings-back = written-settings c marks readings window-fits

  pub length_back : length (sheet_bytes c marks readings) ≡ sheet_length c
  length_back = written-length c marks readings w.marks_long w.readings_long

  pub mark-back : (e : ℕ) → e < entry_count c → mark_at (sheet_bytes c marks readings) e ≡ get_or marks e 0
  mark-back e h = written-mark c marks readings e (rw w.marks_long h)

  pub bits_back :
      (e : ℕ) → e < entry_count c
      → bits_at (sheet_bytes c marks readings) (entry_count c) e ≡ of_z w32 (get_or readings e (pos 0))
  bits_back e h = written-bits c marks readings e w.marks_long (rw w.readings_long h) (w.readings_fit e h)

  pub ticks-back :
      (e : ℕ) → e < entry_count c
      → to_z w32 (bits_at (sheet_bytes c marks readings) (entry_count c) e) ≡ get_or readings e (pos 0)
  ticks-back e h = ap (to_z w32) (bits_back e h) ∙ to_z-of_z (w.readings_fit e h)

  -- the reader's marks and readings
  pub marks-back : marks_of (sheet_bytes c marks readings) ≡ marks
  marks-back =
      ap (λ (d : Settings). table (mark_at (sheet_bytes c marks readings)) (entry_count d)) settings-back
      ∙ table_ext (mark_at (sheet_bytes c marks readings)) (λ e. get_or marks e 0) (entry_count c) mark-back
      ∙ ap (table (λ e. get_or marks e 0)) (sym w.marks_long)
      ∙ table_get_d marks 0

  pub readings-back : ticks_of (sheet_bytes c marks readings) ≡ readings
  readings-back =
      ap (λ (d : Settings). table (λ e. to_z w32 (bits_at (sheet_bytes c marks readings) (entry_count d) e)) (entry_count d)) settings-back
      ∙ table_ext (λ e. to_z w32 (bits_at (sheet_bytes c marks readings) (entry_count c) e)) (λ e. get_or readings e (pos 0)) (entry_count c) ticks-back
      ∙ ap (table (λ e. get_or readings e (pos 0))) (sym w.readings_long)
      ∙ table_get_d readings (pos 0)

  -- each entry
  pub entry-back :
      (e : ℕ) → e < entry_count c
      → entry_at (sheet_bytes c marks readings) (entry_count c) e ≡ entry_with (get_or marks e 0) (get_or readings e (pos 0))
  unfolding entry_at
  entry-back e h = ap₂ entry_with (mark-back e h) (ticks-back e h)

  -- no check of a sheet refuses it
  pub sheet-passes : first_of (sheet_checks (sheet_bytes c marks readings)) ≡ none
  sheet-passes =
      sheet-pass (sheet_bytes c marks readings)
      (ap (λ (d : Settings). first_of (settings_checks d)) settings-back ∙ w.settings_pass)
      (length_back ∙ ap (λ (d : Settings). sheet_length d) (sym settings-back))

  pub entries-pass : first_of (entry_checks (sheet_bytes c marks readings)) ≡ none
  entries-pass = sheet-entries-pass (sheet_bytes c marks readings) (rw settings-back marks-fine) (rw settings-back missing-fine)
    where
      marks-fine : (e : ℕ) → e < entry_count c → mark_at (sheet_bytes c marks readings) e ≤ 1
      marks-fine e h = rw (mark-back e h) (w.marks_pass e h)

      missing-fine :
          (e : ℕ) → e < entry_count c → mark_at (sheet_bytes c marks readings) e ≡ 0
          → bits_at (sheet_bytes c marks readings) (entry_count c) e ≡ 0
      missing-fine e h m = bits_back e h ∙ ap (of_z w32) (w.missing_zero e h (sym (mark-back e h) ∙ m))
