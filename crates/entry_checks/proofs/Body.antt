-- Checks 6, 8 and 9 of a sheet with given settings, by what is found in the parts of it that hold marks and readings;
-- and of a sheet that passes checks 1 to 6.
-- Assumes nothing.
use mathlib.Core.Bool.{false}
use mathlib.Core.List.{List, ◌∷◌}
use mathlib.Core.Option.{Option, some}
use mathlib.Core.Path.{◌≡◌, sym, ap, ap₂, ◌∙◌}
use Prim.Native.Nat.{ℕ, ◌+◌, ◌*◌, ◌-◌, ◌≤◌, ◌<◌}
use native.Mathlib.Nat.{add_assoc}
use native.Mathlib.Omega.{arith}
use borrow.Author.Tests.{eq-eqb, ne_eqb, le-ltb}
use lib.Dec.{ltb}
use lib.ListN.{length, take, drop, length-drop}
use lib.Seq.{length-take-le, get_or-take, get_or-drop, take_all}
use Rattle.model.specs.declared.Settings.{Settings}
use Rattle.arithmetic.specs.Counting.{lowest}
use Rattle.arithmetic.proofs.Counting.{lowest_ext}
use Rattle.model.specs.RoundSheet.{byte, word, entry_count, sheet_length, mark_at, bits_at, header_size}
use Rattle.model.specs.Refusals.{Check, refusal, at_entry, or_next, first_of, array_checks, entry_checks}
use Rattle.model.specs.Refusals.{bad_length, bad_mark, bad_missing, not_zero}
use Rattle.model.specs.Refusals.{bad_length_number, bad_mark_number, bad_missing_number}
use Rattle.refusal_laws.proofs.Checks.{next-none}
use Rattle.sheet_laws.proofs.Checks.{length-pass}
use Rattle.sheet_laws.proofs.Inspection.{Inspected}
use Rattle.sheet_laws.proofs.Parts.{marks_part, length-marks_part}
use Rattle.sheet_laws.proofs.Words.{word_ext}
use Rattle.sheet_sizes.specs.Bounds.{most_entries}
use Rattle.mark_checks.specs.Marks.{marks_in}
use Rattle.missing_search.specs.Missing.{missing_in}

-- a number read in what is left of a list
pub word-drop : (s : List ℕ) (k i : ℕ) → word (drop k s) i ≡ word s (k + i)
word-drop s k i = word_ext (drop k s) s i (k + i) (λ b h. get_or-drop k s (i + b) 0 ∙ ap (byte s) (sym (add_assoc k i b)))

-- the bytes behind the marks
abbrev pub readings_part : List ℕ → ℕ → List ℕ
readings_part s E = take (length s - (header_size + E)) (drop (header_size + E) s)

-- checks 8 and 9 of both parts
abbrev pub parts_checks : List ℕ → ℕ → Check
parts_checks s E = or_next (marks_in (marks_part s E)) (missing_in (marks_part s E) (readings_part s E))

-- ---- checks 8 and 9 of the parts are those of the sheet's entries

module _ (s : List ℕ) (E : ℕ) (long : length s ≡ header_size + 5 * E) where
  marks-at : (e : ℕ) → e < E → byte (marks_part s E) e ≡ mark_at s e
  marks-at e h =
      get_or-take (header_size + E - header_size) (drop header_size s) e 0 (omega arith) ∙ get_or-drop header_size s e 0

  readings-rest : readings_part s E ≡ drop (header_size + E) s
  readings-rest =
      take_all (length s - (header_size + E)) (drop (header_size + E) s)
      (let d = length-drop (header_size + E) s in omega arith)

  readings-at : (e : ℕ) → word (readings_part s E) (4 * e) ≡ bits_at s E e
  readings-at e = ap (λ (l : List ℕ). word l (4 * e)) readings-rest ∙ word-drop s (header_size + E) (4 * e)

  -- there are four bytes for each mark
  four : length (readings_part s E) ≡ 4 * length (marks_part s E)
  four =
      let marks = length-marks_part s E long in
      let d = length-drop (header_size + E) s in
      let readings = length-take-le (length s - (header_size + E)) (drop (header_size + E) s) (omega arith) in
      omega arith

  marks_checked : bad_mark (byte (marks_part s E)) (length (marks_part s E)) ≡ bad_mark (mark_at s) E
  unfolding bad_mark
  marks_checked =
      ap (λ (k : ℕ). at_entry (lowest (λ e. ltb 1 (byte (marks_part s E) e)) k) bad_mark_number) (length-marks_part s E long)
      ∙ ap (λ (o : Option ℕ). at_entry o bad_mark_number)
      (lowest_ext (λ e. ltb 1 (byte (marks_part s E) e)) (λ e. ltb 1 (mark_at s e)) E
      (λ e h. ap (ltb 1) (marks-at e h)))

  missing_checked :
      bad_missing (byte (marks_part s E)) (λ e. word (readings_part s E) (4 * e)) (length (marks_part s E))
      ≡ bad_missing (mark_at s) (bits_at s E) E
  unfolding bad_missing
  missing_checked =
      ap
      (λ (k : ℕ).
      at_entry (lowest (λ e. not_zero (byte (marks_part s E) e) (word (readings_part s E) (4 * e))) k) bad_missing_number)
      (length-marks_part s E long)
      ∙ ap (λ (o : Option ℕ). at_entry o bad_missing_number)
      (lowest_ext
      (λ e. not_zero (byte (marks_part s E) e) (word (readings_part s E) (4 * e)))
      (λ e. not_zero (mark_at s e) (bits_at s E e))
      E
      (λ e h. ap₂ not_zero (marks-at e h) (readings-at e)))

  module _ (few : E ≤ most_entries) where
    fits : ltb most_entries (length (marks_part s E)) ≡ false
    fits = le-ltb most_entries (length (marks_part s E)) (rw (length-marks_part s E long) few)

    parts-marks : marks_in (marks_part s E) ≡ bad_mark (mark_at s) E
    unfolding marks_in
    parts-marks = rw fits marks_checked

    parts-missing : missing_in (marks_part s E) (readings_part s E) ≡ bad_missing (mark_at s) (bits_at s E) E
    unfolding missing_in
    parts-missing = rw (fits, eq-eqb (length (readings_part s E)) (4 * length (marks_part s E)) four) missing_checked

-- ---- checks 6, 8 and 9

module _ (s : List ℕ) (c : Settings) where
  abbrev pub body_checks : Check
  body_checks =
      first_of (bad_length (length s) (sheet_length c) ∷ array_checks (mark_at s) (bits_at s (entry_count c)) (entry_count c))

  pub body-length-refused :
      (wanted : ℕ) → wanted ≡ sheet_length c → (length s ≡ wanted → ⊥) → some (refusal bad_length_number 0) ≡ body_checks
  unfolding first_of bad_length
  body-length-refused wanted same h = rw (ne_eqb (length s) (sheet_length c) (λ e. h (e ∙ sym same)))

  module _ (long : length s ≡ sheet_length c) where
    -- of a sheet of its length checks 8 and 9 are left
    body-checks :
        body_checks
        ≡ or_next (bad_mark (mark_at s) (entry_count c)) (bad_missing (mark_at s) (bits_at s (entry_count c)) (entry_count c))
    unfolding first_of
    body-checks =
        rw (
          length-pass (length s) (sheet_length c) long,
          next-none (bad_missing (mark_at s) (bits_at s (entry_count c)) (entry_count c)),
        )

    -- what is found in the parts says which refuses
    pub body-parts :
        (E : ℕ) → E ≡ entry_count c → E ≤ most_entries → {x : Check} → x ≡ parts_checks s E → x ≡ body_checks
    body-parts E same few e =
        let sized : length s ≡ header_size + 5 * E = long ∙ ap (λ (k : ℕ). header_size + 5 * k) (sym same) in
        e
        ∙ ap₂ or_next (parts-marks s E sized few) (parts-missing s E sized few)
        ∙ ap (λ (k : ℕ). or_next (bad_mark (mark_at s) k) (bad_missing (mark_at s) (bits_at s k) k)) same
        ∙ sym body-checks

-- with the settings that checks 1 to 6 grant they are those of the sheet
pub body-entries :
    (s : List ℕ) (c : Settings) → Inspected s c
    → first_of (bad_length (length s) (sheet_length c) ∷ array_checks (mark_at s) (bits_at s (entry_count c)) (entry_count c))
    ≡ first_of (entry_checks s)
unfolding entry_checks first_of
body-entries s c i =
    rw (length-pass (length s) (sheet_length c) i.long)
    (ap (λ (d : Settings). first_of (array_checks (mark_at s) (bits_at s (entry_count d)) (entry_count d)))
    (sym i.settings))
