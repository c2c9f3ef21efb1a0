-- A sheet that was read writes back: where checks 1 to 6 pass, `sheet_bytes` of the sheet's own settings, marks and
-- readings is the sheet.
-- Assumes nothing.
use mathlib.Core.List.{List, [], ◌∷◌, ◌++◌, append-nil}
use mathlib.Core.Option.{none}
use mathlib.Core.Path.{◌≡◌, refl, sym, ap, ap₂, ◌∙◌}
use Prim.Native.Nat.{ℕ, zero, suc, ◌+◌, ◌*◌, ◌≤◌, ◌<◌}
use native.Mathlib.Omega.{arith}
use lib.IntN.{pos}
use lib.ListN.{length, take, drop, length-drop, take-append-drop}
use lib.Seq.{take-add, drop-drop, take_all}
use mir.Syntax.{w32}
use mir.Val.{to_z, of_z}
use mir.Facts.{of_z-to_z, Fits-of_lt, sfits_to_z}
use Rattle.arithmetic.specs.Writing.{table}
use Rattle.arithmetic.proofs.Writing.{length-table, get_d_table}
use Rattle.model.specs.RoundSheet.{byte, word, settings_at, entry_count, mark_at, bits_at, bytes4, reading_bytes, size_bytes, sheet_bytes}
use Rattle.model.specs.Refusals.{first_of, sheet_checks, entry_checks}
use Rattle.model.specs.Calls.{marks_of, ticks_of}
use Rattle.model.specs.RoundSheet.{header_size}
use Rattle.sheet_laws.proofs.Checks.{settings-passed, sheet-length-passed, sheet-marks-passed, sheet-missing-passed}
use Rattle.sheet_laws.proofs.Parts.{table-part}
use Rattle.sheet_laws.proofs.Words.{word_fits, bytes4-word, take4}
use Rattle.sheet_laws.proofs.Readings.{reading_bytes_append}
use Rattle.sheet_laws.proofs.Written.{WellFormed}

module _ (s : List ℕ) (small : (i : ℕ) → byte s i < 256) where
  -- so are the bytes of the readings in it
  pub readings-part :
      (k n : ℕ) → k + 4 * n ≤ length s
      → reading_bytes (table (λ e. to_z w32 (word s (k + 4 * e))) n) ≡ take (4 * n) (drop k s)
  unfolding reading_bytes table
  readings-part k zero h = refl
  readings-part k (suc n) h =
      reading_bytes_append (table (λ e. to_z w32 (word s (k + 4 * e))) n) (to_z w32 (word s (k + 4 * n)) ∷ [])
      ∙ ap₂ (λ (l r : List ℕ). l ++ r) (readings-part k n (omega arith)) last
      ∙ sym (ap (λ (x : ℕ). take x (drop k s)) more ∙ take-add (4 * n) 4 (drop k s))
    where
      more : 4 * suc n ≡ 4 * n + 4
      more = omega arith

      fits : k + 4 * n + 4 ≤ length s
      fits = omega arith

      last : bytes4 (of_z w32 (to_z w32 (word s (k + 4 * n)))) ++ [] ≡ take 4 (drop (4 * n) (drop k s))
      last =
          append-nil (bytes4 (of_z w32 (to_z w32 (word s (k + 4 * n)))))
          ∙ ap bytes4 (of_z-to_z {w = w32} (Fits-of_lt (word_fits s (k + 4 * n) small)))
          ∙ bytes4-word s (k + 4 * n) small fits
          ∙ sym (ap (take 4) (drop-drop (4 * n) k s))

  -- the sizes
  pub sizes-part : header_size ≤ length s → size_bytes (settings_at s) ≡ take header_size s
  unfolding size_bytes
  sizes-part h =
      ap₂ (λ (l r : List ℕ). l ++ r) (sym (take4 s 0 (omega arith))) (bytes4-word s 4 small h) ∙ sym (take-add 4 4 s)

  pub sheet_again : first_of (sheet_checks s) ≡ none → sheet_bytes (settings_at s) (marks_of s) (ticks_of s) ≡ s
  unfolding sheet_bytes
  sheet_again h = joined (entry_count (settings_at s)) (sheet-length-passed s h)
    where
      joined :
          (E : ℕ) → length s ≡ header_size + 5 * E
          → size_bytes (settings_at s) ++ (table (mark_at s) E ++ reading_bytes (table (λ e. to_z w32 (bits_at s E e)) E))
          ≡ s
      joined E long =
          let sizes : size_bytes (settings_at s) ≡ take header_size s = sizes-part (omega arith) in
          let marks : table (mark_at s) E ≡ take E (drop header_size s) = table-part s header_size E (omega arith) in
          let readings : reading_bytes (table (λ e. to_z w32 (bits_at s E e)) E) ≡ take (4 * E) (drop (header_size + E) s) = readings-part (header_size + E) E (omega arith) in
          let rest : take (4 * E) (drop (header_size + E) s) ≡ drop (header_size + E) s = take_all (4 * E) (drop (header_size + E) s) (let d = length-drop (header_size + E) s in omega arith) in
          ap₂ (λ (l r : List ℕ). l ++ r) sizes
          (ap₂ (λ (l r : List ℕ). l ++ r) marks (readings ∙ rest ∙ sym (drop-drop E header_size s)) ∙ take-append-drop E (drop header_size s))
          ∙ take-append-drop header_size s

  -- a sheet that passes every check is made of settings, marks and readings that a writer takes
  pub sheet_well_formed :
      first_of (sheet_checks s) ≡ none → first_of (entry_checks s) ≡ none
      → WellFormed (settings_at s) (marks_of s) (ticks_of s)
  sheet_well_formed a b = made (entry_count (settings_at s)) refl
    where
      made :
          (E : ℕ) → entry_count (settings_at s) ≡ E
          → WellFormed (settings_at s) (table (mark_at s) E) (table (λ e. to_z w32 (bits_at s E e)) E)
      made E same =
          record {
            settings_pass = settings-passed s a;
            marks_long = length-table (mark_at s) E ∙ sym same;
            readings_long = length-table (λ e. to_z w32 (bits_at s E e)) E ∙ sym same;
            marks_pass = λ e h. rw (get_d_table (mark_at s) E e 0 (rw same at h)) (sheet-marks-passed s b e h);
            readings_fit = λ e h.
                rw (get_d_table (λ i. to_z w32 (bits_at s E i)) E e (pos 0) (rw same at h))
                (sfits_to_z {w = w32} (Fits-of_lt (word_fits s (header_size + E + 4 * e) small)));
            missing_zero = λ e h m.
                get_d_table (λ i. to_z w32 (bits_at s E i)) E e (pos 0) (rw same at h)
                ∙ ap (to_z w32)
                (ap (λ (k : ℕ). bits_at s k e) (sym same)
                ∙ sheet-missing-passed s b e h (sym (get_d_table (mark_at s) E e 0 (rw same at h)) ∙ m));
          }
