-- What it means that no check of a sheet refuses: of its sizes and length (1 to 6), of its marks (8) and of its missing
-- readings (9).
-- Assumes nothing.
use mathlib.Core.Bool.{Bool, true, false, not, ◌&&◌}
use mathlib.Core.List.{List, [], ◌∷◌}
use mathlib.Core.Option.{none}
use mathlib.Core.Path.{◌≡◌, refl, sym, ap, ◌∙◌}
use Prim.Native.Nat.{ℕ, ◌≤◌, ◌<◌}
use native.Mathlib.Omega.{arith}
use borrow.Author.Tests.{le-ltb, ltb-false, eq-eqb, eqb-true, not-false}
use lib.Dec.{ltb, eqb}
use lib.ListN.{length}
use Rattle.arithmetic.specs.Counting.{lowest}
use Rattle.arithmetic.proofs.Counting.{lowest-none, lowest-missed}
use Rattle.model.specs.RoundSheet.{settings_at, entry_count, sheet_length, mark_at, bits_at, header_size}
use Rattle.model.specs.Refusals.{first_of, settings_checks, sheet_checks, entry_checks, too_short, bad_length, no_room, bad_mark, bad_missing}
use Rattle.model.specs.Refusals.{bad_mark_number, bad_missing_number, no_room_number}
use Rattle.refusal_laws.proofs.Checks.{first_append, next-none-right, none-at, none_left, when_none, entry-none}

-- ---- 6: a length

pub length-pass : (given wanted : ℕ) → given ≡ wanted → bad_length given wanted ≡ none
unfolding bad_length
length-pass given wanted h = rw (eq-eqb given wanted h)

pub length-passed : (given wanted : ℕ) → bad_length given wanted ≡ none → given ≡ wanted
unfolding bad_length
length-passed given wanted h = eqb-true given wanted (not-false (eqb given wanted) (when_none (not (eqb given wanted)) 6 h))

-- ---- 7: room

pub room-pass : (given wanted : ℕ) → wanted ≤ given → no_room given wanted ≡ none
unfolding no_room
room-pass given wanted h = rw (le-ltb given wanted h)

pub room-passed : (given wanted : ℕ) → no_room given wanted ≡ none → wanted ≤ given
unfolding no_room
room-passed given wanted h = ltb-false given wanted (when_none (ltb given wanted) no_room_number h)

-- ---- 8 and 9: the entries

module _ (mark : ℕ → ℕ) (E : ℕ) where
  pub marks-pass : ((e : ℕ) → e < E → mark e ≤ 1) → bad_mark mark E ≡ none
  unfolding bad_mark
  marks-pass f = rw (lowest-none (λ e. ltb 1 (mark e)) E (λ e h. le-ltb 1 (mark e) (f e h)))

  pub marks-passed : bad_mark mark E ≡ none → (e : ℕ) → e < E → mark e ≤ 1
  unfolding bad_mark
  marks-passed h e l =
      ltb-false 1 (mark e) (lowest-missed (λ i. ltb 1 (mark i)) E (entry-none (lowest (λ i. ltb 1 (mark i)) E) bad_mark_number h) e l)

  module _ (bits : ℕ → ℕ) where
    zero-missing : (e : ℕ) → (mark e ≡ 0 → bits e ≡ 0) → (eqb (mark e) 0 && not (eqb (bits e) 0)) ≡ false
    zero-missing e f = go (eqb (mark e) 0) refl
      where
        go : (b : Bool) → eqb (mark e) 0 ≡ b → (b && not (eqb (bits e) 0)) ≡ false
        go false m = refl
        go true m = rw (eq-eqb (bits e) 0 (f (eqb-true (mark e) 0 m)))

    pub missing-pass : ((e : ℕ) → e < E → mark e ≡ 0 → bits e ≡ 0) → bad_missing mark bits E ≡ none
    unfolding bad_missing
    missing-pass f =
        rw (lowest-none (λ e. eqb (mark e) 0 && not (eqb (bits e) 0)) E (λ e h. zero-missing e (f e h)))

    pub missing-passed : bad_missing mark bits E ≡ none → (e : ℕ) → e < E → mark e ≡ 0 → bits e ≡ 0
    unfolding bad_missing
    missing-passed h e l m =
        eqb-true (bits e) 0
        (not-false (eqb (bits e) 0)
        (ap (λ (b : Bool). b && not (eqb (bits e) 0)) (sym (eq-eqb (mark e) 0 m))
        ∙ lowest-missed (λ i. eqb (mark i) 0 && not (eqb (bits i) 0)) E
        (entry-none (lowest (λ i. eqb (mark i) 0 && not (eqb (bits i) 0)) E) bad_missing_number h) e l))

-- ---- a whole sheet

module _ (s : List ℕ) where
  pub settings-passed : first_of (sheet_checks s) ≡ none → first_of (settings_checks (settings_at s)) ≡ none
  unfolding sheet_checks first_of
  settings-passed h =
      next-none-right (too_short s) (first_of (settings_checks (settings_at s)))
      (none_left (too_short s ∷ settings_checks (settings_at s)) (bad_length (length s) (sheet_length (settings_at s)) ∷ []) h)

  pub sheet-length-passed : first_of (sheet_checks s) ≡ none → length s ≡ sheet_length (settings_at s)
  unfolding sheet_checks settings_checks
  sheet-length-passed h = length-passed (length s) (sheet_length (settings_at s)) (none-at (sheet_checks s) h 5)

  pub sheet-pass :
      first_of (settings_checks (settings_at s)) ≡ none → length s ≡ sheet_length (settings_at s)
      → first_of (sheet_checks s) ≡ none
  unfolding sheet_checks too_short first_of
  sheet-pass a b =
      let header : ltb (length s) header_size ≡ false = le-ltb (length s) header_size (omega arith) in
      rw (first_append, header, a, length-pass (length s) (sheet_length (settings_at s)) b)

  -- what checks 8 and 9 tell
  pub sheet-marks-passed : first_of (entry_checks s) ≡ none → (e : ℕ) → e < entry_count (settings_at s) → mark_at s e ≤ 1
  unfolding entry_checks
  sheet-marks-passed h = marks-passed (mark_at s) (entry_count (settings_at s)) (none-at (entry_checks s) h 0)

  pub sheet-missing-passed :
      first_of (entry_checks s) ≡ none → (e : ℕ) → e < entry_count (settings_at s) → mark_at s e ≡ 0
      → bits_at s (entry_count (settings_at s)) e ≡ 0
  unfolding entry_checks
  sheet-missing-passed h =
      missing-passed (mark_at s) (entry_count (settings_at s)) (bits_at s (entry_count (settings_at s))) (none-at (entry_checks s) h 1)

  pub sheet-entries-pass :
      ((e : ℕ) → e < entry_count (settings_at s) → mark_at s e ≤ 1)
      → ((e : ℕ) → e < entry_count (settings_at s) → mark_at s e ≡ 0 → bits_at s (entry_count (settings_at s)) e ≡ 0)
      → first_of (entry_checks s) ≡ none
  unfolding entry_checks first_of
  sheet-entries-pass a b =
      rw (
        marks-pass (mark_at s) (entry_count (settings_at s)) a,
        missing-pass (mark_at s) (entry_count (settings_at s)) (bits_at s (entry_count (settings_at s))) b,
      )
