-- The writer's checks in their order, by the lengths and by what is found in the entries; and what it means that those
-- of the lengths pass.
-- Assumes nothing.
use Rattle.std.proofs.Common.{not, eqb, ltb}
use mathlib.Core.List.{List, [], ◌∷◌, ◌++◌, append_assoc}
use mathlib.Core.Option.{none, some}
use mathlib.Core.Path.{◌≡◌, refl, sym, ap, ap₂, ◌∙◌}
use Prim.Native.Nat.{ℕ, ◌+◌, ◌*◌, ◌≤◌}
use native.Mathlib.Omega.{arith}
use lib.IntN.{ℤ}
use lib.ListN.{length}
use Rattle.model.specs.declared.Settings.{Settings}
use Rattle.model.specs.Refusals.{refuse_if, bad_length_number, no_room_number}
use Rattle.model.specs.Refusals.{Refusal}
use Rattle.model.specs.RoundSheet.{header_size, byte, bits_in, entry_count, sheet_length}
use Rattle.model.specs.Refusals.{Check, or_next, first_of, settings_checks, array_checks, write_checks}
use Rattle.model.specs.Refusals.{bad_length, no_room, bad_mark, bad_missing}
use Rattle.refusal_laws.proofs.Checks.{first_append, next-none, next-none-left, none_left, none_right, none-at}
use Rattle.refusal_laws.proofs.Limits.{limits, entries-most}
use Rattle.sheet_laws.proofs.Checks.{length-passed, room-passed}
use Rattle.sheet_sizes.specs.Bounds.{most_entries}
use Rattle.mark_checks.specs.Marks.{marks_in}
use Rattle.mark_checks.proofs.Marks.{marks-searched}
use Rattle.writer_checks.specs.Lengths.{length_checks}

-- ---- checks 2 to 7

module _ (c : Settings) (m r room : ℕ) where
  -- the first of them, check by check
  pub length-checks :
      first_of (length_checks c m r room)
      ≡ or_next (first_of (settings_checks c))
      (or_next (bad_length m (entry_count c)) (or_next (bad_length r (entry_count c)) (no_room room (sheet_length c))))
  unfolding length_checks first_of
  length-checks =
      first_append (settings_checks c)
      (bad_length m (entry_count c) ∷ bad_length r (entry_count c) ∷ no_room room (sheet_length c) ∷ [])
      ∙ ap
      (λ (x : Check).
      or_next (first_of (settings_checks c)) (or_next (bad_length m (entry_count c)) (or_next (bad_length r (entry_count c)) x)))
      (next-none (no_room room (sheet_length c)))

  -- what it means that they pass
  pub record Writable : Type 0 where
    pub marks_long : m ≡ entry_count c
    pub readings_long : r ≡ entry_count c
    pub enough : sheet_length c ≤ room
    pub few : entry_count c ≤ 4096

  pub writable : first_of (length_checks c m r room) ≡ none → Writable
  unfolding length_checks
  writable h =
      let lengths = bad_length m (entry_count c) ∷ bad_length r (entry_count c) ∷ no_room room (sheet_length c) ∷ [] in
      let later = none_right (settings_checks c) lengths h in
      record {
        marks_long = length-passed m (entry_count c) (none-at lengths later 0);
        readings_long = length-passed r (entry_count c) (none-at lengths later 1);
        enough = room-passed room (sheet_length c) (none-at lengths later 2);
        few = entries-most c (limits c (none_left (settings_checks c) lengths h)).cabinets;
      }

-- ---- checks 2 to 9

module _ (c : Settings) (marks : List ℕ) (readings : List ℤ) (room : ℕ) where
  -- those of the lengths stand before those of the entries
  pub write-order :
      first_of (write_checks c marks readings room)
      ≡ or_next (first_of (length_checks c (length marks) (length readings) room))
      (first_of (array_checks (byte marks) (bits_in readings) (entry_count c)))
  unfolding write_checks length_checks
  write-order =
      let lengths =
      bad_length (length marks) (entry_count c)
      ∷ bad_length (length readings) (entry_count c)
      ∷ no_room room (sheet_length c)
      ∷ []
      in
      let entries = array_checks (byte marks) (bits_in readings) (entry_count c) in
      ap first_of (sym (append_assoc (settings_checks c) lengths entries))
      ∙ first_append (settings_checks c ++ lengths) entries

  pub lengths_refused :
      (r : Refusal) → some r ≡ first_of (length_checks c (length marks) (length readings) room)
      → some r ≡ first_of (write_checks c marks readings room)
  lengths_refused r h =
      sym
      (write-order
      ∙ ap (λ (x : Check). or_next x (first_of (array_checks (byte marks) (bits_in readings) (entry_count c)))) (sym h))

  both :
      first_of (array_checks (byte marks) (bits_in readings) (entry_count c))
      ≡ or_next (bad_mark (byte marks) (entry_count c)) (bad_missing (byte marks) (bits_in readings) (entry_count c))
  unfolding first_of
  both =
      ap (or_next (bad_mark (byte marks) (entry_count c)))
      (next-none (bad_missing (byte marks) (bits_in readings) (entry_count c)))

  module _ (w : Writable c (length marks) (length readings) room) where
    pub few-marks : length marks ≤ most_entries
    few-marks =
        let long = w.marks_long in
        let few = w.few in
        omega arith

    -- what is found in the entries says which refuses
    pub entries_decide :
        first_of (length_checks c (length marks) (length readings) room) ≡ none → {x found missing : Check}
        → x ≡ or_next found missing → found ≡ marks_in marks
        → missing ≡ bad_missing (byte marks) (bits_in readings) (length marks)
        → x ≡ first_of (write_checks c marks readings room)
    entries_decide pass e a b =
        e
        ∙ ap₂ or_next (a ∙ marks-searched marks few-marks) b
        ∙ ap (λ (E : ℕ). or_next (bad_mark (byte marks) E) (bad_missing (byte marks) (bits_in readings) E)) w.marks_long
        ∙ sym
        (write-order
        ∙ ap (λ (x : Check). or_next x (first_of (array_checks (byte marks) (bits_in readings) (entry_count c)))) pass
        ∙ both)

  -- where the marks are refused, they refuse first
  pub marks_refused :
      none ≡ first_of (length_checks c (length marks) (length readings) room) → (r : Refusal) → some r ≡ marks_in marks
      → some r ≡ first_of (write_checks c marks readings room)
  marks_refused pass r e =
      entries_decide (writable c (length marks) (length readings) room (sym pass)) (sym pass)
      {x = some r} {found = some r} {missing = bad_missing (byte marks) (bits_in readings) (length marks)} refl e refl

  -- where all pass, the sheet lies in the buffer
  pub written-within :
      first_of (write_checks c marks readings room) ≡ none → header_size + length marks + 4 * length readings ≤ room
  written-within h =
      let first = first_of (length_checks c (length marks) (length readings) room) in
      let entries = first_of (array_checks (byte marks) (bits_in readings) (entry_count c)) in
      let w = writable c (length marks) (length readings) room (next-none-left first entries (sym write-order ∙ h)) in
      let long = w.marks_long in
      let also = w.readings_long in
      let enough = w.enough in
      omega arith

-- checks 2 to 7, one after the other
pub lengths_in_turn :
    (c : Settings) (m r room : ℕ)
    → first_of (length_checks c m r room)
    ≡ or_next (first_of (settings_checks c))
    (or_next (refuse_if (not (eqb m (entry_count c))) bad_length_number)
    (or_next (refuse_if (not (eqb r (entry_count c))) bad_length_number)
    (refuse_if (ltb room (sheet_length c)) no_room_number)))
unfolding bad_length no_room
lengths_in_turn c m r room = length-checks c m r room
