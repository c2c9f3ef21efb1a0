-- The reader's checks in their order, by what those of the sheet, of the room and of the entries say; and what it means
-- that none refuses.
-- Assumes nothing.
use mathlib.Core.List.{List}
use mathlib.Core.Option.{none, some}
use mathlib.Core.Path.{◌≡◌, refl, sym, ap, ap₂, ◌∙◌}
use Prim.Native.Nat.{ℕ, ◌≤◌}
use native.Mathlib.Omega.{arith}
use Rattle.model.specs.declared.Settings.{Settings}
use Rattle.model.specs.Refusals.{Refusal}
use Rattle.model.specs.RoundSheet.{settings_at, entry_count}
use Rattle.model.specs.Refusals.{Check, or_next, first_of, sheet_checks, entry_checks, read_checks, no_room}
use Rattle.model.specs.Calls.{granted, refused, verdict}
use Rattle.refusal_laws.proofs.Checks.{next-none-left, next-none-right}
use Rattle.sheet_laws.proofs.Checks.{room-passed}
use Rattle.sheet_laws.proofs.Outcomes.{granted-none, granted-same, refused-some}
use Rattle.sheet_laws.proofs.Orders.{read-checks}
use Rattle.sheet_laws.proofs.Inspection.{Inspected, inspected}
use Rattle.sheet_sizes.specs.Bounds.{most_entries}
use Rattle.entry_checks.proofs.Body.{body_checks, parts_checks, body-parts, body-entries}

next_assoc : (a b c : Check) → or_next a (or_next b c) ≡ or_next (or_next a b) c
next_assoc none b c = refl
next_assoc (some r) b c = refl

module _ (s : List ℕ) (m r : ℕ) where
  -- check 7 of both arrays
  abbrev room : Settings → Check
  room c = or_next (no_room m (entry_count c)) (no_room r (entry_count c))

  pub sizes_refused :
      (x : Refusal) → refused x ≡ verdict (first_of (sheet_checks s)) (settings_at s)
      → refused x ≡ verdict (first_of (read_checks s m r)) (settings_at s)
  sizes_refused x h = rw (read-checks s m r, refused-some (first_of (sheet_checks s)) (settings_at s) x (sym h))

  after-sizes :
      (c : Settings) → Inspected s c → first_of (read_checks s m r) ≡ or_next (room c) (first_of (entry_checks s))
  after-sizes c i =
      read-checks s m r
      ∙ rw (i.passes, i.settings)
      (next_assoc (no_room m (entry_count c)) (no_room r (entry_count c)) (first_of (entry_checks s)))

  module _ (c : Settings) (sized : granted c ≡ verdict (first_of (sheet_checks s)) (settings_at s)) where
    i : Inspected s c
    i = inspected s c (sym sized)

    pub room_refused :
        (x : Refusal) → some x ≡ or_next (no_room m (entry_count c)) (no_room r (entry_count c))
        → refused x ≡ verdict (first_of (read_checks s m r)) (settings_at s)
    room_refused x h = rw (after-sizes c i, sym h)

    module _ (pass : none ≡ or_next (no_room m (entry_count c)) (no_room r (entry_count c))) where
      decide : {x : Check} → x ≡ body_checks s c → verdict x c ≡ verdict (first_of (read_checks s m r)) (settings_at s)
      decide h =
          ap₂ verdict
          (h
          ∙ body-entries s c i
          ∙ sym (after-sizes c i ∙ ap (λ (x : Check). or_next x (first_of (entry_checks s))) (sym pass)))
          (sym i.settings)

      pub entries_refused :
          (x : Refusal) → some x ≡ body_checks s c
          → refused x ≡ verdict (first_of (read_checks s m r)) (settings_at s)
      entries_refused x h = decide h

      pub all_granted : none ≡ body_checks s c → granted c ≡ verdict (first_of (read_checks s m r)) (settings_at s)
      all_granted h = decide h

    -- the same, by the checks of both parts
    module _ (E : ℕ) (entries : E ≡ entry_count c) (pass : none ≡ room c) where
      few : E ≤ most_entries
      few = omega (arith, entries, i.few)

      pub parts_refused :
          (x : Refusal) → some x ≡ parts_checks s E
          → refused x ≡ verdict (first_of (read_checks s m r)) (settings_at s)
      parts_refused x h = entries_refused pass x (body-parts s c i.long E entries few h)

      pub parts_granted :
          none ≡ parts_checks s E
          → granted c ≡ verdict (first_of (read_checks s m r)) (settings_at s)
      parts_granted h = all_granted pass (body-parts s c i.long E entries few h)

  -- what it means that checks 1 to 9 grant settings
  pub record Openable (c : Settings) : Type 0 where
    pub sizes : Inspected s c
    pub marks : entry_count c ≤ m
    pub readings : entry_count c ≤ r
    pub checks : first_of (read_checks s m r) ≡ none

  pub openable : (c : Settings) → verdict (first_of (read_checks s m r)) (settings_at s) ≡ granted c → Openable c
  openable c h =
      record {
        sizes = sizes;
        marks =
            room-passed m (entry_count c) (next-none-left (no_room m (entry_count c)) (no_room r (entry_count c)) spacious);
        readings =
            room-passed r (entry_count c) (next-none-right (no_room m (entry_count c)) (no_room r (entry_count c)) spacious);
        checks = checks;
      }
    where
      checks : first_of (read_checks s m r) ≡ none
      checks = granted-none (first_of (read_checks s m r)) (settings_at s) c h

      first : first_of (sheet_checks s) ≡ none
      first = next-none-left (first_of (sheet_checks s)) _ (sym (read-checks s m r) ∙ checks)

      sizes : Inspected s c
      sizes = inspected s c (rw first (ap granted (granted-same (first_of (read_checks s m r)) (settings_at s) c h)))

      spacious : room c ≡ none
      spacious = next-none-left (room c) (first_of (entry_checks s)) (sym (after-sizes c sizes) ∙ checks)

-- what each way out says
pub ruleset ways = (sizes_refused, room_refused, entries_refused, all_granted, parts_refused, parts_granted)
