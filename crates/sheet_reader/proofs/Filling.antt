-- What the reader gives, by its checks and by what is filled.
-- Assumes nothing.
use mathlib.Core.List.{List}
use mathlib.Core.Path.{◌≡◌, sym, ap, ◌∙◌}
use Prim.Native.Nat.{ℕ, ◌+◌, ◌*◌, ◌-◌}
use native.Mathlib.Omega.{arith}
use lib.IntN.{ℤ}
use lib.ListN.{length, take, drop}
use mir.Syntax.{w32}
use mir.Val.{to_z}
use Rattle.arithmetic.specs.Writing.{table, overwrite}
use Rattle.model.specs.declared.Settings.{Settings}
use Rattle.model.specs.Refusals.{Refusal}
use Rattle.model.specs.RoundSheet.{header_size, settings_at, entry_count, mark_at, bits_at}
use Rattle.model.specs.Refusals.{Check, first_of, read_checks}
use Rattle.model.specs.Calls.{granted, refused, verdict, read, read_after, Read}
use Rattle.sheet_laws.proofs.Outcomes.{refused-some, read-grants}
use Rattle.sheet_laws.proofs.Parts.{marks_part, table-part}
use Rattle.reader_checks.proofs.Opening.{Openable}

pub reader_refuses :
    (s marks : List ℕ) (readings : List ℤ) (r : Refusal)
    → refused r ≡ verdict (first_of (read_checks s (length marks) (length readings))) (settings_at s)
    → ◌≡◌ {A = Read} (record { verdict = refused r; marks = marks; readings = readings }) (read s marks readings)
unfolding read
reader_refuses s marks readings r h =
    sym
    (ap (λ (x : Check). read_after x s marks readings)
    (refused-some (first_of (read_checks s (length marks) (length readings))) (settings_at s) r (sym h)))

-- the two arrays filled are what the reader leaves
pub reader_fills :
    (s marks : List ℕ) (readings : List ℤ) (c : Settings) → Openable s (length marks) (length readings) c → (E : ℕ)
    → E ≡ entry_count c → (new_marks : List ℕ) (new_readings : List ℤ) → new_marks ≡ overwrite (table (mark_at s) E) marks
    → new_readings ≡ overwrite (table (λ e. to_z w32 (bits_at s E e)) E) readings
    → ◌≡◌ {A = Read} (record { verdict = granted c; marks = new_marks; readings = new_readings })
    (read s marks readings)
reader_fills s marks readings c o E same new_marks new_readings a b =
    sym
    (read-grants s marks readings o.checks
    ∙ (λ j.
    record {
      verdict = granted (o.sizes.settings j);
      marks = overwrite (table (mark_at s) (entries-same j)) marks;
      readings = overwrite (table (λ e. to_z w32 (bits_at s (entries-same j) e)) (entries-same j)) readings;
    })
    ∙ (λ j. record { verdict = granted c; marks = sym a j; readings = sym b j }))
  where
    entries-same : entry_count (settings_at s) ≡ E
    entries-same = ap entry_count o.sizes.settings ∙ sym same

-- the part copied is the marks
pub marks_part-table : (s : List ℕ) (E : ℕ) → length s ≡ header_size + 5 * E → marks_part s E ≡ table (mark_at s) E
marks_part-table s E long =
    ap (λ (k : ℕ). take k (drop header_size s)) same ∙ sym (table-part s header_size E (omega arith))
  where
    same : header_size + E - header_size ≡ E
    same = omega arith
