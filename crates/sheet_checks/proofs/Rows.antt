-- What checks 1 to 6, and then 8 and 9, say of a sheet.
-- Assumes nothing.
use Rattle.std.proofs.Common.{◌≡◌, List, ℕ, sym, ap, ◌∙◌, [], ◌∷◌, length}
use Rattle.std.proofs.Math.Option.{none, some}
use Rattle.model.specs.declared.Settings.{Settings}
use Rattle.model.specs.RoundSheet.{settings_at, entry_count, sheet_length, mark_at, bits_at}
use Rattle.model.specs.Refusals.{Check, Refusal, first_of, or_next, bad_length, array_checks, sheet_checks, entry_checks}
use Rattle.model.specs.Refusals.{row_checks}
use Rattle.model.specs.Calls.{verdict, granted, refused}
use Rattle.sheet_laws.proofs.Outcomes.{refused-some}
use Rattle.sheet_laws.proofs.Orders.{row-checks}
use Rattle.sheet_laws.proofs.Inspection.{Inspected, inspected}
use Rattle.entry_checks.proofs.Body.{body-entries}

module _ (s : List ℕ) where
  pub size_refused :
      (r : Refusal) → refused r ≡ verdict (first_of (sheet_checks s)) (settings_at s)
      → refused r ≡ verdict (first_of (row_checks s)) (settings_at s)
  size_refused r h =
      sym
      (ap (λ (x : Check). verdict x (settings_at s))
      (row-checks s
      ∙ ap (λ (x : Check). or_next x (first_of (entry_checks s)))
      (refused-some (first_of (sheet_checks s)) (settings_at s) r (sym h))))

  module _ (c : Settings) (granted_sizes : granted c ≡ verdict (first_of (sheet_checks s)) (settings_at s)) where
    abbrev sized : Inspected s c
    sized = inspected s c (sym granted_sizes)

    abbrev pub entries_checked : Check
    entries_checked =
        first_of
        (bad_length (length s) (sheet_length c) ∷ array_checks (mark_at s) (bits_at s (entry_count c)) (entry_count c))

    rest : {x : Check} → x ≡ entries_checked → verdict x c ≡ verdict (first_of (row_checks s)) (settings_at s)
    rest e =
        ap (λ (x : Check). verdict x c)
        (e
        ∙ body-entries s c sized
        ∙ sym (row-checks s ∙ ap (λ (x : Check). or_next x (first_of (entry_checks s))) sized.passes))
        ∙ ap (verdict (first_of (row_checks s))) (sym sized.settings)

    pub entries_refused :
        (r : Refusal) → some r ≡ entries_checked → refused r ≡ verdict (first_of (row_checks s)) (settings_at s)
    entries_refused r e = rest e

    pub entries_granted : none ≡ entries_checked → granted c ≡ verdict (first_of (row_checks s)) (settings_at s)
    entries_granted e = rest e

-- what each way out says
pub ruleset ways = (size_refused, entries_refused, entries_granted)
