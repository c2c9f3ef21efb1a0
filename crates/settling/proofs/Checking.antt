-- Checks 1 to 9 and 16 before settling, by what the inspections answered: which refusal is the first, or that only check 10
-- is left.
-- Assumes nothing.
use mathlib.Core.List.{List, ◌∷◌}
use mathlib.Core.Option.{none, some}
use mathlib.Core.Path.{◌≡◌, sym, ap, ◌∙◌}
use Prim.Native.Nat.{ℕ, ◌≤◌, ◌<◌}
use borrow.Author.Tests.{lt-ltb}
use lib.ListN.{length}
use Rattle.model.specs.declared.Settings.{Settings}
use Rattle.model.specs.Refusals.{Refusal}
use Rattle.model.specs.Ensemble.{max_window, max_spread}
use Rattle.model.specs.RoundSheet.{settings_at, entry_count, sheet_length, mark_at, bits_at}
use Rattle.model.specs.AnswerSheet.{answer_length}
use Rattle.model.specs.Refusals.{Check, refusal, or_next, first_of, no_room, bad_length, too_many_faults, no_room_number}
use Rattle.model.specs.Refusals.{bad_spread, sheet_checks, spread_checks, entry_checks, row_checks, settle_checks, array_checks}
use Rattle.model.specs.Calls.{granted, refused, verdict, settle_after, settle_spread}
use Rattle.model.specs.Steps.{round_at}
use Rattle.refusal_laws.proofs.Checks.{next-none-left, next-none-right}
use Rattle.refusal_laws.proofs.Limits.{limits, spread-most}
use Rattle.sheet_laws.proofs.Checks.{room-pass, settings-passed}
use Rattle.sheet_laws.proofs.Outcomes.{refused-some, granted-none, granted-same}
use Rattle.sheet_laws.proofs.Orders.{row-checks, spread-passes, spread-passed, settle-checks}
use Rattle.sheet_laws.proofs.Inspection.{inspected}
use Rattle.entry_checks.proofs.Body.{body-entries}

-- where checks 1 to 9 pass only check 10 is left
pub sheet-passed : (s : List ℕ) → first_of (row_checks s) ≡ none → first_of (sheet_checks s) ≡ none
sheet-passed s pass = next-none-left (first_of (sheet_checks s)) (first_of (entry_checks s)) (sym (row-checks s) ∙ pass)

pub passes-settle :
    (s : List ℕ) (D : ℕ) (answer : List ℕ)
    → first_of (row_checks s) ≡ none
    → bad_spread (settings_at s) D ≡ none
    → answer_length (settings_at s).n ≤ length answer
    → settle_after (too_many_faults (round_at s D).count) s D answer ≡ settle_spread s D answer
unfolding settle_spread
passes-settle s D answer pass spread room = ap (λ (r : Check). settle_after r s D answer) (sym left)
  where
    left : first_of (settle_checks s D (length answer)) ≡ too_many_faults (round_at s D).count
    left =
        let roomy = room-pass (length answer) (answer_length (settings_at s).n) room in
        let passed = next-none-right (first_of (sheet_checks s)) (first_of (entry_checks s)) (sym (row-checks s) ∙ pass) in
        settle-checks s D (length answer) ∙ rw (spread-passes s D spread, sheet-passed s pass, roomy, passed)

module _ (s : List ℕ) (D : ℕ) (answer : List ℕ) where
  -- settling by its checks
  by-checks :
      (check : Check) → first_of (settle_checks s D (length answer)) ≡ check → settle_after check s D answer ≡ settle_spread s D answer
  unfolding settle_spread
  by-checks check e = ap (λ (r : Check). settle_after r s D answer) (sym e)

  -- checks 8 to 10, and 7 before them
  abbrev from8 : Check
  from8 = or_next (first_of (entry_checks s)) (too_many_faults (round_at s D).count)

  abbrev from7 : Check
  from7 = or_next (no_room (length answer) (answer_length (settings_at s).n)) from8

  -- checks 1 to 5, 16 and 6
  pub inspection_refuses :
      (r : Refusal)
      → refused r ≡ verdict (first_of (spread_checks s D)) (settings_at s)
      → record { verdict = refused r; buffer = answer } ≡ settle_spread s D answer
  inspection_refuses r e =
      by-checks (some r)
      (settle-checks s D (length answer)
      ∙ ap (λ (check : Check). or_next check from7) (refused-some (first_of (spread_checks s D)) (settings_at s) r (sym e)))

  module _ (c : Settings) (opened : granted c ≡ verdict (first_of (spread_checks s D)) (settings_at s)) where
    opened_passes : first_of (spread_checks s D) ≡ none
    opened_passes = granted-none (first_of (spread_checks s D)) (settings_at s) c (sym opened)

    pub opened_settings : c ≡ settings_at s
    opened_settings = sym (granted-same (first_of (spread_checks s D)) (settings_at s) c (sym opened))

    pub opened_spread : bad_spread (settings_at s) D ≡ none
    opened_spread = (spread-passed s D opened_passes).0

    sizes-pass : first_of (sheet_checks s) ≡ none
    sizes-pass = (spread-passed s D opened_passes).1

    -- so the span's width fits 32 bits
    pub opened_narrow : (c.window ≤ max_window) × (D ≤ max_spread)
    opened_narrow =
        let l = limits (settings_at s) (settings-passed s sizes-pass) in
        rw opened_settings (l.window, spread-most (settings_at s) D opened_spread)

    opened_sheet : verdict (first_of (sheet_checks s)) (settings_at s) ≡ granted c
    opened_sheet = rw sizes-pass (ap granted (sym opened_settings))

    rest : first_of (settle_checks s D (length answer)) ≡ from7
    rest = settle-checks s D (length answer) ∙ ap (λ (check : Check). or_next check from7) opened_passes

    -- check 7
    pub room-refuses :
        length answer < answer_length c.n
        → record { verdict = refused (refusal no_room_number 0); buffer = answer } ≡ settle_spread s D answer
    unfolding no_room
    room-refuses h =
        by-checks (some (refusal no_room_number 0))
        (rest ∙ rw (lt-ltb (length answer) (answer_length (settings_at s).n) (rw opened_settings at h)))

    module _ (room : answer_length c.n ≤ length answer) where
      last : first_of (settle_checks s D (length answer)) ≡ from8
      last =
          rest
          ∙ ap (λ (check : Check). or_next check from8)
          (room-pass (length answer) (answer_length (settings_at s).n) (rw opened_settings at room))

      -- what `check_entries` answers
      abbrev body : Check
      body =
          first_of
          (bad_length (length s) (sheet_length c) ∷ array_checks (mark_at s) (bits_at s (entry_count c)) (entry_count c))

      entries : body ≡ first_of (entry_checks s)
      entries = body-entries s c (inspected s c opened_sheet)

      -- checks 8 and 9
      pub entries_refuse :
          (r : Refusal) → some r ≡ body → record { verdict = refused r; buffer = answer } ≡ settle_spread s D answer
      entries_refuse r e =
          by-checks (some r)
          (last ∙ ap (λ (check : Check). or_next check (too_many_faults (round_at s D).count)) (sym (e ∙ entries)))

      -- checks 1 to 9 pass
      pub checks-pass : none ≡ body → first_of (row_checks s) ≡ none
      checks-pass e =
          row-checks s
          ∙ ap (λ (check : Check). or_next check (first_of (entry_checks s))) sizes-pass
          ∙ sym (e ∙ entries)
