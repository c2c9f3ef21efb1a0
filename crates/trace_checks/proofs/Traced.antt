-- The checks of a trace in their order: those before the entries, and then those of the entries; and what it means that
-- none refuses.
-- Assumes nothing.
use mathlib.Core.List.{List, [], ◌∷◌, ◌++◌, append_assoc}
use mathlib.Core.Option.{none, some}
use mathlib.Core.Path.{◌≡◌, sym, ap, ap₂, ◌∙◌}
use Prim.Native.Nat.{ℕ, ◌*◌, ◌≤◌}
use native.Mathlib.Nat.{mul-le-mul}
use Rattle.model.specs.declared.Settings.{Settings}
use Rattle.model.specs.Refusals.{Refusal}
use Rattle.model.specs.Ensemble.{max_cabinets}
use Rattle.model.specs.Planner.{max_rounds}
use Rattle.model.specs.RoundSheet.{settings_at}
use Rattle.model.specs.Refusals.{Check, or_next, first_of, too_short, settings_checks, no_room}
use Rattle.model.specs.Calls.{granted, refused, verdict}
use Rattle.refusal_laws.proofs.Checks.{first_append, next-none-left, next-none-right}
use Rattle.sheet_laws.proofs.Outcomes.{granted-none, granted-same, refused-some}
use Rattle.trace.specs.Trace.{rounds_at, trace_entries}
use Rattle.trace.specs.Replay.{bad_trace, strange_role, sound_sent, bad_roles, trace_checks}
use Rattle.sheet_sizes.specs.Bounds.{most_entries}
use Rattle.trace_heads.specs.Heads.{head_checks}
use Rattle.trace_heads.proofs.Heads.{Headed, headed}
use Rattle.trace_checks.specs.Bodies.{Shaped, roles_of, body_of}

-- 32 rounds of 64 × 64 entries are as many as a list may have
most-entries : (n rounds : ℕ) → n ≤ max_cabinets → rounds ≤ max_rounds → trace_entries n rounds ≤ most_entries
most-entries n rounds small few = mul-le-mul few (mul-le-mul small small)

module _ (s : List ℕ) (room : ℕ) where
  -- the checks of the entries
  abbrev pub body : List Check
  body = body_of s (settings_at s).n (rounds_at s)

  pub trace_checks_lem : first_of (trace_checks s room) ≡ or_next (first_of (head_checks s room)) (first_of body)
  unfolding trace_checks head_checks body_of roles_of bad_roles strange_role sound_sent
  trace_checks_lem =
      ap first_of
      (sym
      (append_assoc (too_short s ∷ settings_checks (settings_at s))
      (bad_trace s ∷ no_room room (4 * (settings_at s).n) ∷ []) body))
      ∙ first_append
      ((too_short s ∷ settings_checks (settings_at s)) ++ (bad_trace s ∷ no_room room (4 * (settings_at s).n) ∷ []))
      body

  pub head_refused :
      (x : Refusal) → refused x ≡ verdict (first_of (head_checks s room)) (settings_at s)
      → refused x ≡ verdict (first_of (trace_checks s room)) (settings_at s)
  head_refused x h = rw (trace_checks_lem, refused-some (first_of (head_checks s room)) (settings_at s) x (sym h))

  module _ (c : Settings) (opened : granted c ≡ verdict (first_of (head_checks s room)) (settings_at s)) where
    passes : first_of (head_checks s room) ≡ none
    passes = granted-none (first_of (head_checks s room)) (settings_at s) c (sym opened)

    same : settings_at s ≡ c
    same = granted-same (first_of (head_checks s room)) (settings_at s) c (sym opened)

    -- what the checks of the entries want
    pub entries_shaped : (rounds : ℕ) → rounds ≡ rounds_at s → Shaped s c.n rounds
    entries_shaped rounds e =
        let h = headed s room passes in
        rw (← same, e)
        (record {
          some_cabinet = h.within.some_cabinet;
          long = h.long;
          few = most-entries (settings_at s).n (rounds_at s) h.within.cabinets h.rounds;
        })

    rest :
        (rounds : ℕ) → rounds ≡ rounds_at s → {x : Check} → x ≡ first_of (body_of s c.n rounds)
        → verdict x c ≡ verdict (first_of (trace_checks s room)) (settings_at s)
    rest rounds e h =
        ap₂ verdict
        (h
        ∙ ap₂ (λ (d : Settings) (k : ℕ). first_of (body_of s d.n k)) (sym same) e
        ∙ sym (trace_checks_lem ∙ ap (λ (x : Check). or_next x (first_of body)) passes))
        (sym same)

    module _ (rounds : ℕ) (asked : rounds ≡ rounds_at s) where
      pub entries_refused :
          (r : Refusal) → some r ≡ first_of (body_of s c.n rounds)
          → refused r ≡ verdict (first_of (trace_checks s room)) (settings_at s)
      entries_refused r h = rest rounds asked h

      pub entries_granted :
          none ≡ first_of (body_of s c.n rounds) → granted c ≡ verdict (first_of (trace_checks s room)) (settings_at s)
      entries_granted h = rest rounds asked h

  -- what it means that the checks of a trace grant settings
  pub record Traced (c : Settings) : Type 0 where
    pub settings : settings_at s ≡ c
    pub head : Headed s room
    pub checks : first_of (trace_checks s room) ≡ none
    pub entries : first_of body ≡ none

  pub traced : (c : Settings) → verdict (first_of (trace_checks s room)) (settings_at s) ≡ granted c → Traced c
  traced c h =
      record {
        settings = granted-same (first_of (trace_checks s room)) (settings_at s) c h;
        head = headed s room (next-none-left (first_of (head_checks s room)) (first_of body) both);
        checks = none-refuses;
        entries = next-none-right (first_of (head_checks s room)) (first_of body) both;
      }
    where
      none-refuses : first_of (trace_checks s room) ≡ none
      none-refuses = granted-none (first_of (trace_checks s room)) (settings_at s) c h

      both : or_next (first_of (head_checks s room)) (first_of body) ≡ none
      both = sym trace_checks_lem ∙ none-refuses

-- what each way out says
pub ruleset ways = (head_refused, entries_refused, entries_granted)
