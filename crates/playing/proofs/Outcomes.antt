-- What playing a trace gives, by what its checks say, on plain values.
-- Assumes nothing.
use mathlib.Core.Bool.{Bool, true, false, cond}
use mathlib.Core.List.{List, ◌++◌}
use mathlib.Core.Option.{none, some}
use mathlib.Core.Path.{◌≡◌, sym, ap, ◌∙◌}
use Prim.Native.Nat.{ℕ, ◌≤◌, min}
use borrow.Author.Tests.{le-ltb, ltb-false}
use lib.Dec.{ltb}
use lib.ListN.{length, get_or-append}
use Rattle.arithmetic.specs.Naturals.{down}
use Rattle.arithmetic.specs.Words.{two_to31}
use Rattle.model.specs.declared.Settings.{Settings}
use Rattle.model.specs.Refusals.{Refusal}
use Rattle.model.specs.Ensemble.{present, max_cabinets}
use Rattle.model.specs.RoundSheet.{settings_at}
use Rattle.model.specs.Refusals.{Check, refusal, refuse_if, or_next, first_of, no_room_number}
use Rattle.model.specs.Calls.{granted, refused, verdict}
use Rattle.refusal_laws.proofs.Checks.{first_snoc, when_none}
use Rattle.refusal_laws.proofs.Limits.{limits, limits-pass}
use Rattle.sheet_laws.proofs.Outcomes.{granted-none, granted-same, refused-some}
use Rattle.trace.specs.Trace.{rounds_at}
use Rattle.trace.specs.Replay.{run_stopped, trace_checks, replay_checks}
use Rattle.trace_heads.proofs.Heads.{Headed}
use Rattle.playing.specs.Playing.{HeldTo, Playable, played_given}
use Rattle.playing.proofs.Hearing.{no_some}

-- what the checks before 15 leave
pub playable : (s : List ℕ) (room : ℕ) → Headed s room → Playable s
playable s room h =
    record {
      passes = limits-pass (settings_at s) h.within;
      direct = h.rule;
      few = h.rounds;
      long = h.long;
    }

pub playable-few : (s : List ℕ) → Playable s → (settings_at s).n ≤ max_cabinets
playable-few s ok = (limits (settings_at s) ok.passes).cabinets

module _ (s : List ℕ) (most room held : ℕ) where
  abbrev k : ℕ
  k = min most (rounds_at s)

  -- a list for fewer than 64 cabinets
  pub short_refused :
      (r : Refusal) → some r ≡ refuse_if (ltb held max_cabinets) no_room_number → refused r ≡ played_given s most room held
  unfolding played_given
  short_refused r e = go (ltb held max_cabinets) e
    where
      go :
          (short : Bool) → some r ≡ cond short (some (refusal no_room_number 0)) none
          → refused r
          ≡ cond short (refused (refusal no_room_number 0))
          (verdict (first_of (replay_checks s k room)) (settings_at s))
      go true h = cc
      go false h = no_some r h

  module _ (spacious : none ≡ refuse_if (ltb held max_cabinets) no_room_number) where
    pub large : max_cabinets ≤ held
    large = ltb-false held max_cabinets (when_none (ltb held max_cabinets) no_room_number (sym spacious))

    given : played_given s most room held ≡ verdict (or_next (first_of (trace_checks s room)) (run_stopped s k)) (settings_at s)
    unfolding played_given replay_checks
    given =
        rw (le-ltb held max_cabinets large)
        (ap (λ (c : Check). verdict c (settings_at s)) (first_snoc (trace_checks s room) (run_stopped s k)))

    pub trace_refused :
        (r : Refusal) → refused r ≡ verdict (first_of (trace_checks s room)) (settings_at s)
        → refused r ≡ played_given s most room held
    trace_refused r e =
        sym
        (given
        ∙ ap (λ (c : Check). verdict (or_next c (run_stopped s k)) (settings_at s))
        (refused-some (first_of (trace_checks s room)) (settings_at s) r (sym e)))

    module _ (c : Settings) (screened : granted c ≡ verdict (first_of (trace_checks s room)) (settings_at s)) where
      rest : {check : Check} → check ≡ run_stopped s k → verdict check c ≡ played_given s most room held
      rest {check} stops =
          ap (verdict check) (sym (granted-same (first_of (trace_checks s room)) (settings_at s) c (sym screened)))
          ∙ ap (λ (x : Check). verdict x (settings_at s)) stops
          ∙ sym
          (given
          ∙ ap (λ (x : Check). verdict (or_next x (run_stopped s k)) (settings_at s))
          (granted-none (first_of (trace_checks s room)) (settings_at s) c (sym screened)))

      pub run_refused : (r : Refusal) → some r ≡ run_stopped s k → refused r ≡ played_given s most room held
      run_refused r h = rest h

      pub run_granted : none ≡ run_stopped s k → granted c ≡ played_given s most room held
      run_granted h = rest h

-- what is held by the first places of a list is held by the list
pub held_whole :
    (s : List ℕ) (k : ℕ) (part rest : List ℕ) → length part ≡ (settings_at s).n → HeldTo s k part → HeldTo s k (part ++ rest)
held_whole s k part rest long holds r l sound =
    holds r l sound
    ∙ ap (λ (x : ℕ). present (down two_to31 x)) (sym (get_or-append part rest 0 r (rw long l)))

-- what each way out says
pub ruleset ways = (short_refused, trace_refused, run_refused)
