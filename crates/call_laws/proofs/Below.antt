-- Every answer of a replay tells what it gives: a grant is below 2^32, and a refusal is 2^32 or above and gives back
-- its number, 1 to 15, and its place. There are at most 32 rounds of 4,096 entries.
-- Assumes nothing.
use mathlib.Core.Bool.{not, ◌&&◌, ◌||◌}
use mathlib.Core.List.{List}
use mathlib.Core.Option.{Option, none, some}
use mathlib.Core.Path.{◌≡◌, refl, sym, ap, ◌∙◌}
use Prim.Native.Nat.{ℕ, zero, suc, ◌+◌, ◌*◌, ◌≤◌, ◌<◌}
use native.Mathlib.Omega.{arith}
use lib.Dec.{ltb, eqb}
use lib.ListN.{length}
use Rattle.arithmetic.specs.Counting.{any_below, lowest}
use Rattle.arithmetic.proofs.Counting.{lowest-found}
use Rattle.model.specs.Refusals.{Refusal}
use Rattle.model.specs.Ensemble.{max_cabinets}
use Rattle.model.specs.RoundSheet.{fca, settings_at}
use Rattle.model.specs.Planner.{max_rounds}
use Rattle.model.specs.Refusals.{refusal, first_of, bad_trace_number, bad_roles_number, run_stopped_number}
use Rattle.model.specs.Refusals.{Check, array_checks}
use Rattle.model.specs.Calls.{verdict}
use Rattle.refusal_laws.proofs.Checks.{first_snoc, next-none-left}
use Rattle.refusal_laws.proofs.Numbers.{Says, says_if, plain_append, check_more, plain_one, each, short-says, room_says}
use Rattle.refusal_laws.proofs.Numbers.{plain_settings}
use Rattle.trace.specs.Trace.{rounds_at, role_at, sound_at, sender_of, trace_entries, trace_length, traced_mark, traced_bits}
use Rattle.trace.specs.Replay.{bad_trace, refused_in, at_round, in_round, run_stopped, trace_checks, replay_checks, replay_to}
use Rattle.trace.specs.Replay.{replay}
use Rattle.trace_heads.specs.Heads.{head_checks}
use Rattle.trace_heads.proofs.Heads.{Headed, headed}
use Rattle.trace_checks.specs.Bodies.{roles_of, body_of}
use Rattle.trace_checks.proofs.Traced.{entries_shaped, trace_checks_lem}
use Rattle.call_laws.specs.Statements.{ReplayBelow}
use Rattle.refusal_laws.proofs.Tables.{InTable, Sound, none-sound, next-sound, says-sound, plain_sound, array_sound}
use Rattle.call_laws.proofs.Sound.{size-tells}

roles_say : (s : List ℕ) (n rounds : ℕ) → Says bad_roles_number (roles_of s n rounds)
unfolding roles_of
roles_say s n rounds =
    says_if
    (any_below (λ p. ltb 1 (role_at s p)) n
    || any_below (λ e. sound_at s (sender_of n e) && eqb (traced_mark s n e) 1) (trace_entries n rounds))
    bad_roles_number

module _ (s : List ℕ) (room : ℕ) where
  -- 1 to 5, 13 and 7
  head-sound : Sound 15 (first_of (head_checks s room))
  unfolding head_checks bad_trace
  head-sound =
      plain_sound
      (plain_append (check_more (short-says s) (plain_settings (settings_at s)))
      (check_more
      (says_if
      (not (eqb (settings_at s).rule fca)
      || (ltb max_rounds (rounds_at s) || not (eqb (length s) (trace_length (settings_at s).n (rounds_at s)))))
      bad_trace_number)
      (plain_one (room_says room (4 * (settings_at s).n)))))
      (unfold each in refl)

  -- 8, 9 and 14
  body-sound : first_of (head_checks s room) ≡ none → Sound 15 (first_of (body_of s (settings_at s).n (rounds_at s)))
  unfolding body_of
  body-sound passes =
      let opened = ap (λ (x : Check). verdict x (settings_at s)) (sym passes) in
      let few = (entries_shaped s room (settings_at s) opened (rounds_at s) refl).few in
      let entries =
      array_checks (traced_mark s (settings_at s).n) (traced_bits s (settings_at s).n (rounds_at s))
      (trace_entries (settings_at s).n (rounds_at s)) in
      rw (first_snoc entries (roles_of s (settings_at s).n (rounds_at s)))
      (next-sound (first_of entries) (roles_of s (settings_at s).n (rounds_at s))
      (array_sound 15 refl refl (traced_mark s (settings_at s).n) (traced_bits s (settings_at s).n (rounds_at s))
      (trace_entries (settings_at s).n (rounds_at s)) (omega arith))
      (λ _. says-sound (roles_say s (settings_at s).n (rounds_at s)) refl))

  trace_sound : Sound 15 (first_of (trace_checks s room))
  trace_sound =
      rw (trace_checks_lem s room)
      (next-sound (first_of (head_checks s room)) (first_of (body_of s (settings_at s).n (rounds_at s))) head-sound
      body-sound)

  head_passed : first_of (trace_checks s room) ≡ none → Headed s room
  head_passed passes =
      headed s room
      (next-none-left (first_of (head_checks s room)) (first_of (body_of s (settings_at s).n (rounds_at s)))
      (sym (trace_checks_lem s room) ∙ passes))

-- 15
module _ (s : List ℕ) (small : (settings_at s).n ≤ max_cabinets) where
  round-sound : (k : ℕ) → k < max_rounds → Sound 15 (in_round s k)
  round-sound k early = go (lowest (refused_in s k) (settings_at s).n) refl
    where
      go : (o : Option ℕ) → lowest (refused_in s k) (settings_at s).n ≡ o → Sound 15 (at_round k o)
      go none e = none-sound
      go (some p) e = record { told = λ r h. stopped r (sym (same r h)) }
        where
          here : p < (settings_at s).n
          here = (lowest-found (refused_in s k) (settings_at s).n p e).in_range

          same : (r : Refusal) → at_round k (some p) ≡ some r → refusal run_stopped_number (max_cabinets * (k + 1) + p) ≡ r
          same r h = cc

          stopped : (r : Refusal) → r ≡ refusal run_stopped_number (max_cabinets * (k + 1) + p) → InTable 15 r
          stopped r h =
              let number = ap (λ (x : Refusal). x.number) h in
              let place = ap (λ (x : Refusal). x.place) h in
              record { first = omega arith; last = omega arith; small = omega (arith, here, small, early) }

  stopped-sound : (k : ℕ) → k ≤ max_rounds → Sound 15 (run_stopped s k)
  unfolding run_stopped
  stopped-sound zero l = none-sound
  stopped-sound (suc k) l =
      next-sound (run_stopped s k) (in_round s k) (stopped-sound k (omega arith)) λ _. round-sound k (omega arith)

module _ (s : List ℕ) (room : ℕ) where
  replay-sound : Sound 15 (first_of (replay_checks s (rounds_at s) room))
  unfolding replay_checks
  replay-sound =
      rw (first_snoc (trace_checks s room) (run_stopped s (rounds_at s)))
      (next-sound (first_of (trace_checks s room)) (run_stopped s (rounds_at s)) (trace_sound s room) λ passes.
      let head = head_passed s room passes in
      stopped-sound s head.within.cabinets (rounds_at s) head.rounds)

  few-cabinets : first_of (replay_checks s (rounds_at s) room) ≡ none → (settings_at s).n ≤ max_cabinets
  unfolding replay_checks
  few-cabinets passes =
      (head_passed s room
      (next-none-left (first_of (trace_checks s room)) (run_stopped s (rounds_at s))
      (sym (first_snoc (trace_checks s room) (run_stopped s (rounds_at s))) ∙ passes))
      ).within.cabinets

pub replay-below : ReplayBelow
unfolding replay replay_to
replay-below s values =
    size-tells (first_of (replay_checks s (rounds_at s) (length values))) (4 * (settings_at s).n)
    (replay-sound s (length values))
    λ passes. let few = few-cabinets s (length values) passes in omega arith
