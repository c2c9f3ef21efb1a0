-- Document 02, "Paper 1. Replay of a station run" (docs/FORMAT.md, 11): its checks, and what a replay gives.
--   bad_trace, bad_roles, run_stopped   checks 13, 14 and 15
--   trace_checks, replay_checks        the checks of a trace and a buffer; with 15, those of a replay
--   state_to, refused_in               the run's state after some rounds; who meets too many faults in a round
--   values_to                         the values shown after some rounds
--   replay_to, replay                 the first rounds of a trace replayed; all of them
use Rattle.std.specs.Prelude.{Bool, false, cond, not, ◌&&◌, ◌||◌, List, [], ◌∷◌, ◌++◌, ℕ, zero, suc, ◌+◌, ◌*◌, ltb, eqb, ℤ, pos, length}
use Rattle.std.proofs.Math.Option.{Option, none, some}
use Rattle.arithmetic.specs.Counting.{any_below, lowest}
use Rattle.arithmetic.specs.Writing.{table}
use Rattle.model.specs.Ensemble.{ticks, max_cabinets}
use Rattle.model.specs.RoundSheet.{fca, settings_at, reading_bytes}
use Rattle.model.specs.Planner.{max_rounds}
use Rattle.model.specs.Refusals.{Check, refusal, refuse_if, or_next, first_of, too_short, settings_checks, no_room}
use Rattle.model.specs.Refusals.{array_checks, too_many_faults_number, bad_trace_number, bad_roles_number, run_stopped_number}
use Rattle.model.specs.Calls.{Verdict, granted, refused, Outcome, written_after}
use Rattle.run.specs.Run.{State, settled, state_after}
use Rattle.trace.specs.Trace.{rounds_at, role_at, trace_entries, sender_of, traced_mark, traced_bits, trace_length}
use Rattle.trace.specs.Trace.{sound_at, traced_station, traced_sends}

-- 13: "FCA not chosen, above 32 rounds, or wrong length, in the place of 6"
unfoldable pub bad_trace : List ℕ → Check
bad_trace s =
    refuse_if
    (not (eqb (settings_at s).rule fca)
    || (ltb max_rounds (rounds_at s) || not (eqb (length s) (trace_length (settings_at s).n (rounds_at s)))))
    bad_trace_number

-- 14: "a role byte not 0 or 1, or a sound sender's entry present, after 9"
unfoldable pub strange_role : List ℕ → Bool
strange_role s = any_below (λ p. ltb 1 (role_at s p)) (settings_at s).n

unfoldable pub sound_sent : List ℕ → Bool
sound_sent s =
    any_below (λ e. sound_at s (sender_of (settings_at s).n e) && eqb (traced_mark s (settings_at s).n e) 1)
    (trace_entries (settings_at s).n (rounds_at s))

unfoldable pub bad_roles : List ℕ → Check
bad_roles s = refuse_if (strange_role s || sound_sent s) bad_roles_number

-- the state of the recorded run after k rounds
abbrev pub state_to : List ℕ → ℕ → State
state_to s k = state_after (traced_station s 0) (traced_sends s) k

-- a sound cabinet p met "too many faults" in round k, from 0
abbrev pub too_many : Verdict ℕ → Bool
too_many (granted size) = false
too_many (refused r) = eqb r.number too_many_faults_number

unfoldable pub refused_in : List ℕ → ℕ → ℕ → Bool
refused_in s k p = sound_at s p && too_many (settled (traced_station s 0) (state_to s k) (traced_sends s k) p).verdict

-- 15: "a sound cabinet met "too many faults", last, its place 64 × the first such round (from 1) plus that round's
-- lowest such cabinet", of the first k rounds
abbrev pub at_round : ℕ → Option ℕ → Check
at_round k (some p) = some (refusal run_stopped_number (max_cabinets * (k + 1) + p))
at_round k none = none

abbrev pub in_round : List ℕ → ℕ → Check
in_round s k = at_round k (lowest (refused_in s k) (settings_at s).n)

unfoldable pub run_stopped : List ℕ → ℕ → Check
run_stopped s zero = none
run_stopped s (suc k) = or_next (run_stopped s k) (in_round s k)

-- "Checks 1 to 5, 7, 8 and 9 apply first", 13 "in the place of 6", 14 "after 9"; the buffer has this length
unfoldable pub trace_checks : List ℕ → ℕ → List Check
trace_checks s buffer =
    (too_short s ∷ settings_checks (settings_at s))
    ++ (bad_trace s
    ∷ no_room buffer (4 * (settings_at s).n)
    ∷ (array_checks
    (traced_mark s (settings_at s).n)
    (traced_bits s (settings_at s).n (rounds_at s))
    (trace_entries (settings_at s).n (rounds_at s))
    ++ (bad_roles s ∷ [])))

-- 15 "last"
unfoldable pub replay_checks : List ℕ → ℕ → ℕ → List Check
replay_checks s k buffer = trace_checks s buffer ++ (run_stopped s k ∷ [])

-- "The final sound values must equal the definition iterated on planned windows; places of faulty cabinets read 0"
abbrev pub shown_after : List ℕ → ℕ → ℕ → ℤ
shown_after s k p = cond (sound_at s p) (ticks ((state_to s k).held p)) (pos 0)

unfoldable pub values_to : List ℕ → ℕ → List ℤ
values_to s k = table (shown_after s k) (settings_at s).n

-- the first k rounds. "The tray takes 4N bytes; here and later, lent bytes past those written keep what they had"
unfoldable pub replay_to : List ℕ → ℕ → List ℕ → Outcome
replay_to s k values =
    written_after
    (first_of (replay_checks s k (length values))) (4 * (settings_at s).n) (reading_bytes (values_to s k)) values

unfoldable pub replay : List ℕ → List ℕ → Outcome
replay s values = replay_to s (rounds_at s) values
