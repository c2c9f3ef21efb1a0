-- Document 02, "Paper 1. Replay of a station run" (docs/FORMAT.md, 11): what holds of a replay. Its theorems are
-- `replay_is_run`, `faulty_ignored` and `replay_guaranteed` of proofs/Replayed.antt; Witnesses.antt has traces that
-- reach its limits.
--
-- What is not claimed: that the trace is what happened at the station; limits where more than m are bad.
--
--   Bytes                        a list of bytes
--   shown_in, value_in             what the run shows of a cabinet after some rounds; the value that stands in a buffer
--   meets_too_many, NobodyMeets    a cabinet meets too many faults in a round of the run; no sound one does in any
--   ReplayIsRun                  a replay gives the run of demand 3, whatever accuracy its plan starts with
--   AlikeForSound, FaultyIgnored a faulty cabinet's first reading and what it receives change nothing
--   FewBad, SomeRound            at most m bad; one round or more
--   final_gap, final_error         the planned window and the planned accuracy at the end
--   Replays, ReplayGuarantee     where at most m are bad: the guarantee, of the bytes that a replay leaves
use Rattle.std.specs.Prelude.{Bool, true, false, cond, List, ◌≡◌, ℕ, ◌*◌, ◌≤◌, ◌<◌, ℤ, pos, length}
use Rattle.std.proofs.Math.Option.{none}
use Rattle.std.specs.Int.{w32}
use Rattle.std.proofs.Common.{to_z}
use Rattle.model.specs.Ensemble.{ticks}
use Rattle.model.specs.RoundSheet.{byte, word, settings_at}
use Rattle.model.specs.Planner.{plan_from, after, max_accuracy}
use Rattle.model.specs.Refusals.{first_of}
use Rattle.model.specs.Calls.{granted}
use Rattle.run.specs.Run.{Sound, state_after, settled}
use Rattle.trace.specs.Trace.{rounds_at, role_at, first_at, sound_at, entry_number, traced_entry, traced_station, traced_sends}
use Rattle.trace.specs.Replay.{too_many, refused_in, trace_checks, replay}
use Rattle.demand_3.specs.Guarantee.{apart, Good, bad}

abbrev pub Bytes : List ℕ → Type 0
Bytes s = (i : ℕ) → byte s i < 256

-- the checks before 15 pass: 1 to 5, 13, 7, 8, 9 and 14
abbrev pub Passes : List ℕ → List ℕ → Type 0
Passes s values = first_of (trace_checks s (length values)) ≡ none

-- what the run that starts with accuracy κ shows of cabinet p after k rounds: "places of faulty cabinets read 0"
abbrev pub shown_in : List ℕ → ℕ → ℕ → ℕ → ℤ
shown_in s κ k p = cond (sound_at s p) (ticks ((state_after (traced_station s κ) (traced_sends s) k).held p)) (pos 0)

-- the value of cabinet p in a buffer
abbrev pub value_in : List ℕ → ℕ → ℤ
value_in values p = to_z w32 (word values (4 * p))

-- in round k, from 0, of the run that starts with accuracy κ cabinet p meets too many faults
abbrev pub meets_too_many : List ℕ → ℕ → ℕ → ℕ → Bool
meets_too_many s κ k p =
    too_many
    (settled (traced_station s κ) (state_after (traced_station s κ) (traced_sends s) k) (traced_sends s k) p).verdict

abbrev pub NobodyMeets : List ℕ → ℕ → Type 0
NobodyMeets s κ =
    (k p : ℕ) → k < rounds_at s → p < (settings_at s).n → sound_at s p ≡ true → meets_too_many s κ k p ≡ false

-- "The final sound values must equal the definition iterated on planned windows": they are those of the run of demand
-- 3, whatever accuracy κ its plan starts with; 15 is said exactly where a sound cabinet of that run meets too many
-- faults, and who does, of which 15 has the first round and there the lowest, is as that run has it
pub record IsRun (s values : List ℕ) (κ : ℕ) : Type 0 where
  pub grants : NobodyMeets s κ → (replay s values).verdict ≡ granted (4 * (settings_at s).n)
  pub nobody : (replay s values).verdict ≡ granted (4 * (settings_at s).n) → NobodyMeets s κ
  pub shown :
      (replay s values).verdict ≡ granted (4 * (settings_at s).n)
      → (p : ℕ) → p < (settings_at s).n → value_in (replay s values).buffer p ≡ shown_in s κ (rounds_at s) p
  pub refuses :
      (k p : ℕ) → k < rounds_at s → p < (settings_at s).n → sound_at s p ≡ true
      → refused_in s k p ≡ meets_too_many s κ k p

abbrev pub ReplayIsRun : Type 0
ReplayIsRun = (s values : List ℕ) → Bytes s → Passes s values → (κ : ℕ) → κ ≤ max_accuracy → IsRun s values κ

-- two traces that differ only in faulty cabinets' first readings and in what faulty cabinets receive
pub record AlikeForSound (s t : List ℕ) : Type 0 where
  pub settings : settings_at s ≡ settings_at t
  pub rounds : rounds_at s ≡ rounds_at t
  pub roles : (p : ℕ) → p < (settings_at s).n → role_at s p ≡ role_at t p
  pub first :
      (p : ℕ) → p < (settings_at s).n → sound_at s p ≡ true
      → first_at s (settings_at s).n p ≡ first_at t (settings_at t).n p
  pub sent :
      (k r p : ℕ) → k < rounds_at s → r < (settings_at s).n → p < (settings_at s).n → sound_at s p ≡ true
      → traced_entry s (settings_at s).n (rounds_at s) (entry_number (settings_at s).n k r p)
      ≡ traced_entry t (settings_at t).n (rounds_at t) (entry_number (settings_at t).n k r p)

-- "A faulty cabinet's first reading and what it receives change no final value and no 15": the same bytes, and the same
-- refusal
abbrev pub FaultyIgnored : Type 0
FaultyIgnored =
    (s t values : List ℕ) → Bytes s → Bytes t → AlikeForSound s t → Passes s values → Passes t values
    → replay s values ≡ replay t values

-- at most m are bad
abbrev pub FewBad : List ℕ → ℕ → (ℕ → Bool) → Type 0
FewBad s κ good = bad (traced_station s κ) good ≤ (settings_at s).m

-- the planned window and the planned accuracy, after the last round
abbrev pub final_gap : List ℕ → ℕ → ℕ
final_gap s κ = (after (rounds_at s) (plan_from (settings_at s) κ)).settings.window

abbrev pub final_error : List ℕ → ℕ → ℕ
final_error s κ = (after (rounds_at s) (plan_from (settings_at s) κ)).accuracy

-- the limits are of rounds: after none of them the first readings stand, of which `Good` speaks
abbrev pub SomeRound : List ℕ → Type 0
SomeRound s = 0 < rounds_at s

-- where at most m are bad: no refusal; and from one round on the final values of sound cabinets are within the planned
-- window of each other and within the planned accuracy of true
pub record Replays (s values : List ℕ) (κ : ℕ) (true-value : ℤ) : Type 0 where
  pub grants : (replay s values).verdict ≡ granted (4 * (settings_at s).n)
  pub precise :
      SomeRound s → (p q : ℕ) → Sound (traced_station s κ) p → Sound (traced_station s κ) q
      → apart (value_in (replay s values).buffer p) (value_in (replay s values).buffer q) ≤ final_gap s κ
  pub accurate :
      SomeRound s → (p : ℕ) → Sound (traced_station s κ) p
      → apart (value_in (replay s values).buffer p) true-value ≤ final_error s κ

abbrev pub ReplayGuarantee : Type 0
ReplayGuarantee =
    (s values : List ℕ) → Bytes s → Passes s values
    → (κ : ℕ) → κ ≤ max_accuracy
    → (good : ℕ → Bool) (true-value : ℤ) → Good (traced_station s κ) good true-value → FewBad s κ good
    → Replays s values κ true-value
