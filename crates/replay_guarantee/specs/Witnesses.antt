-- Traces of crates/run/specs/Traces.antt beside the statements of Replayed.antt: what these ask holds of them; they
-- reach the limits, so that none can be a tick tighter; with one bad cabinet more 15 is said; and what two traces must
-- have in common cannot be less. The theorems are in proofs/Computed.antt and proofs/Sanity.antt.
--
--   final_apart, final_from     how far two final values are apart; how far one is from true time
--   Meets                     what `ReplayGuarantee` asks of a trace, but for the number of bad cabinets
--   OnceReached               one round: the planned window and the planned accuracy
--   DirectReached             two rounds: the planned window
--   FarStays                  no round: a sound cabinet with a bad first reading keeps it
--   SilentRefused             m + 1 are bad, and 15 is said
--   OtherIgnored              two traces that differ for a faulty cabinet: the same replay
--   ToldHeard                 two traces that differ for a sound one: another replay
use Rattle.std.specs.Prelude.{Bool, true, List, ◌≡◌, ℕ, ◌+◌, ◌<◌, ℤ, pos, negsuc}
use Rattle.model.specs.RoundSheet.{settings_at}
use Rattle.model.specs.Cases.{at}
use Rattle.model.specs.Ensemble.{missing}
use Rattle.model.specs.Refusals.{refusal, run_stopped_number}
use Rattle.model.specs.Calls.{refused}
use Rattle.trace.specs.Trace.{first_at, sound_at, entry_number, traced_entry, traced_station}
use Rattle.trace.specs.Replay.{replay}
use Rattle.run.specs.Rounds.{below}
use Rattle.trace.specs.Traces.{lent17, once_trace, direct_trace, other_trace, told_trace, silent_trace, far_trace}
use Rattle.demand_3.specs.Guarantee.{apart, Good, bad}
use Rattle.replay_guarantee.specs.Replayed.{Bytes, Passes, value_in, meets_too_many, AlikeForSound, FewBad}
use Rattle.replay_guarantee.specs.Replayed.{SomeRound, final_gap, final_error}

abbrev pub final_apart : List ℕ → ℕ → ℕ → ℕ
final_apart s p q = apart (value_in (replay s lent17).buffer p) (value_in (replay s lent17).buffer q)

abbrev pub final_from : List ℕ → ℕ → ℤ → ℕ
final_from s p true-value = apart (value_in (replay s lent17).buffer p) true-value

pub record Meets (s : List ℕ) (κ : ℕ) (good : ℕ → Bool) (true-value : ℤ) : Type 0 where
  pub bytes : Bytes s
  pub passes : Passes s lent17
  pub goodness : Good (traced_station s κ) good true-value

-- ---- The limits

pub record OnceReached : Type 0 where
  pub meets : Meets once_trace 0 (below 3) (pos 0)
  pub few : FewBad once_trace 0 (below 3)
  -- 52
  pub widest : final_apart once_trace 0 1 ≡ final_gap once_trace 0
  -- 26
  pub farthest : final_from once_trace 0 (pos 0) ≡ final_error once_trace 0

pub record DirectReached : Type 0 where
  pub meets : Meets direct_trace 0 (below 3) (pos 0)
  pub few : FewBad direct_trace 0 (below 3)
  -- 26
  pub widest : final_apart direct_trace 0 1 ≡ final_gap direct_trace 0

-- ---- No round

pub record FarStays : Type 0 where
  pub meets : Meets far_trace 1 (below 3) (pos 0)
  pub few : FewBad far_trace 1 (below 3)
  pub no_round : ¬ SomeRound far_trace
  -- 100 and 257
  pub wider : final_gap far_trace 1 < final_apart far_trace 3 1

-- ---- One bad cabinet more

pub record SilentRefused : Type 0 where
  pub meets : Meets silent_trace 0 (sound_at silent_trace) (pos 0)
  pub counts : bad (traced_station silent_trace 0) (sound_at silent_trace) ≡ (settings_at silent_trace).m + 1
  pub too_many : ¬ FewBad silent_trace 0 (sound_at silent_trace)
  -- round 2, from 1, and cabinet 1: 64 × 2 + 1
  pub somebody : meets_too_many silent_trace 0 1 1 ≡ true
  pub refuses : (replay silent_trace lent17).verdict ≡ refused (refusal run_stopped_number 129)

-- ---- What cabinets receive

pub record OtherIgnored : Type 0 where
  pub alike : AlikeForSound direct_trace other_trace
  -- the faulty cabinet's first reading, and what it sends itself, which it is the only one to receive
  pub first : first_at direct_trace 4 3 ≡ pos 7
  pub other-first : first_at other_trace 4 3 ≡ negsuc 0
  pub received : traced_entry direct_trace 4 2 (entry_number 4 0 3 3) ≡ missing
  pub other-received : traced_entry other_trace 4 2 (entry_number 4 0 3 3) ≡ at 3
  pub same : replay direct_trace lent17 ≡ replay other_trace lent17

pub record ToldHeard : Type 0 where
  pub bytes : Bytes told_trace
  pub passes : Passes told_trace lent17
  -- cabinet 2 is sound
  pub not_alike : ¬ AlikeForSound direct_trace told_trace
  -- 0 and 12
  pub value : value_in (replay direct_trace lent17).buffer 2 ≡ pos 0
  pub told-value : value_in (replay told_trace lent17).buffer 2 ≡ pos 12
