-- Traces written out in bytes, and what a replay gives of them, which the checker computes by the definitions of
-- Replay.antt, through every byte of every sheet. The theorem is `traces_computed` of proofs/ComputedTraces.antt. What
-- the laws of a replay say of these traces stands in crates/replay_guarantee/specs/Witnesses.antt.
--
--   zeros, lent17                       bytes that are 0; seventeen lent bytes
--   once_trace, direct_trace ..           the traces
--   TracesComputed                      their replays
use Rattle.std.specs.Prelude.{List, [], ◌∷◌, ◌++◌, ◌≡◌, ℕ, replicate}
use Rattle.model.specs.RoundSheet.{trimmed_midpoint, trimmed_mean, average, median}
use Rattle.model.specs.Refusals.{refusal, bad_method_number, bad_trace_number, bad_roles_number, run_stopped_number}
use Rattle.model.specs.Calls.{Verdict, granted, refused, Outcome}
use Rattle.trace.specs.Replay.{replay}

unfoldable pub zeros : ℕ → List ℕ
zeros k = replicate k 0

unfoldable pub lent17 : List ℕ
lent17 = replicate 17 255

abbrev pub outcome : Verdict ℕ → List ℕ → Outcome
outcome verdict buffer = record { verdict = verdict; buffer = buffer }

-- ---- One round

-- N 4, m 1, FCA, midpoint, δ 102; cabinets 0, 1, 2 are sound and read 0. Cabinet 3 is faulty, and its first reading is
-- 7; it sends -102, 102, 0, and itself nothing
unfoldable pub once_trace : List ℕ
once_trace =
    (4 ∷ 1 ∷ 0 ∷ 2 ∷ 102 ∷ 0 ∷ 0 ∷ 0 ∷ 1 ∷ 1 ∷ 1 ∷ 1 ∷ 0 ∷ [])
    ++ zeros 12 ++ (7 ∷ 0 ∷ 0 ∷ 0 ∷ [])
    ++ zeros 12 ++ (1 ∷ 1 ∷ 1 ∷ 0 ∷ [])
    ++ zeros 48 ++ (154 ∷ 255 ∷ 255 ∷ 255 ∷ 102 ∷ 0 ∷ 0 ∷ 0 ∷ 0 ∷ 0 ∷ 0 ∷ 0 ∷ 0 ∷ 0 ∷ 0 ∷ 0 ∷ [])

-- ---- Two rounds

-- the run of `direct_station` of Rounds.antt: the same with a window of 100, -100 and 100, and in the second round
-- cabinet 3 sends -51, 51 and 90. Left open are the four bytes of its first reading, the mark and the four bytes of
-- what it sends itself in the first round, and the byte 90
unfoldable pub direct_trace_with : List ℕ → ℕ → List ℕ → ℕ → List ℕ
direct_trace_with first mark itself last =
    (4 ∷ 1 ∷ 0 ∷ 2 ∷ 100 ∷ 0 ∷ 0 ∷ 0 ∷ 2 ∷ 1 ∷ 1 ∷ 1 ∷ 0 ∷ [])
    ++ zeros 12 ++ first
    ++ zeros 12 ++ (1 ∷ 1 ∷ 1 ∷ mark ∷ [])
    ++ zeros 12 ++ (1 ∷ 1 ∷ 1 ∷ 0 ∷ [])
    ++ zeros 48 ++ (156 ∷ 255 ∷ 255 ∷ 255 ∷ 100 ∷ 0 ∷ 0 ∷ 0 ∷ 0 ∷ 0 ∷ 0 ∷ 0 ∷ []) ++ itself
    ++ zeros 48 ++ (205 ∷ 255 ∷ 255 ∷ 255 ∷ 51 ∷ 0 ∷ 0 ∷ 0 ∷ last ∷ 0 ∷ 0 ∷ 0 ∷ 0 ∷ 0 ∷ 0 ∷ 0 ∷ [])

-- its first reading is 7, and it sends itself nothing
unfoldable pub direct_trace : List ℕ
direct_trace = direct_trace_with (7 ∷ 0 ∷ 0 ∷ 0 ∷ []) 0 (zeros 4) 90

-- its first reading is -1, and it sends itself 3
unfoldable pub other_trace : List ℕ
other_trace = direct_trace_with (255 ∷ 255 ∷ 255 ∷ 255 ∷ []) 1 (3 ∷ 0 ∷ 0 ∷ 0 ∷ []) 90

-- it sends cabinet 2, which is sound, 50 for 90
unfoldable pub told_trace : List ℕ
told_trace = direct_trace_with (7 ∷ 0 ∷ 0 ∷ 0 ∷ []) 0 (zeros 4) 50

-- ---- Refused

-- N 4, m 1, FCA, median, δ 10, three rounds; cabinets 1 and 2 are sound and read 0. Cabinets 0 and 3 are faulty: they
-- send 0 in the first round, and nothing after it
unfoldable pub silent_trace : List ℕ
silent_trace =
    (4 ∷ 1 ∷ 0 ∷ 1 ∷ 10 ∷ 0 ∷ 0 ∷ 0 ∷ 3 ∷ 0 ∷ 1 ∷ 1 ∷ 0 ∷ [])
    ++ zeros 16
    ++ (0 ∷ 1 ∷ 1 ∷ 0 ∷ []) ++ zeros 8 ++ (0 ∷ 1 ∷ 1 ∷ 0 ∷ [])
    ++ zeros 32
    ++ zeros 192

-- N 2, m 0, one round; cabinet 0 is sound and has an entry to cabinet 1, which is faulty
unfoldable pub spoken_trace : List ℕ
spoken_trace = (2 ∷ 0 ∷ 0 ∷ 0 ∷ 0 ∷ 0 ∷ 0 ∷ 0 ∷ 1 ∷ 1 ∷ 0 ∷ []) ++ zeros 8 ++ (0 ∷ 1 ∷ 0 ∷ 0 ∷ []) ++ zeros 16

-- N 1, m 0, no round; the role byte is 2
unfoldable pub strange_trace : List ℕ
strange_trace = (1 ∷ 0 ∷ 0 ∷ 0 ∷ 0 ∷ 0 ∷ 0 ∷ 0 ∷ 0 ∷ 2 ∷ []) ++ zeros 4

-- N 1, m 0, 33 rounds, and of the length for them
unfoldable pub long_trace : List ℕ
long_trace = (1 ∷ 0 ∷ 0 ∷ 0 ∷ 0 ∷ 0 ∷ 0 ∷ 0 ∷ 33 ∷ 1 ∷ []) ++ zeros 4 ++ zeros 165

-- "A trace of exactly 8 bytes has no byte of rounds"
unfoldable pub head_trace : List ℕ
head_trace = 4 ∷ 1 ∷ 0 ∷ 2 ∷ 100 ∷ 0 ∷ 0 ∷ 0 ∷ []

-- N 1, m 0, no round, by a rule and with an estimator
unfoldable pub trimmed_trace : ℕ → ℕ → List ℕ
trimmed_trace rule estimator = (1 ∷ 0 ∷ rule ∷ estimator ∷ 0 ∷ 0 ∷ 0 ∷ 0 ∷ 0 ∷ 1 ∷ []) ++ zeros 4

-- ---- No round

-- N 4, m 1, δ 100; cabinets 0, 1, 2 are sound and read 1, -1 and 0; cabinet 3 reads 256. Left open is its role
unfoldable pub first_trace_with : ℕ → List ℕ
first_trace_with role =
    (4 ∷ 1 ∷ 0 ∷ 2 ∷ 100 ∷ 0 ∷ 0 ∷ 0 ∷ 0 ∷ 1 ∷ 1 ∷ 1 ∷ role ∷ [])
    ++ (1 ∷ 0 ∷ 0 ∷ 0 ∷ 255 ∷ 255 ∷ 255 ∷ 255 ∷ 0 ∷ 0 ∷ 0 ∷ 0 ∷ 0 ∷ 1 ∷ 0 ∷ 0 ∷ [])

-- it is faulty
unfoldable pub first_trace : List ℕ
first_trace = first_trace_with 0

-- it is sound
unfoldable pub far_trace : List ℕ
far_trace = first_trace_with 1

-- ---- What a replay gives

pub record TracesComputed : Type 0 where
  -- -26, 26, 0, and 0 for the faulty one
  pub once :
      replay once_trace lent17
      ≡ outcome (granted 16)
      (230 ∷ 255 ∷ 255 ∷ 255 ∷ 26 ∷ 0 ∷ 0 ∷ 0 ∷ 0 ∷ 0 ∷ 0 ∷ 0 ∷ 0 ∷ 0 ∷ 0 ∷ 0 ∷ 255 ∷ [])
  -- -13, 13, 0, and 0 for the faulty one; the byte behind them is kept
  pub direct :
      replay direct_trace lent17
      ≡ outcome (granted 16)
      (243 ∷ 255 ∷ 255 ∷ 255 ∷ 13 ∷ 0 ∷ 0 ∷ 0 ∷ 0 ∷ 0 ∷ 0 ∷ 0 ∷ 0 ∷ 0 ∷ 0 ∷ 0 ∷ 255 ∷ [])
  -- -13, 13, 12
  pub told :
      replay told_trace lent17
      ≡ outcome (granted 16)
      (243 ∷ 255 ∷ 255 ∷ 255 ∷ 13 ∷ 0 ∷ 0 ∷ 0 ∷ 12 ∷ 0 ∷ 0 ∷ 0 ∷ 0 ∷ 0 ∷ 0 ∷ 0 ∷ 255 ∷ [])
  -- cabinets 1 and 2 meet too many faults in rounds 2 and 3: 64 × 2 + 1
  pub silent : replay silent_trace lent17 ≡ outcome (refused (refusal run_stopped_number 129)) lent17
  pub spoken : (replay spoken_trace lent17).verdict ≡ refused (refusal bad_roles_number 0)
  pub strange : (replay strange_trace lent17).verdict ≡ refused (refusal bad_roles_number 0)
  -- lent nothing: 13 comes before 7
  pub long : (replay long_trace []).verdict ≡ refused (refusal bad_trace_number 0)
  pub head : (replay head_trace []).verdict ≡ refused (refusal bad_trace_number 0)
  -- document 02, request 5: rules 2 and 3 are rules of a sheet, so 13 is said of them, and 4 of their estimator
  pub trimmed_midpoints : (replay (trimmed_trace trimmed_midpoint average) []).verdict ≡ refused (refusal bad_trace_number 0)
  pub trimmed_means : (replay (trimmed_trace trimmed_mean average) []).verdict ≡ refused (refusal bad_trace_number 0)
  pub trimmed_medians : (replay (trimmed_trace trimmed_mean median) []).verdict ≡ refused (refusal bad_method_number 0)
  pub first :
      replay first_trace lent17
      ≡ outcome (granted 16)
      (1 ∷ 0 ∷ 0 ∷ 0 ∷ 255 ∷ 255 ∷ 255 ∷ 255 ∷ 0 ∷ 0 ∷ 0 ∷ 0 ∷ 0 ∷ 0 ∷ 0 ∷ 0 ∷ 255 ∷ [])
  pub far :
      replay far_trace lent17
      ≡ outcome (granted 16)
      (1 ∷ 0 ∷ 0 ∷ 0 ∷ 255 ∷ 255 ∷ 255 ∷ 255 ∷ 0 ∷ 0 ∷ 0 ∷ 0 ∷ 0 ∷ 1 ∷ 0 ∷ 0 ∷ 255 ∷ [])
