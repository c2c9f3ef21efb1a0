-- Document 02, "Paper 1. Replay of a station run" (docs/FORMAT.md, 11): the trace in bytes, and the run that it
-- records.
--   trace_header_size, rounds_at        the eight size bytes and the byte of rounds
--   role_at, first_at                  a cabinet's role, and its first reading
--   trace_entries, entry_number        how many entries there are, and the number of one
--   sender_of                         who sent an entry
--   traced_mark, traced_bits, traced_entry   an entry's mark, the four bytes of its reading, the entry itself
--   trace_length                      9 + 5N + 5 × rounds × N × N
--   traced_station, traced_sends       the run that a trace records: what it starts from, and what happens in each round
use Rattle.std.specs.Prelude.{Bool, cond, List, ℕ, ◌+◌, ◌*◌, ◌/◌, ◌%◌, eqb, ℤ, replicate}
use Rattle.std.specs.Int.{w32}
use Rattle.std.proofs.Common.{to_z}
use Rattle.model.specs.declared.Settings.{Settings}
use Rattle.model.specs.Ensemble.{Reading, missing, present}
use Rattle.model.specs.RoundSheet.{header_size, byte, word, settings_at}
use Rattle.model.specs.AnswerSheet.{answer_length}
use Rattle.run.specs.Run.{Station, Sends}

-- "The trace holds the eight size bytes of a round sheet, one byte of rounds (0 to 32), N role bytes (1 sound, 0
-- faulty) and N first readings"
abbrev pub trace_header_size : ℕ
trace_header_size = 9

abbrev pub rounds_at : List ℕ → ℕ
rounds_at s = byte s 8

abbrev pub role_at : List ℕ → ℕ → ℕ
role_at s p = byte s (trace_header_size + p)

abbrev pub first_at : List ℕ → ℕ → ℕ → ℤ
first_at s n p = to_z w32 (word s (trace_header_size + n + 4 * p))

-- "Then come two parallel arrays, marks and readings, for what each sender sent each receiver in each round, ordered by
-- round, sender, receiver"; rounds are numbered from 0 here
abbrev pub trace_entries : ℕ → ℕ → ℕ
trace_entries n rounds = rounds * (n * n)

abbrev pub entry_number : ℕ → ℕ → ℕ → ℕ → ℕ
entry_number n k r p = (k * n + r) * n + p

abbrev pub sender_of : ℕ → ℕ → ℕ
sender_of n e = e / n % n

abbrev pub traced_mark : List ℕ → ℕ → ℕ → ℕ
traced_mark s n e = byte s (trace_header_size + 5 * n + e)

abbrev pub traced_bits : List ℕ → ℕ → ℕ → ℕ → ℕ
traced_bits s n rounds e = word s (trace_header_size + 5 * n + trace_entries n rounds + 4 * e)

unfoldable pub traced_entry : List ℕ → ℕ → ℕ → ℕ → Reading
traced_entry s n rounds e =
    cond (eqb (traced_mark s n e) 1) (present (to_z w32 (traced_bits s n rounds e))) missing

abbrev pub trace_length : ℕ → ℕ → ℕ
trace_length n rounds = trace_header_size + 5 * n + 5 * trace_entries n rounds

-- ---- The run

-- a role byte is "1 sound, 0 faulty"
abbrev pub sound_at : List ℕ → ℕ → Bool
sound_at s p = eqb (role_at s p) 1

-- a trace has no accuracy κ, so the station takes one: no value depends on it (`ReplayIsRun`)
abbrev pub traced_station : List ℕ → ℕ → Station
traced_station s κ =
    record {
      settings = settings_at s;
      accuracy = κ;
      sound = sound_at s;
      first = λ p. present (first_at s (settings_at s).n p);
    }

-- what was sent in round k, from 0. Nothing is relayed by FCA, and the answer buffers are just long enough
abbrev pub traced_sends : List ℕ → ℕ → Sends
traced_sends s k =
    record {
      sent = λ r p. traced_entry s (settings_at s).n (rounds_at s) (entry_number (settings_at s).n k r p);
      relayed = λ r q p. missing;
      buffer = λ p. replicate (answer_length (settings_at s).n) 0;
    }
