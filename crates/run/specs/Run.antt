-- Document 01, "Limits for sound cabinets" (docs/FORMAT.md, 10): the run, written out. Demand 3 speaks of it
-- (crates/demand_3/specs/Guarantee.antt), and a replay is it (Replay.antt).
--
-- A round settles with `settle`, steps with `step` and fills sheets with `write` of crates/model/specs/Calls.antt: the
-- same definitions that the functions' promises are equations with.
--
--   IsReading                        a signed 32-bit number of ticks, or missing
--   Station, N, m, δ, κ, Start       what a run starts from, the paper's letters for it, and what must hold of it
--   Sends, Allowed                   what faulty cabinets do in a round, with the answer buffers lent in it
--   State, start                     the plan, and what each sound cabinet holds, between rounds
--   heard, copy, entry_of, sheet_of, settled, next     a round, step by step
--   state_after                       the state after some rounds
--   Sound                            one of the N, and sound
use Rattle.std.specs.Prelude.{Bool, true, cond, List, ◌≡◌, ℕ, zero, suc, ◌/◌, ◌%◌, ◌≤◌, ◌<◌, eqb, length, replicate}
use Rattle.std.proofs.Math.Option.{none}
use Rattle.std.specs.Int.{w32}
use Rattle.std.proofs.Common.{SFits, to_z}
use Rattle.arithmetic.specs.Counting.{bit}
use Rattle.arithmetic.specs.Writing.{table}
use Rattle.model.specs.declared.Settings.{Settings}
use Rattle.model.specs.Ensemble.{Reading, missing, present, Readings, is_present, ticks}
use Rattle.model.specs.RoundSheet.{cca, entry_count, sheet_length, word}
use Rattle.model.specs.AnswerSheet.{answer_length}
use Rattle.model.specs.Planner.{Plan, plan_from}
use Rattle.model.specs.Refusals.{first_of, plan_checks}
use Rattle.model.specs.Calls.{Verdict, granted, refused, Outcome, write, settle, step}

-- ---- Start

-- "A reading is a signed 32-bit number of ticks", or missing
abbrev pub IsReading : Reading → Type 0
IsReading missing = Unit {0}
IsReading (present z) = SFits w32 z

pub record Station : Type 0 where
  -- "the same for all cabinets"
  pub settings : Settings
  -- κ
  pub accuracy : ℕ
  -- "Each cabinet is sound or faulty, all through the run"
  pub sound : ℕ → Bool
  -- "Each sound one holds its first reading, present or missing"
  pub first : Readings

-- the paper's letters: "N is the cabinets, m the faults planned for", the window and the accuracy at the start
abbrev pub N : Station → ℕ
N st = st.settings.n

abbrev pub m : Station → ℕ
m st = st.settings.m

abbrev pub δ : Station → ℕ
δ st = st.settings.window

abbrev pub κ : Station → ℕ
κ st = st.accuracy

pub record Start (st : Station) : Type 0 where
  -- "settings that the planner grants for 0 rounds"
  pub grants : first_of (plan_checks st.settings (κ st) 0) ≡ none
  pub readings : (p : ℕ) → IsReading (st.first p)

-- ---- Sending

-- "A faulty one may send each cabinet anything or nothing, anew each round"
pub record Sends : Type 0 where
  -- what a faulty r sends to s
  pub sent : ℕ → ℕ → Reading
  -- CCA: what a faulty s relays to p as the value of r, "to each p apart"
  pub relayed : ℕ → ℕ → ℕ → Reading
  -- p's answer buffer, "whatever bytes it holds before"
  pub buffer : ℕ → List ℕ

pub record Allowed (st : Station) (x : Sends) : Type 0 where
  -- "what it sends is held as a reading or as missing"
  pub sent : (r s : ℕ) → IsReading (x.sent r s)
  pub relayed : (r s p : ℕ) → IsReading (x.relayed r s p)
  -- "The tray is long enough"
  pub room : (p : ℕ) → answer_length (N st) ≤ length (x.buffer p)

-- ---- A round

pub record State : Type 0 where
  pub plan : Plan
  -- what each sound cabinet holds
  pub held : Readings

-- "The plan has window δ, accuracy κ and no round done"
abbrev pub start : Station → State
start st = record { plan = plan_from st.settings (κ st); held = st.first }

module _ (st : Station) (now : State) (x : Sends) where
  -- "a sound cabinet sends what it holds (nothing, if that is missing) to every cabinet, itself included"
  unfoldable pub heard : ℕ → ℕ → Reading
  heard r s = cond (st.sound r) (now.held r) (x.sent r s)

  -- CCA: the copy of r's value that p has from s, "what r sent s, if s is sound; a faulty s relays anything or nothing,
  -- to each p apart"
  abbrev pub copy : ℕ → ℕ → ℕ → Reading
  copy r s p = cond (st.sound s) (heard r s) (x.relayed r s p)

  -- "FCA: entry s is what s sent p. CCA: entry r × N + s is" that copy
  unfoldable pub entry_of : ℕ → ℕ → Reading
  entry_of p e = cond (eqb st.settings.rule cca) (copy (e / N st) (e % N st) p) (heard e p)

  -- "each sound cabinet p fills a round sheet with those settings, the plan's window as its δ"
  unfoldable pub sheet_of : ℕ → List ℕ
  sheet_of p =
      (write
      now.plan.settings
      (table (λ e. bit (is_present (entry_of p e))) (entry_count st.settings))
      (table (λ e. ticks (entry_of p e)) (entry_count st.settings))
      (replicate (sheet_length st.settings) 0)
      ).buffer

  -- "each sound cabinet settles its sheet"
  unfoldable pub settled : ℕ → Outcome
  settled p = settle (sheet_of p) (x.buffer p)

-- "Its new value, bytes 6 to 9 of its answer sheet, is what it holds next"; "after a refusal it holds a missing
-- reading"
abbrev pub holds : Verdict ℕ → List ℕ → Reading
holds (granted size) answer = present (to_z w32 (word answer 6))
holds (refused r) answer = missing

abbrev pub stepped : Verdict Plan → Plan → Plan
stepped (granted next) plan = next
stepped (refused r) plan = plan

-- "Then the plan goes forward one round"
unfoldable pub next : Station → State → Sends → State
next st now x =
    record {
      plan = stepped (step now.plan) now.plan;
      held = λ p. holds (settled st now x p).verdict (settled st now x p).buffer;
    }

-- the state after k rounds, of which `sends` says, from 0, what happens in each
unfoldable pub state_after : Station → (ℕ → Sends) → ℕ → State
state_after st sends zero = start st
state_after st sends (suc k) = next st (state_after st sends k) (sends k)

-- p is one of the N, and sound
abbrev pub Sound : Station → ℕ → Type 0
Sound st p = (p < N st) × (st.sound p ≡ true)
