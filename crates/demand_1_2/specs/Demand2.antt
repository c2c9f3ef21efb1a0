-- Demand 2: the steps of a round, the planner's windows and accuracies, "too many faults", and the round trips of a
-- sheet. The theorem is `demand_2` of proofs/Demand2.antt.
--
-- It speaks of `round_of`, `readings_of`, `settle_spread`, `read`, `write`, `plan` and `step` of crates/model/specs, the
-- same definitions that the functions' promises are equations with, and says in the words of the paper and of document
-- 01 what they are: any span, and not only those that start at a reading; what an estimate is among the accepted
-- readings; what the mean is nearest to. What `settle_spread` writes is `round_at` of the sheet and the spread: for FCA
-- and CCA `round_of` its settings and its `readings_of`. `settle` is `settle_spread` with the spread 0. What the rounds of
-- document 02's rules 2 and 3 are is said in crates/trim_guarantee/specs/Rounds.antt.
--
-- What is not claimed: an estimate where no reading is accepted; a decision where N is below 3m+1. No call grants
-- there.
--
--   FullSpan, SpanWith               a span that holds N-m readings; one that holds a given reading too
--   Accepted                         which readings are accepted, their count, their marks
--   RoundedDown, RoundedUp, PastWhole        quotients
--   Twice, NearestWhole              a whole number that is even; the nearest one
--   AcceptedReading, FromBelow, LowestAccepted, HighestAccepted, Midpoint     words for the estimators
--   Estimate                         average, median or midpoint
--   copies_equal, Decided             the crusaders decision
--   Used                             used values, and the new value
--   Bytes, Shown                     bytes; what the answer sheet shows of the round
--   PlannedRounds, Forward           the planner; one round of it
--   Passed, BySpans, NoSpan, TooManyFaults    refusal 10
--   ReadThenWritten, WrittenThenRead the round trips
--   Demand2                          all of it
use Rattle.std.specs.Prelude.{true, false, cond, ◌&&◌, List, ◌↔◌, ◌≡◌, ℕ, ◌+◌, ◌*◌, ◌≤◌, ◌<◌, ℤ, pos, ◌+ℤ◌, ◌*ℤ◌, length, get_or, take, ◌≤ℤ◌, ◌<ℤ◌}
use Rattle.std.proofs.Math.Option.{none}
use Rattle.std.specs.Int.Signed.{le_z, lt_z}
use Rattle.std.specs.Int.{w32}
use Rattle.std.proofs.Common.{SFits, to_z}
use Rattle.arithmetic.specs.Counting.{count, sum}
use Rattle.arithmetic.specs.Writing.{overwrite}
use Rattle.model.specs.declared.Settings.{Settings}
use Rattle.model.specs.Refusals.{Refusal}
use Rattle.model.specs.Ensemble.{missing, present, Readings, ticks, quorum}
use Rattle.model.specs.RoundSheet.{cca, average, median, midpoint, byte, word, settings_at, entry_count, entry_at}
use Rattle.model.specs.Steps.{same, readings_of, inside, held, accepted_at, round_of, round_at, span_width}
use Rattle.model.specs.Planner.{Plan, plan_from, with_window, max_rounds}
use Rattle.model.specs.Refusals.{refusal, settle_checks, too_many_faults_number}
use Rattle.model.specs.Calls.{granted, refused, read, write, settle_spread, plan, step}
use Rattle.model.specs.AnswerSheet.{answer_header_size}
use Rattle.planner_laws.specs.Stepping.{steps}

-- ---- Accepted readings

-- a span [s, f] with "f - s ≤ δ", or δ + D with a spread (document 02, request 2), that "holds at least N-m present
-- readings, equal ones counted each"
pub record FullSpan (c : Settings) (D : ℕ) (v : Readings) : Type 0 where
  pub start : ℤ
  pub end : ℤ
  pub narrow : end ≤ℤ (start +ℤ pos (span_width c D))
  pub enough : quorum c ≤ held start end v c.n

-- one that holds r's reading too: "s ≤ v ≤ f"
pub record SpanWith (c : Settings) (D : ℕ) (v : Readings) (r : ℕ) : Type 0 where
  pub span : FullSpan c D v
  pub within : inside span.start span.end (v r) ≡ true

-- "A reading v is accepted if some span [s, f] with s ≤ v ≤ f and f - s ≤ δ holds at least N-m present readings". The
-- marks: "0 missing or known faulty, 1 accepted, 2 present and not accepted"
pub record Accepted (c : Settings) (D : ℕ) (v : Readings) : Type 0 where
  pub some_span : (r : ℕ) → r < c.n → (accepted_at c D v r ≡ true) ↔ SpanWith c D v r
  pub counted : (round_of c D v).count ≡ count (accepted_at c D v) c.n
  pub mark_missing : (r : ℕ) → v r ≡ missing → (round_of c D v).mark r ≡ 0
  pub mark_accepted : (r : ℕ) (z : ℤ) → v r ≡ present z → accepted_at c D v r ≡ true → (round_of c D v).mark r ≡ 1
  pub mark_not_accepted : (r : ℕ) (z : ℤ) → v r ≡ present z → accepted_at c D v r ≡ false → (round_of c D v).mark r ≡ 2

-- ---- The estimate, "over accepted readings only"

-- q is a / n rounded down: n q ≤ a < n q + n
pub record RoundedDown (a : ℤ) (n : ℕ) (q : ℤ) : Type 0 where
  pub at_most : (pos n *ℤ q) ≤ℤ a
  pub next : a <ℤ (pos n *ℤ q +ℤ pos n)

-- z is read of an accepted cabinet
pub record AcceptedReading (c : Settings) (D : ℕ) (v : Readings) (z : ℤ) : Type 0 where
  pub cabinet : ℕ
  pub in_range : cabinet < c.n
  pub accepted : accepted_at c D v cabinet ≡ true
  pub reads : v cabinet ≡ present z

-- z is "the element numbered" h "from below, counting from 1": h accepted readings or more are at or below it, and
-- fewer than h are below it
pub record FromBelow (c : Settings) (D : ℕ) (v : Readings) (h : ℕ) (z : ℤ) : Type 0 where
  pub reading : AcceptedReading c D v z
  pub at_or_below : h ≤ count (λ r. accepted_at c D v r && le_z (ticks (v r)) z) c.n
  pub below : count (λ r. accepted_at c D v r && lt_z (ticks (v r)) z) c.n < h

pub record LowestAccepted (c : Settings) (D : ℕ) (v : Readings) (z : ℤ) : Type 0 where
  pub reading : AcceptedReading c D v z
  pub none_below : (r : ℕ) → r < c.n → accepted_at c D v r ≡ true → z ≤ℤ ticks (v r)

pub record HighestAccepted (c : Settings) (D : ℕ) (v : Readings) (z : ℤ) : Type 0 where
  pub reading : AcceptedReading c D v z
  pub none_above : (r : ℕ) → r < c.n → accepted_at c D v r ≡ true → ticks (v r) ≤ℤ z

-- "midpoint, half of lowest plus highest rounded down"
pub record Midpoint (c : Settings) (D : ℕ) (v : Readings) (z : ℤ) : Type 0 where
  pub low : ℤ
  pub high : ℤ
  pub is_lowest : LowestAccepted c D v low
  pub is_highest : HighestAccepted c D v high
  pub half : RoundedDown (low +ℤ high) 2 z

pub record Estimate (c : Settings) (D : ℕ) (v : Readings) (z : ℤ) : Type 0 where
  -- "average, sum over count rounded down"
  pub by_average :
      c.estimator ≡ average
      → RoundedDown (sum (λ r. cond (accepted_at c D v r) (ticks (v r)) (pos 0)) c.n) (round_of c D v).count z
  -- "median, the element numbered ⌈count/2⌉ from below, counting from 1": the count is 2h or 2h - 1
  pub by_median :
      c.estimator ≡ median
      → (h : ℕ) → (round_of c D v).count ≤ 2 * h → 2 * h ≤ (round_of c D v).count + 1 → FromBelow c D v h z
  pub by_midpoint : c.estimator ≡ midpoint → Midpoint c D v z

-- ---- The crusaders decision

-- how many present copies of r's value equal z: "entry r × N + s being the copy of r's value that s relayed"
abbrev pub copies_equal : Settings → Readings → ℕ → ℤ → ℕ
copies_equal c entry r z = count (λ s. same (present z) (entry (r * c.n + s))) c.n

-- what is read of r. FCA, and rules 2 and 3: what r sent. "CCA first decides each row: the value that at least N-m
-- present copies equal. If there is none, that cabinet is known faulty and its reading missing"
pub record Decided (c : Settings) (entry : Readings) (r : ℕ) : Type 0 where
  pub direct : (c.rule ≡ cca → ⊥) → readings_of c entry r ≡ entry r
  pub value : c.rule ≡ cca → (z : ℤ) → (readings_of c entry r ≡ present z) ↔ (quorum c ≤ copies_equal c entry r z)
  pub known_faulty : c.rule ≡ cca → (readings_of c entry r ≡ missing) ↔ ((z : ℤ) → copies_equal c entry r z < quorum c)

-- ---- The rounded mean

-- q is twice a whole number
pub record Twice (q : ℤ) : Type 0 where
  pub half : ℤ
  pub twice : q ≡ half +ℤ half

-- q is the whole number nearest to s / n: q - 1/2 ≤ s / n ≤ q + 1/2, times 2n. Document 02, request 4: "The mean's half
-- now goes to the even neighbour", so that q is even where s / n is at either end
pub record NearestWhole (s : ℤ) (n : ℕ) (q : ℤ) : Type 0 where
  pub at_most : (pos (2 * n) *ℤ q) ≤ℤ (s +ℤ s +ℤ pos n)
  pub at_least : (s +ℤ s) ≤ℤ (pos (2 * n) *ℤ q +ℤ pos n)
  pub half_below : (pos (2 * n) *ℤ q) ≡ s +ℤ s +ℤ pos n → Twice q
  pub half_above : s +ℤ s ≡ pos (2 * n) *ℤ q +ℤ pos n → Twice q

-- "Missing or unaccepted readings are replaced by the estimate. The new value is the mean of N used values to the
-- nearest whole number"
pub record Used (c : Settings) (D : ℕ) (v : Readings) : Type 0 where
  pub accepted : (r : ℕ) → accepted_at c D v r ≡ true → (round_of c D v).used r ≡ ticks (v r)
  pub replaced : (r : ℕ) → accepted_at c D v r ≡ false → (round_of c D v).used r ≡ (round_of c D v).estimate
  pub mean : 0 < c.n → NearestWhole (sum (round_of c D v).used c.n) c.n (round_of c D v).value

-- ---- The answer sheet

abbrev pub Bytes : List ℕ → Type 0
Bytes s = (i : ℕ) → byte s i < 256

-- the round of the sheet s, as an answer sheet shows it: "Byte 0 N; byte 1 the accepted count; bytes 2 to 5 the
-- estimate; bytes 6 to 9 the new value; then N marks ..; then N used values". No value is cut to fit its four bytes
pub record Shown (s : List ℕ) (D : ℕ) (answer : List ℕ) : Type 0 where
  pub cabinets : byte answer 0 ≡ (settings_at s).n
  pub counted : byte answer 1 ≡ (round_at s D).count
  pub estimate : to_z w32 (word answer 2) ≡ (round_at s D).estimate
  pub value : to_z w32 (word answer 6) ≡ (round_at s D).value
  pub mark : (r : ℕ) → r < (settings_at s).n → byte answer (answer_header_size + r) ≡ (round_at s D).mark r
  pub used : (r : ℕ) → r < (settings_at s).n
      → to_z w32 (word answer (answer_header_size + (settings_at s).n + 4 * r)) ≡ (round_at s D).used r

-- ---- The planner

-- q is ⌈a / n⌉: it covers a, by less than n too much
pub record RoundedUp (a n q : ℕ) : Type 0 where
  pub covers : a ≤ n * q
  pub least : n * q < a + n

-- q is "the whole part of" a / n "plus one": n (q - 1) ≤ a < n q
pub record PastWhole (a n q : ℕ) : Type 0 where
  pub above : a < n * q
  pub next : n * q ≤ a + n

-- "A plan goes forward one round at a time and hands back the plan that follows": from p to q
pub record Forward (p q : Plan) : Type 0 where
  -- document 02, request 4: "The next window is 0 when m or δ is 0"
  pub no_faults : p.settings.m ≡ 0 → q.settings.window ≡ 0
  pub no_window : p.settings.window ≡ 0 → q.settings.window ≡ 0
  -- "and otherwise follows the same change", from "⌈2mδ/N⌉, or ⌈mδ/N⌉ for CCA with median"
  pub window :
      (p.settings.m ≡ 0 → ⊥) → (p.settings.window ≡ 0 → ⊥)
      → ((p.settings.rule ≡ cca) × (p.settings.estimator ≡ median) → ⊥)
      → PastWhole (2 * (p.settings.m * p.settings.window)) p.settings.n q.settings.window
  pub median_window :
      (p.settings.m ≡ 0 → ⊥) → (p.settings.window ≡ 0 → ⊥)
      → p.settings.rule ≡ cca → p.settings.estimator ≡ median
      → PastWhole (p.settings.m * p.settings.window) p.settings.n q.settings.window
  -- "κ grows each round by ⌈mδ/N⌉ with that round's δ"
  pub growth : ℕ
  pub accuracy : q.accuracy ≡ p.accuracy + growth
  pub share : RoundedUp (p.settings.m * p.settings.window) p.settings.n growth
  pub rounds : q.rounds ≡ p.rounds + 1
  -- of the settings only the window changes
  pub kept : q.settings ≡ with_window p.settings q.settings.window

pub record PlannedRounds (c : Settings) (κ : ℕ) : Type 0 where
  -- for no round: "The plan has window δ, accuracy κ and no round done"
  pub fresh : (p : Plan) → plan c κ 0 ≡ granted p → p ≡ plan_from c κ
  -- for k rounds: k steps from there
  pub stepwise : (k : ℕ) → k ≤ max_rounds → plan c κ k ≡ steps k (plan c κ 0)

-- ---- "Too many faults"

-- "Where no earlier check refuses": checks 1 to 5, 16, and 6 to 9
abbrev pub Passed : List ℕ → ℕ → List ℕ → Type 0
Passed s D answer = (i : ℕ) → i < 10 → get_or (settle_checks s D (length answer)) i none ≡ none

-- "no span as wide as the window holds N-m readings"; document 02, request 2: "the span is δ + D, also where demand 2
-- says when there are too many faults"
abbrev pub NoSpan : List ℕ → ℕ → Type 0
NoSpan s D = FullSpan (settings_at s) D (readings_of (settings_at s) (entry_at s (entry_count (settings_at s)))) → ⊥

-- the rule is FCA or CCA: document 02, request 5: "what demand 2 says of spans is for FCA and CCA"
abbrev pub BySpans : List ℕ → Type 0
BySpans s = (settings_at s).rule ≤ cca

pub record TooManyFaults (s : List ℕ) (D : ℕ) (answer : List ℕ) : Type 0 where
  pub said :
      BySpans s → Passed s D answer → NoSpan s D
      → (settle_spread s D answer).verdict ≡ refused (refusal too_many_faults_number 0)
  -- "and never otherwise"; with rules 2 and 3 "refusal 10 does not arise"
  pub never :
      (r : Refusal) → (settle_spread s D answer).verdict ≡ refused r → r.number ≡ 10
      → BySpans s × Passed s D answer × NoSpan s D

-- ---- Round trips

-- "A sheet read and written again has the same bytes": what was read is written into any buffer that has room
abbrev pub ReadThenWritten : List ℕ → List ℕ → List ℤ → List ℕ → Type 0
ReadThenWritten s marks readings buffer =
    Bytes s → length s ≤ length buffer
    → (c : Settings) → (read s marks readings).verdict ≡ granted c
    → write c
    (take (entry_count c) (read s marks readings).marks)
    (take (entry_count c) (read s marks readings).readings)
    buffer
    ≡ record { verdict = granted (length s); buffer = overwrite s buffer }

-- "and one written reads back the same": readings of 32 bits, into any two arrays that have room
abbrev pub WrittenThenRead : Settings → List ℕ → List ℤ → List ℕ → Type 0
WrittenThenRead c marks readings buffer =
    ((e : ℕ) → e < entry_count c → SFits w32 (get_or readings e (pos 0)))
    → (size : ℕ) → (write c marks readings buffer).verdict ≡ granted size
    → (lent_marks : List ℕ) (lent_readings : List ℤ)
    → entry_count c ≤ length lent_marks → entry_count c ≤ length lent_readings
    → read (take size (write c marks readings buffer).buffer) lent_marks lent_readings
    ≡ record { verdict = granted c; marks = overwrite marks lent_marks; readings = overwrite readings lent_readings }

-- ---- The statement

pub record Demand2 : Type 0 where
  -- "Accepted readings, estimate, crusaders decision and rounded mean are those of the paper, with document 01 where it
  -- is silent"
  pub accepted : (c : Settings) (D : ℕ) (v : Readings) → Accepted c D v
  pub estimate :
      (c : Settings) (D : ℕ) (v : Readings) → 0 < (round_of c D v).count
      → Estimate c D v (round_of c D v).estimate
  pub decision : (c : Settings) (entry : Readings) (r : ℕ) → 3 * c.m + 1 ≤ c.n → Decided c entry r
  pub mean : (c : Settings) (D : ℕ) (v : Readings) → Used c D v
  -- by FCA and CCA, whose steps these are
  pub round :
      (s : List ℕ) (D : ℕ) → BySpans s
      → round_at s D ≡ round_of (settings_at s) D (readings_of (settings_at s) (entry_at s (entry_count (settings_at s))))
  pub shown :
      (s : List ℕ) (D : ℕ) (answer : List ℕ) → Bytes s
      → (size : ℕ) → (settle_spread s D answer).verdict ≡ granted size → Shown s D (settle_spread s D answer).buffer
  -- "The planner's windows and accuracies, after any number of rounds, are those that document 01 defines"
  pub planned : (c : Settings) (κ : ℕ) → PlannedRounds c κ
  pub forward : (p q : Plan) → step p ≡ granted q → Forward p q
  -- "Where no earlier check refuses, "too many faults" is said when no span as wide as the window holds N-m readings,
  -- and never otherwise"; by FCA and CCA
  pub too_many_faults : (s : List ℕ) (D : ℕ) (answer : List ℕ) → TooManyFaults s D answer
  -- "A sheet read and written again has the same bytes, and one written reads back the same"
  pub read_then_written :
      (s marks : List ℕ) (readings : List ℤ) (buffer : List ℕ) → ReadThenWritten s marks readings buffer
  pub written_then_read :
      (c : Settings) (marks : List ℕ) (readings : List ℤ) (buffer : List ℕ) → WrittenThenRead c marks readings buffer
