-- What include/tohiranga.h says of answers, of every call and everything that it is given. The theorems are
-- `grants-below : GrantsBelow` and `spread-below : SpreadBelow` of proofs/Told.antt, `replay-below : ReplayBelow` of
-- proofs/Below.antt, `interval-told : IntervalTold` of proofs/Intervals.antt, `fallback-told : FallbackTold` of
-- proofs/Fallbacks.antt and `row_named : RowNamed` of proofs/Parts.antt.
--   Refuses        an answer is 2^32 or above, and gives back the number of a refusal, 1 to `most`, and its place
--   Tells          an answer tells a verdict: below 2^32 where it grants, and else its refusal, 1 to `most`
--   AnswerTells    it does, with refusals 1 to 12
--   ReplayTells    the answer of a replay does, with refusals 1 to 15
--   SpreadTells    the answer of settling with a spread does, with refusals 1 to 16
--   FieldsTell     the answers of the calls for an answer sheet's fields do
--   GrantsBelow    the answers of all calls do
--   ReplayBelow    the answers of replays do
--   SpreadBelow    the answers of settling with a spread do
--   IntervalTells  the call for the interval answers 0 beside the least and the greatest, of which the least is at
--                  least 1 and no greater than the other; or refusal 17 or 18, of place 0, beside zeros
--   IntervalTold   all answers of that call are such
--   FallbackTells  the call that falls back answers the answer sheet's length beside the sheet that settled the round,
--                  1 or 2, and the part of that sheet that is shown, which is inside it and not empty; or a refusal, up
--                  to 19, beside zeros
--   FallbackTold   all answers of that call are such
--   RowNamed       the answer of the row call names the row's bytes, inside the sheet
use Rattle.std.specs.Prelude.{List, ◌≡◌, ℕ, ◌+◌, ◌≤◌, ◌<◌, ℤ, length, take, drop}
use Rattle.arithmetic.specs.Words.{two_to32}
use Rattle.model.specs.Refusals.{Refusal}
use Rattle.model.specs.declared.Settings.{Settings}
use Rattle.model.specs.RoundSheet.{byte}
use Rattle.model.specs.Planner.{Plan}
use Rattle.model.specs.Calls.{Verdict, granted, refused, read, write, row, settle_spread, settle, plan, step}
use Rattle.trace.specs.Replay.{replay}
use Rattle.interval.specs.Interval.{Interval, interval}
use Rattle.sheet_pairs.specs.Fallback.{sheet_by, Settlement, fallback}
use Rattle.answer_reader.specs.Fields.{cabinets_in, count_in, estimate_in, value_in, mark_in, used_in}
use Rattle.packed_refusals.specs.Answers.{upper_half, lower_half, packed, TargetPacked}
use Rattle.packed_records.specs.Answers.{opening_of, planning_of}
use Rattle.packed_rows.specs.Answers.{packed_row, part_in}
use Rattle.interval_packing.specs.declared.Scheduling.{Scheduling}
use Rattle.interval_packing.specs.Answers.{scheduling_of}
use Rattle.fallback_packing.specs.declared.Falling.{Falling}
use Rattle.fallback_packing.specs.Answers.{source_number, falling_of}

-- "Any other answer is a refusal, number * 2^32 + place; tohiranga_number and tohiranga_place take it apart"
pub record Refuses (most : ℕ) (r : Refusal) (answer : ℕ) : Type 0 where
  pub above : two_to32 ≤ answer
  pub number : upper_half answer ≡ r.number
  pub place : lower_half answer ≡ r.place
  pub first : 1 ≤ r.number
  pub last : r.number ≤ most

-- "An answer below 2^32 is a grant"
abbrev pub Tells : {A : Type 0} → ℕ → Verdict A → ℕ → Type 0
Tells most (granted a) answer = answer < two_to32
Tells most (refused r) answer = Refuses most r answer

abbrev pub AnswerTells : {A : Type 0} → Verdict A → ℕ → Type 0
AnswerTells verdict answer = Tells 12 verdict answer

-- a replay's refusals have the numbers up to 15, those of settling with a spread up to 16
abbrev pub ReplayTells : Verdict ℕ → ℕ → Type 0
ReplayTells verdict answer = Tells 15 verdict answer

abbrev pub SpreadTells : Verdict ℕ → ℕ → Type 0
SpreadTells verdict answer = Tells 16 verdict answer

pub record FieldsTell (a : List ℕ) (r : ℕ) : Type 0 where
  pub cabinets : AnswerTells (cabinets_in a) (packed (cabinets_in a))
  pub count : AnswerTells (count_in a) (packed (count_in a))
  pub estimate : AnswerTells (estimate_in a) (packed (estimate_in a))
  pub value : AnswerTells (value_in a) (packed (value_in a))
  pub mark : AnswerTells (mark_in a r) (packed (mark_in a r))
  pub used : AnswerTells (used_in a r) (packed (used_in a r))

pub record GrantsBelow : Type 0 where
  pub settling : (s answer : List ℕ) → AnswerTells (settle s answer).verdict (packed (settle s answer).verdict)
  pub reading : (s marks : List ℕ) (readings : List ℤ)
      → AnswerTells (read s marks readings).verdict (opening_of (read s marks readings).verdict).answer
  pub writing : (c : Settings) (marks : List ℕ) (readings : List ℤ) (buffer : List ℕ)
      → AnswerTells (write c marks readings buffer).verdict (packed (write c marks readings buffer).verdict)
  pub planning : (c : Settings) (κ k : ℕ) → AnswerTells (plan c κ k) (planning_of (plan c κ k)).answer
  pub stepping : (p : Plan) → AnswerTells (step p) (planning_of (step p)).answer
  pub counting : (c : Settings) (κ target answer : ℕ) (t : TargetPacked c κ target answer)
      → AnswerTells t.verdict answer
  pub fields : (a : List ℕ) (r : ℕ) → ((i : ℕ) → byte a i < 256) → FieldsTell a r

abbrev pub ReplayBelow : Type 0
ReplayBelow = (s values : List ℕ) → ReplayTells (replay s values).verdict (packed (replay s values).verdict)

abbrev pub SpreadBelow : Type 0
SpreadBelow =
    (s : List ℕ) (D : ℕ) (answer : List ℕ)
    → SpreadTells (settle_spread s D answer).verdict (packed (settle_spread s D answer).verdict)

-- "the least and the greatest whole number of ticks, of at least 1"; "Answers 0. Refuses under 17, and then 18"; after
-- a refusal "both ends of an interval are 0"
pub record IntervalGiven (i : Interval) (s : Scheduling) : Type 0 where
  pub answer : s.answer ≡ 0
  pub least : s.least ≡ i.least
  pub greatest : s.greatest ≡ i.greatest
  pub some : 1 ≤ s.least
  pub ordered : s.least ≤ s.greatest

pub record IntervalRefused (r : Refusal) (s : Scheduling) : Type 0 where
  pub refuses : Refuses 18 r s.answer
  pub of-interval : 17 ≤ r.number
  pub nowhere : r.place ≡ 0
  pub no_least : s.least ≡ 0
  pub no_greatest : s.greatest ≡ 0

abbrev pub IntervalTells : Verdict Interval → Scheduling → Type 0
IntervalTells (granted i) s = IntervalGiven i s
IntervalTells (refused r) s = IntervalRefused r s

abbrev pub IntervalTold : Type 0
IntervalTold = (δ c r : ℕ) → IntervalTells (interval δ c r) (scheduling_of (interval δ c r))

-- "settled_by 1 crusaders, 2 direct, 0 refused; start and length of the readings shown in that sheet; zeros beside a
-- refusal"
pub record FallbackGiven (x : Settlement) (sheet shown : List ℕ) (f : Falling) : Type 0 where
  pub answer : f.answer ≡ x.size
  pub below : f.answer < two_to32
  pub by : f.source ≡ source_number x.source
  pub part : take f.length (drop f.start sheet) ≡ shown
  pub some : 0 < f.length
  pub inside : f.start + f.length ≤ length sheet

pub record FallbackRefused (r : Refusal) (f : Falling) : Type 0 where
  pub refuses : Refuses 19 r f.answer
  pub no_source : f.source ≡ 0
  pub no_start : f.start ≡ 0
  pub no_length : f.length ≡ 0

abbrev pub FallbackTells : Verdict Settlement → List ℕ → List ℕ → List ℕ → Falling → Type 0
FallbackTells (granted x) a b shown f = FallbackGiven x (sheet_by x.source a b) shown f
FallbackTells (refused r) a b shown f = FallbackRefused r f

abbrev pub FallbackTold : Type 0
FallbackTold =
    (a b answer : List ℕ)
    → FallbackTells (fallback a b answer).verdict a b (fallback a b answer).shown
    (falling_of (fallback a b answer).verdict a b)

-- "Where the row of readings of a cabinet stands in the sheet: start * 2^32 + length, within the sheet"
pub record RowNamed : Type 0 where
  pub bytes : (s : List ℕ) (r : ℕ) → part_in s (packed_row s r) ≡ row s r
  pub inside : (s : List ℕ) (r : ℕ) → upper_half (packed_row s r) + lower_half (packed_row s r) ≤ length s
