-- Demand 1: what leaves where bytes of any kind, or settings of any kind, come in. The theorem is `demand_1` of
-- proofs/Demand1.antt.
--
-- It speaks of `settle_spread`, `read`, `write`, `row`, `plan`, `step` and `Target` of crates/model/specs/Calls.antt:
-- the same definitions that the functions' promises are equations with. `settle` is `settle_spread` with the spread 0.
-- The checks of a call are its list in crates/model/specs/Refusals.antt.
--
-- "Nothing is presumed checked": every field holds for all arguments. A list may be empty, or longer than any sheet,
-- and its elements need not even be bytes.
-- What is not claimed: what an answer sheet says of its round, which is demand 2; what a program prints.
--
--   NoneApplies, FirstThatApplies    no check of a call applies; the first that does
--   InOrder                          the numbers that the checks of a call refuse under, in their order
--   Gives                            what a call gives: it grants, or says the first refusal that applies
--   Begins, Leaves                   what a lent list holds after a call
--   LowestAtFault, Placed            the place of a refusal
--   OfSettle, OfRead, OfWrite, OfRow, OfPlan, OfStep, OfTarget    demand 1 of each call
--   Demand1                          of all calls
use Rattle.std.specs.Prelude.{List, [], ◌∷◌, ◌≡◌, ℕ, ◌≤◌, ◌<◌, ℤ, length, get_or, take, drop}
use Rattle.std.proofs.Math.Option.{none, some}
use Rattle.model.specs.declared.Settings.{Settings}
use Rattle.model.specs.Refusals.{Refusal}
use Rattle.model.specs.RoundSheet.{byte, settings_at, entry_count, sheet_length, mark_at, bits_at, bits_in, sheet_bytes}
use Rattle.model.specs.AnswerSheet.{answer_length, answer_bytes}
use Rattle.model.specs.Steps.{round_at}
use Rattle.model.specs.Planner.{Plan, plan_from, advance, after, Reaches}
use Rattle.model.specs.Refusals.{Check, settle_checks, read_checks, write_checks, row_checks}
use Rattle.model.specs.Refusals.{plan_checks, step_checks, target_checks}
use Rattle.model.specs.Calls.{Verdict, granted, refused, marks_of, ticks_of, read, write, row, settle_spread, plan, step}
use Rattle.model.specs.Calls.{Target}

-- ---- "one answer sheet or one numbered refusal, the first that applies"

abbrev pub NoneApplies : List Check → Type 0
NoneApplies checks = (i : ℕ) → get_or checks i none ≡ none

-- r is what one of the checks says, and no check before that one applies
pub record FirstThatApplies (checks : List Check) (r : Refusal) : Type 0 where
  pub index : ℕ
  pub applies : get_or checks index none ≡ some r
  pub earlier : (i : ℕ) → i < index → get_or checks i none ≡ none

-- document 01: "Checks run in this order, those that apply to the call". There is a check for each of the numbers, and
-- one that refuses does so under the number at its place
pub record InOrder (numbers : List ℕ) (checks : List Check) : Type 0 where
  pub as_many : length checks ≡ length numbers
  pub says : (i : ℕ) (r : Refusal) → get_or checks i none ≡ some r → r.number ≡ get_or numbers i 0

-- where no check applies the call grants, and what it grants is as Granted says; else it says the first refusal
abbrev pub Gives : {A : Type 0} → List Check → (A → Type 0) → Verdict A → Type 0
Gives checks Granted (granted a) = NoneApplies checks × Granted a
Gives checks Granted (refused r) = FirstThatApplies checks r

-- ---- "a refusal changes nothing in the answer buffer"

-- a list that begins with what is new; later entries keep what they had
pub record Begins {A : Type 0} (new before after : List A) : Type 0 where
  pub start : take (length new) after ≡ new
  pub later : drop (length new) after ≡ drop (length new) before
  pub long : length after ≡ length before

-- what a call that gives a verdict leaves in a list that it was lent
abbrev pub Leaves : {A B : Type 0} → Verdict A → List B → List B → List B → Type 0
Leaves (granted a) new before after = Begins new before after
Leaves (refused r) new before after = after ≡ before

-- ---- document 01: "A refusal gives its number and a place: for 8 and 9 the lowest entry at fault, else 0"

-- of E entries this one is at fault, and no lower one is
pub record LowestAtFault (Fault : ℕ → Type 0) (E entry : ℕ) : Type 0 where
  pub is_entry : entry < E
  pub at_fault : Fault entry
  pub lower : (e : ℕ) → e < entry → Fault e → ⊥

-- the place of r, where E entries have these marks and these four bytes each as a number
pub record Placed (mark bits : ℕ → ℕ) (E : ℕ) (r : Refusal) : Type 0 where
  -- 8: "a mark not 0 or 1"
  pub of_mark : r.number ≡ 8 → LowestAtFault (λ e. 1 < mark e) E r.place
  -- 9: "missing, bytes not zero"
  pub of_missing : r.number ≡ 9 → LowestAtFault (λ e. (mark e ≡ 0) × (0 < bits e)) E r.place
  -- "All marks are checked before any 9"
  pub marks_first : r.number ≡ 9 → (e : ℕ) → e < E → mark e ≤ 1
  pub elsewhere : (r.number ≡ 8 → ⊥) → (r.number ≡ 9 → ⊥) → r.place ≡ 0

-- ---- Sheets

-- "A round sheet comes in as bytes of any kind and any length": the list s, a spread D of any size (document 02,
-- request 2: 16 "after 5"), and the answer buffer
pub record OfSettle (s : List ℕ) (D : ℕ) (answer : List ℕ) : Type 0 where
  pub order : InOrder (1 ∷ 2 ∷ 3 ∷ 4 ∷ 5 ∷ 16 ∷ 6 ∷ 7 ∷ 8 ∷ 9 ∷ 10 ∷ []) (settle_checks s D (length answer))
  -- "It leaves as one answer sheet or one numbered refusal, the first that applies": what is granted is its length
  pub gives :
      Gives (settle_checks s D (length answer)) (λ size. size ≡ answer_length (settings_at s).n)
      (settle_spread s D answer).verdict
  -- "and a refusal changes nothing in the answer buffer"; later bytes keep what they had
  pub leaves :
      Leaves (settle_spread s D answer).verdict (answer_bytes (settings_at s).n (round_at s D)) answer
      (settle_spread s D answer).buffer
  pub place :
      (r : Refusal) → (settle_spread s D answer).verdict ≡ refused r
      → Placed (mark_at s) (bits_at s (entry_count (settings_at s))) (entry_count (settings_at s)) r

-- the reader: "refusing under 1 to 9 (7 when either array is shorter than E); entries past E keep what they had"
pub record OfRead (s marks : List ℕ) (readings : List ℤ) : Type 0 where
  pub order : InOrder (1 ∷ 2 ∷ 3 ∷ 4 ∷ 5 ∷ 6 ∷ 7 ∷ 7 ∷ 8 ∷ 9 ∷ []) (read_checks s (length marks) (length readings))
  pub gives :
      Gives (read_checks s (length marks) (length readings)) (λ c. c ≡ settings_at s)
      (read s marks readings).verdict
  pub leaves_marks : Leaves (read s marks readings).verdict (marks_of s) marks (read s marks readings).marks
  pub leaves_readings : Leaves (read s marks readings).verdict (ticks_of s) readings (read s marks readings).readings
  pub place :
      (r : Refusal) → (read s marks readings).verdict ≡ refused r
      → Placed (mark_at s) (bits_at s (entry_count (settings_at s))) (entry_count (settings_at s)) r

-- the writer: "refuses under 2 to 9: 6 when an array is not E long, 7 when its buffer is short. Bytes past the sheet
-- keep what they had"
pub record OfWrite (c : Settings) (marks : List ℕ) (readings : List ℤ) (buffer : List ℕ) : Type 0 where
  pub order : InOrder (2 ∷ 3 ∷ 4 ∷ 5 ∷ 6 ∷ 6 ∷ 7 ∷ 8 ∷ 9 ∷ []) (write_checks c marks readings (length buffer))
  pub gives :
      Gives (write_checks c marks readings (length buffer)) (λ size. size ≡ sheet_length c)
      (write c marks readings buffer).verdict
  pub leaves :
      Leaves (write c marks readings buffer).verdict (sheet_bytes c marks readings) buffer
      (write c marks readings buffer).buffer
  pub place :
      (r : Refusal) → (write c marks readings buffer).verdict ≡ refused r
      → Placed (byte marks) (bits_in readings) (entry_count c) r

-- the row accessor: "A sheet that checks 1 to 6, 8 or 9 refuse .. shows an empty part"
pub record OfRow (s : List ℕ) : Type 0 where
  pub order : InOrder (1 ∷ 2 ∷ 3 ∷ 4 ∷ 5 ∷ 6 ∷ 8 ∷ 9 ∷ []) (row_checks s)
  pub empty : (r : Refusal) → FirstThatApplies (row_checks s) r → (cabinet : ℕ) → row s cabinet ≡ []

-- ---- "The round planner refuses bad settings likewise"

-- the plan for k rounds
pub record OfPlan (c : Settings) (κ k : ℕ) : Type 0 where
  pub order : InOrder (2 ∷ 3 ∷ 4 ∷ 5 ∷ 11 ∷ []) (plan_checks c κ k)
  pub gives : Gives (plan_checks c κ k) (λ p. p ≡ after k (plan_from c κ)) (plan c κ k)
  pub place : (r : Refusal) → plan c κ k ≡ refused r → r.place ≡ 0

-- a plan's step
pub record OfStep (p : Plan) : Type 0 where
  pub order : InOrder (2 ∷ 3 ∷ 4 ∷ 5 ∷ 11 ∷ []) (step_checks p)
  pub gives : Gives (step_checks p) (λ q. q ≡ advance p) (step p)
  pub place : (r : Refusal) → step p ≡ refused r → r.place ≡ 0

-- the count for a target. More than one count may fit, and any that does may be given: so `Target` says of an answer
-- that it may be given
pub record OfTarget (c : Settings) (κ target : ℕ) : Type 0 where
  pub order : InOrder (2 ∷ 3 ∷ 4 ∷ 5 ∷ 11 ∷ 12 ∷ []) (target_checks c κ target)
  pub gives :
      (answer : Verdict ℕ) → Target c κ target answer
      → Gives (target_checks c κ target) (Reaches c κ target) answer
  pub some : (answer : Verdict ℕ) × Target c κ target answer
  pub place : (r : Refusal) → Target c κ target (refused r) → r.place ≡ 0

-- ---- The statement

pub record Demand1 : Type 0 where
  pub of_settle : (s : List ℕ) (D : ℕ) (answer : List ℕ) → OfSettle s D answer
  pub of_read : (s marks : List ℕ) (readings : List ℤ) → OfRead s marks readings
  pub of_write : (c : Settings) (marks : List ℕ) (readings : List ℤ) (buffer : List ℕ) → OfWrite c marks readings buffer
  pub of_row : (s : List ℕ) → OfRow s
  pub of_plan : (c : Settings) (κ k : ℕ) → OfPlan c κ k
  pub of_step : (p : Plan) → OfStep p
  pub of_target : (c : Settings) (κ target : ℕ) → OfTarget c κ target
