-- Demand 3 and document 01, "Limits for sound cabinets" (docs/FORMAT.md, 10): how far sound cabinets can be from each
-- other and from true time, over a whole run of 0 to 32 rounds, whatever faulty cabinets send. The run is that of
-- crates/run/specs/Run.antt. The theorem is `guarantee` of proofs/Guarantee.antt. Beside this file, Exact.antt has the
-- limits for m < t < N-m to the tick, Odd.antt has tighter ones for an odd N, OneValue.antt says what a window of 0
-- means, Regulator.antt has it for seven cabinets, and Witnesses.antt has rounds that reach its limits.
-- Its precision limits are as document 02's "Paper 4. Halves go to the even tick" rewrites them: the planner's next
-- window, and the whole part of q/N plus one where document 01 has ⌈q/N⌉.
--
-- Where this departs from the paper (document 004): t counts every cabinet outside the good set, faulty or sound with a
-- bad first reading (the paper's Theorem 2 counts the faulty ones only); limits are whole numbers; a reading may be
-- missing; nothing is said of values that two cabinets share (Lemmas 5 and 7, the sharing half of
-- Theorem 8, Theorem 10).
-- What is not claimed: anything about networks or times of delivery; limits after the first round where more than m are
-- bad; what the program prints.
--
--   new_value, Unrefused, apart       words for the limits
--   Good, bad                        the good cabinets, and t, the number of the others
--   Every, First                     a claim about every round, and about the first
--   Orderly                          what holds of a round whatever t is
--   close_gap, close_error, Close      the limits for t ≤ m
--   wide_gap, wide_error, Wide         the limits for m < t < N-m
--   Guarantee, Demand3               all three, of one run; of every run
use Rattle.std.specs.Prelude.{Bool, true, not, List, [], ◌∷◌, ◌⊎◌, ◌≡◌, ℕ, ◌+◌, ◌*◌, ◌-◌, ◌≤◌, ◌<◌, ℤ, nat_abs, ◌-ℤ◌, length}
use Rattle.arithmetic.specs.Counting.{count}
use Rattle.model.specs.Ensemble.{is_present, ticks}
use Rattle.model.specs.AnswerSheet.{answer_length}
use Rattle.model.specs.Planner.{ceil_div, past_div, max_rounds}
use Rattle.model.specs.Refusals.{refusal, too_many_faults_number}
use Rattle.model.specs.Calls.{granted, refused, step}
use Rattle.run.specs.Run.{Station, N, m, δ, κ, Start, Sends, Allowed, State, start, settled, next, Sound}

-- ---- Words

-- p's new value, which it holds after the round unless it was refused
abbrev pub new_value : Station → State → Sends → ℕ → ℤ
new_value st now x p = ticks ((next st now x).held p)

abbrev pub Unrefused : Station → State → Sends → ℕ → Type 0
Unrefused st now x p = is_present ((next st now x).held p) ≡ true

-- how far two whole numbers are apart
abbrev pub apart : ℤ → ℤ → ℕ
apart a b = nat_abs (a -ℤ b)

-- ---- The good cabinets

-- "The good cabinets are any set of sound ones whose first readings are present, within κ of one whole true value, the
-- same all through the run, and within δ of each other"
pub record Good (st : Station) (good : ℕ → Bool) (true-value : ℤ) : Type 0 where
  pub sound : (p : ℕ) → p < N st → good p ≡ true → st.sound p ≡ true
  pub present : (p : ℕ) → p < N st → good p ≡ true → is_present (st.first p) ≡ true
  pub accurate : (p : ℕ) → p < N st → good p ≡ true → apart (ticks (st.first p)) true-value ≤ κ st
  pub precise :
      (p q : ℕ) → p < N st → q < N st → good p ≡ true → good q ≡ true
      → apart (ticks (st.first p)) (ticks (st.first q)) ≤ δ st

-- t: "The other t cabinets are bad"
abbrev pub bad : Station → (ℕ → Bool) → ℕ
bad st good = count (λ p. not (good p)) (N st)

-- ---- The limits

-- a claim about every round of a list, from a state on
abbrev pub Every : Station → (State → Sends → Type 0) → State → List Sends → Type 0
Every st Claim now [] = Unit {0}
Every st Claim now (x ∷ xs) = Claim now x × Every st Claim (next st now x) xs

-- a claim about the first round of a list
abbrev pub First : (State → Sends → Type 0) → State → List Sends → Type 0
First Claim now [] = Unit {0}
First Claim now (x ∷ xs) = Claim now x

-- whatever t is: "sheet and tray pass checks 1 to 9". So a sound cabinet's sheet is settled, or refused under 10, "too
-- many faults", at place 0, and for no other reason; and the plan goes forward
pub record Orderly (st : Station) (now : State) (x : Sends) : Type 0 where
  pub passes :
      (p : ℕ) → Sound st p
      → ((settled st now x p).verdict ≡ granted (answer_length (N st)))
      ⊎ ((settled st now x p).verdict ≡ refused (refusal too_many_faults_number 0))
  pub steps : step now.plan ≡ granted (next st now x).plan

-- "the next window", and "the planned accuracy", of the plan that goes one round forward
abbrev pub close_gap : Station → State → Sends → ℕ
close_gap st now x = (next st now x).plan.settings.window

abbrev pub close_error : Station → State → Sends → ℕ
close_error st now x = (next st now x).plan.accuracy

-- t ≤ m: "no sound cabinet and no step of the plan refuses, and after each round any two sound cabinets' new values
-- differ by no more than the next window and each strays from true time by no more than the planned accuracy"
pub record Close (st : Station) (true-value : ℤ) (now : State) (x : Sends) : Type 0 where
  pub unrefused : (p : ℕ) → Sound st p → (settled st now x p).verdict ≡ granted (answer_length (N st))
  pub steps : step now.plan ≡ granted (next st now x).plan
  pub precise :
      (p q : ℕ) → Sound st p → Sound st q
      → apart (new_value st now x p) (new_value st now x q) ≤ close_gap st now x
  pub accurate : (p : ℕ) → Sound st p → apart (new_value st now x p) true-value ≤ close_error st now x

-- m < t < N-m, first round: "an unrefused value is within κ + ⌈(m+t)δ/N⌉ of true, and two differ by at most"
-- (N+2t+2m)δ/N, "the whole part", "plus one"
abbrev pub wide_error : Station → ℕ → ℕ
wide_error st t = κ st + ceil_div ((m st + t) * δ st) (N st)

abbrev pub wide_gap : Station → ℕ → ℕ
wide_gap st t = past_div ((N st + 2 * t + 2 * m st) * δ st) (N st)

pub record Wide (st : Station) (t : ℕ) (true-value : ℤ) (now : State) (x : Sends) : Type 0 where
  pub accurate :
      (p : ℕ) → Sound st p → Unrefused st now x p
      → apart (new_value st now x p) true-value ≤ wide_error st t
  pub precise :
      (p q : ℕ) → Sound st p → Sound st q → Unrefused st now x p → Unrefused st now x q
      → apart (new_value st now x p) (new_value st now x q) ≤ wide_gap st t

-- ---- The statement

-- a claim about every element of a list
abbrev pub Each : (Sends → Type 0) → List Sends → Type 0
Each Claim [] = Unit {0}
Each Claim (x ∷ xs) = Claim x × Each Claim xs

pub record Guarantee (st : Station) (rounds : List Sends) (good : ℕ → Bool) (true-value : ℤ) : Type 0 where
  -- of every run: the empty set is good too
  pub every-round : Every st (Orderly st) (start st) rounds
  pub few : bad st good ≤ m st → Every st (Close st true-value) (start st) rounds
  pub many :
      m st < bad st good → bad st good < N st - m st
      → First (Wide st (bad st good) true-value) (start st) rounds

-- "For every list of 0 to 32 rounds from a fresh plan, whatever the faulty cabinets send to whom in each"
abbrev pub Demand3 : Type 0
Demand3 =
    (st : Station) → Start st
    → (rounds : List Sends) → length rounds ≤ max_rounds → Each (Allowed st) rounds
    → (good : ℕ → Bool) (true-value : ℤ) → Good st good true-value
    → Guarantee st rounds good true-value
