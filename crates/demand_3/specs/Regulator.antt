-- The regulator's question: "How far apart can the time stamps of two sound cabinets be when three of the seven clocks
-- at a station lie, each telling every cabinet something else?" The theorem is `regulators_case` of
-- proofs/Regulator.antt; it follows from `exact-limits`, `guarantee` and `odd-limits`.
--
-- The answer, for seven cabinets planned for two faults, by either rule with any estimator. Seven is odd, so that no
-- mean is a half and the limits are those of Odd.antt:
--   three bad        after the first round two sound cabinets that do not refuse are at most δ + 2 near(5δ) apart, and
--                    each is within κ + near(5δ) of true, near(5δ) being the nearest whole number to 5δ/7. No smaller
--                    numbers would be true: crates/sharpness/specs/Sharpness.antt has a round that reaches both, at
--                    every window of at most 2κ (good readings cannot be further apart). Document 01's own limits,
--                    ⌈17δ/7⌉ and κ + ⌈5δ/7⌉, are the same or one tick more
--   four bad         the same with 6δ for 5δ and 19δ for 17δ
--   at most two bad  no sound cabinet refuses, and after round 1, 2, 3, .. they are at most ⌈4δ/7⌉, ⌈4δ₁/7⌉, ⌈4δ₂/7⌉,
--                    .. apart (⌈2δ/7⌉, ⌈2δ₁/7⌉, .. for CCA with median), where δ₁, δ₂, .. are the planned windows: δ₁
--                    is the whole part of 4δ/7 (2δ/7) plus one, or 0 where δ is, and so on. They are within κ + ⌈2δ/7⌉,
--                    then ⌈2δ₁/7⌉ more, .. of true. The windows are document 02's, so that from round 2 on these limits
--                    can be a tick more than document 01's by its own windows
--
--   SevenPlannedForTwo            the station: N 7 and m 2
--   nearest_seventh                the nearest whole number to a seventh
--   ManyBad, ThreeBad, FourBad    the first round, where three or four are bad
--   window_of, accuracy_of          the windows and the accuracies, in numbers
--   AtMostTwoBad, EveryNumbered   every round, where at most two are bad
--   Regulators, RegulatorsCase    all three, of one run; of every run
use Rattle.std.specs.Prelude.{Bool, cond, ◌&&◌, List, [], ◌∷◌, ◌≡◌, ℕ, zero, suc, ◌+◌, ◌*◌, ◌/◌, ◌≤◌, eqb, ℤ, length}
use Rattle.model.specs.RoundSheet.{cca, median}
use Rattle.model.specs.AnswerSheet.{answer_length}
use Rattle.model.specs.Planner.{ceil_div, past_div, plan_from, after, max_rounds}
use Rattle.model.specs.Calls.{granted}
use Rattle.run.specs.Run.{Station, N, m, δ, κ, Start, Sends, Allowed, State, start, next}
use Rattle.demand_3.specs.Guarantee.{Each}
use Rattle.run.specs.Run.{settled, Sound}
use Rattle.demand_3.specs.Guarantee.{new_value, Unrefused, apart, Good, bad, First}

pub record SevenPlannedForTwo (st : Station) : Type 0 where
  pub seven : N st ≡ 7
  pub two : m st ≡ 2

-- ---- Three or four bad

-- the nearest whole number to a/7, of which no half can occur: the whole part of (2a + 7)/14
unfoldable pub nearest_seventh : ℕ → ℕ
nearest_seventh a = (2 * a + 7) / 14

-- the first round, with `more` and `wide` sevenths of the window: first to the tick, then as document 01 has it
pub record ManyBad (st : Station) (more wide : ℕ) (true-value : ℤ) (now : State) (x : Sends) : Type 0 where
  pub precise :
      (p q : ℕ) → Sound st p → Sound st q → Unrefused st now x p → Unrefused st now x q
      → apart (new_value st now x p) (new_value st now x q) ≤ δ st + 2 * nearest_seventh (more * δ st)
  pub accurate :
      (p : ℕ) → Sound st p → Unrefused st now x p
      → apart (new_value st now x p) true-value ≤ κ st + nearest_seventh (more * δ st)
  pub widely_precise :
      (p q : ℕ) → Sound st p → Sound st q → Unrefused st now x p → Unrefused st now x q
      → apart (new_value st now x p) (new_value st now x q) ≤ ceil_div (wide * δ st) 7
  pub widely_accurate :
      (p : ℕ) → Sound st p → Unrefused st now x p
      → apart (new_value st now x p) true-value ≤ κ st + ceil_div (more * δ st) 7

abbrev pub ThreeBad : Station → ℤ → State → Sends → Type 0
ThreeBad st = ManyBad st 5 17

abbrev pub FourBad : Station → ℤ → State → Sends → Type 0
FourBad st = ManyBad st 6 19

-- ---- At most two bad

-- how many sevenths of a window the next one is
unfoldable pub sevenths : Station → ℕ
sevenths st = cond (eqb st.settings.rule cca && eqb st.settings.estimator median) 2 4

-- the window after k rounds
unfoldable pub window_of : Station → ℕ → ℕ
window_of st zero = δ st
window_of st (suc k) = cond (eqb (window_of st k) 0) 0 (past_div (sevenths st * window_of st k) 7)

-- the accuracy after k rounds
unfoldable pub accuracy_of : Station → ℕ → ℕ
accuracy_of st zero = κ st
accuracy_of st (suc k) = accuracy_of st k + ceil_div (2 * window_of st k) 7

-- a round, k rounds being done before it
pub record AtMostTwoBad (st : Station) (true-value : ℤ) (k : ℕ) (now : State) (x : Sends) : Type 0 where
  -- the plan is the planner's after k rounds, and the round is settled at its window
  pub plan : now.plan ≡ after k (plan_from st.settings (κ st))
  pub window : now.plan.settings.window ≡ window_of st k
  pub accuracy : now.plan.accuracy ≡ accuracy_of st k
  pub unrefused : (p : ℕ) → Sound st p → (settled st now x p).verdict ≡ granted (answer_length 7)
  pub precise :
      (p q : ℕ) → Sound st p → Sound st q
      → apart (new_value st now x p) (new_value st now x q) ≤ ceil_div (sevenths st * window_of st k) 7
  -- which is at most the next window
  pub narrower : ceil_div (sevenths st * window_of st k) 7 ≤ window_of st (suc k)
  pub accurate : (p : ℕ) → Sound st p → apart (new_value st now x p) true-value ≤ accuracy_of st (suc k)

-- a claim about every round of a list, with the number of rounds done before it
abbrev pub EveryNumbered : Station → (ℕ → State → Sends → Type 0) → ℕ → State → List Sends → Type 0
EveryNumbered st Claim k now [] = Unit {0}
EveryNumbered st Claim k now (x ∷ xs) = Claim k now x × EveryNumbered st Claim (suc k) (next st now x) xs

-- ---- The statement

pub record Regulators (st : Station) (rounds : List Sends) (good : ℕ → Bool) (true-value : ℤ) : Type 0 where
  pub three : bad st good ≡ 3 → First (ThreeBad st true-value) (start st) rounds
  pub four : bad st good ≡ 4 → First (FourBad st true-value) (start st) rounds
  pub fewer : bad st good ≤ 2 → EveryNumbered st (AtMostTwoBad st true-value) 0 (start st) rounds

abbrev pub RegulatorsCase : Type 0
RegulatorsCase =
    (st : Station) → SevenPlannedForTwo st → Start st
    → (rounds : List Sends) → length rounds ≤ max_rounds → Each (Allowed st) rounds
    → (good : ℕ → Bool) (true-value : ℤ) → Good st good true-value
    → Regulators st rounds good true-value
