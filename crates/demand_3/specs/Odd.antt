-- For an odd N no mean is a half, and the mean's rounding shifts alike at odd and even ticks. So the precision limits
-- are true there in document 01's form, ⌈q/N⌉, though document 02's "Paper 4" allows one tick more where q/N is whole;
-- and the exact limits are what the mean makes of (m+t)δ more and of (m+t)δ less. The windows that q speaks of after
-- the first round are the plan's, which "Paper 4" can make a tick wider than document 01's. The theorem is `odd-limits`
-- of proofs/Odd.antt.
--
--   odd_close_gap, OddClose       t ≤ m: the limit, of a round
--   odd_wide_gap, OddWide         m < t < N-m: the limit, of a round
--   near, OddExact              what the mean makes of a sum; the exact limits by it
--   OddGuarantee, OddLimits     all of it, of one run; of every run
use Rattle.std.specs.Prelude.{Bool, List, ◌≡◌, ℕ, ◌+◌, ◌*◌, ◌-◌, ◌%◌, ◌≤◌, ◌<◌, ℤ, pos, ◌-ℤ◌, length}
use Rattle.model.specs.Steps.{mean}
use Rattle.model.specs.Planner.{ceil_div, window_factor, max_rounds}
use Rattle.run.specs.Run.{Station, N, m, δ, κ, Start, Sends, Allowed, State, start, Sound}
use Rattle.demand_3.specs.Guarantee.{Each, Every, First, new_value, Unrefused, apart, Good, bad, close_gap, wide_gap}
use Rattle.demand_3.specs.Exact.{excess, exact_gap, exact_error}

-- ⌈2mδ/N⌉, or ⌈mδ/N⌉ for CCA with median, with the round's δ
abbrev pub odd_close_gap : Station → State → ℕ
odd_close_gap st now = ceil_div (window_factor st.settings * (m st * now.plan.settings.window)) (N st)

pub record OddClose (st : Station) (now : State) (x : Sends) : Type 0 where
  pub precise :
      (p q : ℕ) → Sound st p → Sound st q
      → apart (new_value st now x p) (new_value st now x q) ≤ odd_close_gap st now
  pub sharper : odd_close_gap st now ≤ close_gap st now x

-- ⌈(N+2t+2m)δ/N⌉
abbrev pub odd_wide_gap : Station → ℕ → ℕ
odd_wide_gap st t = ceil_div ((N st + 2 * t + 2 * m st) * δ st) (N st)

pub record OddWide (st : Station) (t : ℕ) (now : State) (x : Sends) : Type 0 where
  pub precise :
      (p q : ℕ) → Sound st p → Sound st q → Unrefused st now x p → Unrefused st now x q
      → apart (new_value st now x p) (new_value st now x q) ≤ odd_wide_gap st t
  pub sharper : odd_wide_gap st t ≤ wide_gap st t

-- "the mean of N used values to the nearest whole number"
abbrev pub near : Station → ℤ → ℤ
near st sum = mean (N st) sum

-- δ + near((m+t)δ) - near(-(m+t)δ), and κ + near((m+t)δ)
pub record OddExact (st : Station) (t : ℕ) : Type 0 where
  pub gap : exact_gap st t ≡ δ st + apart (near st (pos (excess st t))) (near st (pos 0 -ℤ pos (excess st t)))
  pub error : exact_error st t ≡ κ st + apart (near st (pos (excess st t))) (pos 0)

pub record OddGuarantee (st : Station) (rounds : List Sends) (good : ℕ → Bool) : Type 0 where
  pub few : bad st good ≤ m st → Every st (OddClose st) (start st) rounds
  pub many :
      m st < bad st good → bad st good < N st - m st
      → First (OddWide st (bad st good)) (start st) rounds
  pub exact : OddExact st (bad st good)

abbrev pub OddLimits : Type 0
OddLimits =
    (st : Station) → N st % 2 ≡ 1 → Start st
    → (rounds : List Sends) → length rounds ≤ max_rounds → Each (Allowed st) rounds
    → (good : ℕ → Bool) (true-value : ℤ) → Good st good true-value
    → OddGuarantee st rounds good
