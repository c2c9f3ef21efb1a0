-- The exact limits where more than m are bad: what document 01 states for m < t < N-m, to the tick. They are at most
-- the limits of Guarantee.antt (`Sharper`), which so follow from them. The theorem is `exact-limits` of
-- proofs/Exact.antt; crates/sharpness/specs/Sharpness.antt has rounds that reach them.
--
-- The used values of one cabinet add up to at most N times the highest good reading plus (m+t)δ, and to at least N
-- times the lowest good one less (m+t)δ. The mean's rounding never falls. So a new value is above the highest good
-- reading, or below the lowest, by at most the nearest whole number to (m+t)δ/N, where a half may go either way: it
-- goes to the even neighbour, and that depends on the reading. Good readings are at most δ apart; where δ is odd and
-- they are that far apart, one of them is even and the other odd, so that not both halves go outward.
--
--   excess                      (m+t)δ
--   half_up, half_down            the nearest whole number to a quotient, a half going up; and one going down
--   outward                     how far the two together can go outward, beyond δ
--   exact_gap, exact_error        how far two new values can be apart, and one from true time
--   Exact                       the limits, of a round
--   Sharper                     they are at most the limits of Guarantee.antt
--   ExactFirst, ExactLimits     both, of the first round of one run; of every run
use Rattle.std.specs.Prelude.{Bool, cond, List, ℕ, ◌+◌, ◌*◌, ◌-◌, ◌/◌, ◌%◌, ◌≤◌, ◌<◌, eqb, ℤ, length}
use Rattle.model.specs.Planner.{max_rounds}
use Rattle.run.specs.Run.{Station, N, m, δ, κ, Start, Sends, Allowed, State, start}
use Rattle.demand_3.specs.Guarantee.{Each}
use Rattle.run.specs.Run.{Sound}
use Rattle.demand_3.specs.Guarantee.{new_value, Unrefused, apart, Good, bad, First, wide_gap, wide_error}

-- (m+t)δ
abbrev pub excess : Station → ℕ → ℕ
excess st t = (m st + t) * δ st

-- the nearest whole number to x / n: the whole part of (2x + n) / 2n, and of (2x + n-1) / 2n
unfoldable pub half_up : ℕ → ℕ → ℕ
half_up n x = (2 * x + n) / (2 * n)

unfoldable pub half_down : ℕ → ℕ → ℕ
half_down n x = (2 * x + (n - 1)) / (2 * n)

-- both halves go outward where δ is even, and one of them where it is odd
abbrev pub outward : Station → ℕ → ℕ
outward st x = half_up (N st) x + cond (eqb (δ st % 2) 0) (half_up (N st) x) (half_down (N st) x)

-- κ and the nearest whole number to (m+t)δ/N
abbrev pub exact_error : Station → ℕ → ℕ
exact_error st t = κ st + half_up (N st) (excess st t)

-- δ and twice as much; less one where there is a half and δ is odd
abbrev pub exact_gap : Station → ℕ → ℕ
exact_gap st t = δ st + outward st (excess st t)

-- m < t < N-m, first round
pub record Exact (st : Station) (t : ℕ) (true-value : ℤ) (now : State) (x : Sends) : Type 0 where
  pub accurate :
      (p : ℕ) → Sound st p → Unrefused st now x p
      → apart (new_value st now x p) true-value ≤ exact_error st t
  pub precise :
      (p q : ℕ) → Sound st p → Sound st q → Unrefused st now x p → Unrefused st now x q
      → apart (new_value st now x p) (new_value st now x q) ≤ exact_gap st t

pub record Sharper (st : Station) (t : ℕ) : Type 0 where
  pub gap : exact_gap st t ≤ wide_gap st t
  pub error : exact_error st t ≤ wide_error st t

pub record ExactFirst (st : Station) (rounds : List Sends) (t : ℕ) (true-value : ℤ) : Type 0 where
  pub exact : First (Exact st t true-value) (start st) rounds
  pub sharper : Sharper st t

abbrev pub ExactLimits : Type 0
ExactLimits =
    (st : Station) → Start st
    → (rounds : List Sends) → length rounds ≤ max_rounds → Each (Allowed st) rounds
    → (good : ℕ → Bool) (true-value : ℤ) → Good st good true-value
    → m st < bad st good → bad st good < N st - m st
    → ExactFirst st rounds (bad st good) true-value
