-- The exact limits for more than m bad are reached, so that no smaller ones would be true: for all settings of FCA with
-- median that the planner grants, where m < t < N-m, N ≤ 2m+t and κ is not 0, there is a first round with t bad after
-- which a sound cabinet is as far from true time as `exact_error` of crates/demand_3/specs/Exact.antt allows; and where
-- δ ≤ 2κ, two are as far apart as `exact_gap` allows. (Where 2κ is below δ, good readings are less than δ apart, as each
-- lies within κ of true time.) The theorem is `always_reached` of proofs/Sharpness.antt.
--
-- The round, where δ ≤ 2κ: N-m-t sound cabinets read 0, as many read δ, and the others about half of that. The t faulty
-- ones tell one cabinet -δ and another 2δ. With those at 0 they fill the one's span, with those at δ the other's, and
-- each takes what they told it for the median. All of this is one tick higher where the other's new value would be odd,
-- so that its half, if it has one, goes up. proofs/Worst.antt has it.
--
--   Covered                   the numbers that this speaks of
--   Reached, AlwaysReached    a run that reaches the exact limits; there is one for all numbers that are covered
--   SevenReached              the regulator's question: three or four of seven are bad
use Rattle.std.specs.Prelude.{Bool, [], ◌∷◌, ◌≡◌, ℕ, ◌+◌, ◌*◌, ◌-◌, ◌≤◌, ◌<◌, ℤ}
use Rattle.std.proofs.Math.Option.{none}
use Rattle.model.specs.RoundSheet.{fca, median}
use Rattle.model.specs.Refusals.{first_of, plan_checks}
use Rattle.model.specs.Cases.{settings}
use Rattle.model.specs.Ensemble.{max_window}
use Rattle.model.specs.Planner.{max_accuracy}
use Rattle.run.specs.Run.{Station, Sends, start, Sound}
use Rattle.demand_3.specs.Guarantee.{Unrefused, bad}
use Rattle.demand_3.specs.Exact.{exact_gap, exact_error}
use Rattle.demand_3.specs.Regulator.{nearest_seventh}
use Rattle.demand_3.specs.Witnesses.{gap, error, Meets}

pub record Covered (n m t δ κ : ℕ) : Type 0 where
  -- "settings that the planner grants for 0 rounds"
  pub grants : first_of (plan_checks (settings n m fca median δ) κ 0) ≡ none
  -- "m < t < N-m"
  pub more : m < t
  pub fewer : t < n - m
  -- the two spans need N-m-t sound cabinets each, other ones
  pub crowded : n ≤ 2 * m + t
  -- where κ is 0 all good readings are alike
  pub inexact : 0 < κ

pub record Reached (n m t δ κ : ℕ) : Type 0 where
  -- a station with these settings and this accuracy, a round, its good cabinets, true time, and two cabinets
  pub station : Station
  pub round : Sends
  pub good : ℕ → Bool
  pub true-value : ℤ
  pub p : ℕ
  pub q : ℕ
  pub chosen : station.settings ≡ settings n m fca median δ
  pub accuracy : station.accuracy ≡ κ
  pub meets : Meets station (round ∷ []) good true-value
  pub counts : bad station good ≡ t
  pub sound : Sound station p × Sound station q
  pub unrefused : Unrefused station (start station) round p × Unrefused station (start station) round q
  -- q is as far from true time as can be, and p from q
  pub farthest : error station (start station) round q true-value ≡ exact_error station t
  pub widest : δ ≤ 2 * κ → gap station (start station) round p q ≡ exact_gap station t

abbrev pub AlwaysReached : Type 0
AlwaysReached = (n m t δ κ : ℕ) → Covered n m t δ κ → Reached n m t δ κ

-- N 7, m 2, and t bad: such a run, and what the exact limits are
pub record SevenAt (t δ κ : ℕ) : Type 0 where
  pub reached : Reached 7 2 t δ κ
  pub gap : exact_gap reached.station t ≡ δ + 2 * nearest_seventh ((2 + t) * δ)
  pub error : exact_error reached.station t ≡ κ + nearest_seventh ((2 + t) * δ)

-- three or four bad, at every window and every accuracy that the planner grants but 0
abbrev pub SevenReached : Type 0
SevenReached = (δ κ : ℕ) → δ ≤ max_window → 0 < κ → κ ≤ max_accuracy → SevenAt 3 δ κ × SevenAt 4 δ κ
