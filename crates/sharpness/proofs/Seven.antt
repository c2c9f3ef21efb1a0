-- The regulator's question to the tick: `seven-reached` is the corollary that specs/Sharpness.antt states. Where t of
-- seven are bad the exact gap is δ and twice the nearest whole number to (2+t)δ/7, at every window.
-- Assumes nothing.
use mathlib.Core.Bool.{Bool, true, false, cond}
use mathlib.Core.Path.{◌≡◌, refl}
use Prim.Native.Nat.{ℕ, ◌+◌, ◌*◌, ◌/◌, ◌%◌, ◌≤◌, ◌<◌}
use native.Mathlib.Omega.{arith}
use lib.Dec.{eqb, lit<, lit≤}
use Rattle.model.specs.RoundSheet.{fca, median}
use Rattle.model.specs.Cases.{settings}
use Rattle.model.specs.Ensemble.{max_window}
use Rattle.model.specs.Planner.{max_accuracy}
use Rattle.planner_laws.proofs.Checks.{may-start-none}
use Rattle.run.specs.Run.{Station}
use Rattle.demand_3.specs.Exact.{half_up, half_down, exact_gap, exact_error}
use Rattle.demand_3.specs.Regulator.{nearest_seventh}
use Rattle.sharpness.specs.Sharpness.{Covered, Reached, SevenAt, SevenReached}
use Rattle.sharpness.proofs.Sharpness.{always_reached}

seven_covered :
    (t δ κ : ℕ) → 2 < t → t < 5 → δ ≤ max_window → 0 < κ → κ ≤ max_accuracy → Covered 7 2 t δ κ
seven_covered t δ κ more fewer window inexact accuracy =
    record {
      grants =
          may-start-none (settings 7 2 fca median δ) κ 0
          (record {
            passes =
                record {
                  some_cabinet = lit≤ tt;
                  cabinets = lit≤ tt;
                  faults = lit≤ tt;
                  method = refl;
                  window = window;
                };
            accurate = accuracy;
            few = lit≤ tt;
          });
      more = more;
      fewer = fewer;
      crowded = omega arith;
      inexact = inexact;
    }

-- the exact limits of any station with these settings; 7 is odd, so that there is no half
module _ (t δ κ : ℕ) (st : Station) (chosen : st.settings ≡ settings 7 2 fca median δ) where
  seven-gap : exact_gap st t ≡ δ + 2 * nearest_seventh ((2 + t) * δ)
  unfolding half_up half_down nearest_seventh
  seven-gap = rw chosen (go ((2 + t) * δ) (eqb (δ % 2) 0))
    where
      go : (e : ℕ) (b : Bool) → δ + ((2 * e + 7) / 14 + cond b ((2 * e + 7) / 14) ((2 * e + 6) / 14)) ≡ δ + 2 * ((2 * e + 7) / 14)
      go e true = omega arith
      go e false = omega arith

  seven-error : st.accuracy ≡ κ → exact_error st t ≡ κ + nearest_seventh ((2 + t) * δ)
  unfolding half_up nearest_seventh
  seven-error accuracy = rw (chosen, accuracy)

seven_at :
    (t δ κ : ℕ) → 2 < t → t < 5 → δ ≤ max_window → 0 < κ → κ ≤ max_accuracy → SevenAt t δ κ
seven_at t δ κ more fewer window inexact accuracy =
    let r : Reached 7 2 t δ κ = always_reached 7 2 t δ κ (seven_covered t δ κ more fewer window inexact accuracy) in
    record {
      reached = r;
      gap = seven-gap t δ κ r.station r.chosen;
      error = seven-error t δ κ r.station r.chosen r.accuracy;
    }

pub seven-reached : SevenReached
seven-reached δ κ window inexact accuracy = (
  seven_at 3 δ κ (lit< tt) (lit< tt) window inexact accuracy,
  seven_at 4 δ κ (lit< tt) (lit< tt) window inexact accuracy,
)
