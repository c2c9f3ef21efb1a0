-- The numbers of specs/Cases.antt. The least and the greatest are computed; that they are those of the search is the law.
-- Assumes nothing.
use mathlib.Core.Path.{◌≡◌, refl}
use mathlib.Core.Bool.{cond}
use Prim.Native.Nat.{ℕ, ◌≤◌, ◌<◌}
use native.Mathlib.Omega.{arith}
use lib.Dec.{eqb}
use Rattle.model.specs.Planner.{ceil_div}
use Rattle.interval.specs.Interval.{out_of_range}
use Rattle.interval.specs.Formula.{coefficient, needed, least_by, greatest_by}
use Rattle.interval.specs.Cases.{IntervalCases}
use Rattle.interval.proofs.Guarantee.{in_range_lem, interval-outside, interval-found, interval-none}

pub interval-cases : IntervalCases
unfolding out_of_range coefficient needed least_by greatest_by ceil_div
interval-cases =
    record {
      single = interval-found 998 997 1000 (in_range_lem 998 997 1000 refl) (omega arith);
      eaten = interval-none 1001 1000 1000 (in_range_lem 1001 1000 1000 refl) (omega arith);
      perfect = interval-found 1 0 1 (in_range_lem 1 0 1 refl) (omega arith);
      widest = interval-found 1000000 0 1 (in_range_lem 1000000 0 1 refl) (omega arith);
      squared = interval-found 667 666 1000 (in_range_lem 667 666 1000 refl) (omega arith);
      equal = interval-none 5 5 1 (in_range_lem 5 5 1 refl) (omega arith);
      narrower = interval-none 4 5 1 (in_range_lem 4 5 1 refl) (omega arith);
      three = interval-found 1000000 999000 999 (in_range_lem 1000000 999000 999 refl) (omega arith);
      ends = interval-none 1000000 1000000 1000 (in_range_lem 1000000 1000000 1000 refl) (omega arith);
      wide = interval-outside 1000001 0 1 refl;
      imprecise = interval-outside 5 1000001 1 refl;
      driftless = interval-outside 4 5 0 refl;
      fast = interval-outside 5 5 1001 refl;
    }
