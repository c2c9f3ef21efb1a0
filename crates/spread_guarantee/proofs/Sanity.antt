-- The theorem is not empty: `spread-guarantee` applies to the sheets of specs/Witnesses.antt, of which all that it asks
-- holds.
-- Assumes nothing.
use mathlib.Core.Path.{refl}
use Prim.Native.Nat.{ℕ, ◌≤◌}
use lib.Dec.{lit≤}
use lib.IntN.{pos}
use Rattle.run.specs.Rounds.{below}
use Rattle.demand_3.specs.Guarantee.{apart}
use Rattle.spread_guarantee.specs.Guarantee.{new_value, spread_gap, odd_spread_gap, spread_error, SpreadLimits}
use Rattle.spread_guarantee.specs.Witnesses.{wired, low, high, Met, fifth, five_low, five_high}
use Rattle.spread_guarantee.proofs.Computed.{spread-reached, odd-spread-reached}
use Rattle.spread_guarantee.proofs.Guarantee.{spread-guarantee}

module _ (δ D : ℕ) (met : Met δ D) where
  limits : SpreadLimits (wired δ) D D (pos 0) (below 3)
  limits = spread-guarantee (wired δ) D D (pos 0) (below 3) (lit≤ tt) (rw met.counts (lit≤ tt))

  pub gap-promised : apart (new_value D (low δ D)) (new_value D (high δ D)) ≤ spread_gap (wired δ) D 1
  gap-promised =
      rw met.counts at
      (limits.precise (low δ D) (high δ D) met.reads_low met.reads_high met.alike)

  pub error-promised : apart (new_value D (high δ D)) (pos 0) ≤ spread_error (wired δ) D D 1
  error-promised = rw met.counts at (limits.accurate (high δ D) met.reads_high)

pub reached-promised : apart (new_value 2 (low 1 2)) (new_value 2 (high 1 2)) ≤ spread_gap (wired 1) 2 1
reached-promised = gap-promised 1 2 spread-reached.met

pub odd-promised : apart (new_value 1 five_low) (new_value 1 five_high) ≤ odd_spread_gap fifth 1 1
odd-promised =
    rw odd-spread-reached.counts at
    ((spread-guarantee fifth 1 1 (pos 0) (below 4) (lit≤ tt) (rw odd-spread-reached.counts (lit≤ tt))).odd refl
    five_low five_high odd-spread-reached.reads_low odd-spread-reached.reads_high odd-spread-reached.alike)
