-- The theorem is not empty: `trim_guarantee` applies to the sheets of specs/Witnesses.antt, of which all that it asks holds.
-- Assumes nothing.
use mathlib.Core.Path.{◌≡◌, refl}
use Prim.Native.Nat.{ℕ, ◌≤◌}
use lib.Dec.{lit≤}
use Rattle.model.specs.RoundSheet.{trimmed_midpoint, trimmed_mean}
use Rattle.model.specs.AnswerSheet.{answer_length}
use Rattle.model.specs.Calls.{granted}
use Rattle.run.specs.Rounds.{below}
use Rattle.demand_3.specs.Guarantee.{apart}
use Rattle.spread_guarantee.specs.Guarantee.{settled, new_value}
use Rattle.trim_guarantee.specs.Guarantee.{InRange, midpoint_gap, mean_gap, odd_mean_gap, TrimLimits}
use Rattle.trim_guarantee.specs.Witnesses.{trimmed, five, seven, low, high, seven_low, seven_high, bottom, top}
use Rattle.trim_guarantee.proofs.Computed.{midpoint-reached, two-faulty-reached, range-reached}
use Rattle.trim_guarantee.proofs.Guarantee.{trim_guarantee}

midpoints : TrimLimits (trimmed trimmed_midpoint 2) 2 (below 3)
midpoints =
    trim_guarantee (trimmed trimmed_midpoint 2) 2 (below 3) refl (rw midpoint-reached.met.counts (lit≤ tt))

pub midpoint-promised : apart (new_value 0 (low trimmed_midpoint)) (new_value 0 (high trimmed_midpoint)) ≤ midpoint_gap 2
midpoint-promised =
    let m = midpoint-reached.met in
    midpoints.midpoints refl (low trimmed_midpoint) (high trimmed_midpoint) m.reads_low m.reads_high m.alike

pub grant_promised : (settled 0 (low trimmed_midpoint)).verdict ≡ granted (answer_length 4)
grant_promised = midpoints.unrefused (low trimmed_midpoint) midpoint-reached.met.reads_low

-- two faulty, by rule 3
means : TrimLimits (seven trimmed_mean 5) 5 (below 5)
means = trim_guarantee (seven trimmed_mean 5) 5 (below 5) refl (rw two-faulty-reached.met.counts (lit≤ tt))

pub mean-promised : apart (new_value 0 seven_low) (new_value 0 seven_high) ≤ mean_gap (seven trimmed_mean 5) 5 2
mean-promised =
    let m = two-faulty-reached.met in
    rw m.counts at (means.means refl seven_low seven_high m.reads_low m.reads_high m.alike)

pub odd-promised : apart (new_value 0 seven_low) (new_value 0 seven_high) ≤ odd_mean_gap (seven trimmed_mean 5) 5 2
odd-promised =
    let m = two-faulty-reached.met in
    rw m.counts at (means.odd_means refl refl seven_low seven_high m.reads_low m.reads_high m.alike)

-- the range, by either rule
pub range-promised : InRange (trimmed trimmed_midpoint 7) (below 3) (bottom trimmed_midpoint) (new_value 0 (bottom trimmed_midpoint))
range-promised =
    let e = range-reached.by_midpoint in
    (trim_guarantee (trimmed trimmed_midpoint 7) 7 (below 3) refl (rw e.counts (lit≤ tt))).range
    (bottom trimmed_midpoint) e.reads_bottom

pub top-promised : InRange (trimmed trimmed_mean 7) (below 3) (top trimmed_mean) (new_value 0 (top trimmed_mean))
top-promised =
    let e = range-reached.by_mean in
    (trim_guarantee (trimmed trimmed_mean 7) 7 (below 3) refl (rw e.counts (lit≤ tt))).range (top trimmed_mean) e.reads_top
