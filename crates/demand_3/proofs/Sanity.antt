-- The theorems are not empty: `guarantee`, `exact-limits`, `odd-limits`, `one_value` and `regulators_case` apply to runs of specs/Witnesses.antt,
-- of which all their hypotheses hold.
-- Assumes nothing.
use mathlib.Core.Bool.{Bool, false}
use mathlib.Core.List.{List, [], ◌∷◌}
use mathlib.Core.Path.{refl}
use mathlib.Core.Logic.{inl, inr}
use Prim.Native.Nat.{ℕ, ◌≤◌, zero-le}
use lib.Dec.{lit<, lit≤}
use lib.IntN.{ℤ, pos}
use lib.ListN.{length}
use Rattle.arithmetic.proofs.Bools.{clash}
use Rattle.model.specs.Planner.{max_rounds}
use Rattle.run.specs.Run.{Station, Start, Sends, Allowed, start}
use Rattle.demand_3.specs.Guarantee.{Each, Good}
use Rattle.demand_3.specs.Guarantee.{Every, First, Orderly, Close, Wide, Guarantee}
use Rattle.demand_3.specs.OneValue.{AllEqual}
use Rattle.demand_3.specs.Odd.{OddGuarantee}
use Rattle.demand_3.specs.Exact.{ExactFirst}
use Rattle.demand_3.specs.Regulator.{SevenPlannedForTwo, ThreeBad}
use Rattle.run.specs.Rounds.{below, wide_station, wide_sends, exact_station, exact_sends}
use Rattle.demand_3.specs.Witnesses.{Meets}
use Rattle.run.specs.Rounds.{direct_station, direct_first, direct_second, odd_close_station, odd_close_sends, pair_station, pair_sends}
use Rattle.run.specs.Rounds.{still_station, still_sends}
use Rattle.run.specs.Rounds.{crusaders_station, crusaders_first, crusaders_second}
use Rattle.demand_3.proofs.Exact.{exact-limits}
use Rattle.demand_3.proofs.Guarantee.{guarantee}
use Rattle.demand_3.proofs.Odd.{odd-limits}
use Rattle.demand_3.proofs.OneValue.{one_value}
use Rattle.demand_3.proofs.Regulator.{regulators_case}
use Rattle.demand_3.proofs.Computed.Witnesses.{wide-reached, exact-reached, odd-reached, pair-alike, still_alike, direct-rounds}
use Rattle.demand_3.proofs.Computed.Witnesses.{crusaders-rounds}

promised :
    (st : Station) (rounds : List Sends) (good : ℕ → Bool) (truth : ℤ)
    → Meets st rounds good truth → Guarantee st rounds good truth
promised st rounds good truth m = guarantee st m.starts rounds m.most m.allowed good truth m.goodness

-- what holds whatever t is needs no good cabinet: the empty set is a good one
pub every-run-orderly :
    (st : Station) → Start st → (rounds : List Sends) → length rounds ≤ max_rounds → Each (Allowed st) rounds
    → Every st (Orderly st) (start st) rounds
every-run-orderly st begins rounds most each =
    (guarantee st begins rounds most each (λ p. false) (pos 0) none-good).every-round
  where
    none-good : Good st (λ p. false) (pos 0)
    none-good =
        record {
          sound = λ p l e. clash e refl;
          present = λ p l e. clash e refl;
          accurate = λ p l e. clash e refl;
          precise = λ p q lp lq ep eq. clash ep refl;
        }

-- two rounds, at most m bad
pub direct-promised :
    Every direct_station (Close direct_station (pos 0)) (start direct_station) (direct_first ∷ direct_second ∷ [])
direct-promised =
    (promised direct_station (direct_first ∷ direct_second ∷ []) (below 3) (pos 0) direct-rounds.meets).few
    (rw direct-rounds.counts (unfold direct_station in lit≤ tt))

pub crusaders-promised :
    Every
    crusaders_station
    (Close crusaders_station (pos 0))
    (start crusaders_station)
    (crusaders_first ∷ crusaders_second ∷ [])
crusaders-promised =
    (promised crusaders_station (crusaders_first ∷ crusaders_second ∷ []) (below 3) (pos 0) crusaders-rounds.meets).few
    (rw crusaders-rounds.counts (unfold crusaders_station in lit≤ tt))

-- three of seven bad
pub wide-promised : First (Wide wide_station 3 (pos 0)) (start wide_station) (wide_sends ∷ [])
wide-promised =
    rw wide-reached.counts at
    ((promised wide_station (wide_sends ∷ []) (below 4) (pos 0) wide-reached.meets).many
    (rw wide-reached.counts (unfold wide_station in lit< tt))
    (rw wide-reached.counts (unfold wide_station in lit< tt)))

pub exact-promised : ExactFirst exact_station (exact_sends ∷ []) 3 (pos 0)
exact-promised =
    let m : Meets exact_station (exact_sends ∷ []) (below 4) (pos 0) = exact-reached.meets in
    rw exact-reached.counts at
    (exact-limits
    exact_station m.starts (exact_sends ∷ []) m.most m.allowed (below 4) (pos 0) m.goodness
    (rw exact-reached.counts (unfold exact_station in lit< tt))
    (rw exact-reached.counts (unfold exact_station in lit< tt)))

pub wide-answered : First (ThreeBad wide_station (pos 0)) (start wide_station) (wide_sends ∷ [])
wide-answered =
    let m : Meets wide_station (wide_sends ∷ []) (below 4) (pos 0) = wide-reached.meets in
    let seven : SevenPlannedForTwo wide_station = unfold wide_station in record { seven = refl; two = refl } in
    (regulators_case
    wide_station seven m.starts (wide_sends ∷ []) m.most m.allowed (below 4) (pos 0) m.goodness
    ).three wide-reached.counts

-- an odd number of cabinets; and m 0, and a window of 0
pub seven-promised : OddGuarantee odd_close_station (odd_close_sends ∷ []) (below 5)
seven-promised =
    let m : Meets odd_close_station (odd_close_sends ∷ []) (below 5) (pos 0) = odd-reached.meets in
    odd-limits
    odd_close_station (unfold odd_close_station in refl) m.starts (odd_close_sends ∷ []) m.most m.allowed (below 5) (pos 0)
    m.goodness

pub pair-promised : Every pair_station (AllEqual pair_station) (start pair_station) (pair_sends ∷ [])
pair-promised =
    let m : Meets pair_station (pair_sends ∷ []) (below 2) (pos 0) = pair-alike.meets in
    one_value
    pair_station m.starts (pair_sends ∷ []) m.most m.allowed (below 2) (pos 0) m.goodness
    (rw pair-alike.counts zero-le)
    (inl (unfold pair_station in refl))

pub still-promised : Every still_station (AllEqual still_station) (start still_station) (still_sends ∷ [])
still-promised =
    let m : Meets still_station (still_sends ∷ []) (below 3) (pos 5) = still_alike.meets in
    one_value
    still_station m.starts (still_sends ∷ []) m.most m.allowed (below 3) (pos 5) m.goodness
    (rw still_alike.counts (unfold still_station in lit≤ tt))
    (inr (unfold still_station in refl))
