-- The theorems are not empty: `fallback_stations` applies to the rounds of specs/Witnesses.antt, of which all that it
-- asks holds, and gives of their two cabinets the limits that they reach.
-- Assumes nothing.
use mathlib.Core.Logic.{inl, inr}
use mathlib.Core.Path.{◌≡◌, refl}
use Prim.Native.Nat.{ℕ, ◌-◌, ◌%◌, ◌≤◌, ◌<◌}
use lib.Dec.{lit<, lit≤}
use lib.IntN.{ℤ, pos, negsuc}
use Rattle.model.specs.RoundSheet.{cca, median}
use Rattle.run.specs.Run.{Station, N, m, Sends, Sound}
use Rattle.run.specs.Rounds.{below}
use Rattle.demand_3.specs.Guarantee.{apart, bad, wide_gap, wide_error}
use Rattle.demand_3.specs.Odd.{odd_wide_gap}
use Rattle.fallback_guarantee.specs.Stations.{Unrefused, FallbackStation}
use Rattle.fallback_guarantee.specs.Witnesses.{Mixed, mixed_station, mixed_sends, odd_mixed_station, odd_mixed_sends}
use Rattle.fallback_guarantee.proofs.Computed.{mixed-reached, odd-mixed-reached}
use Rattle.fallback_guarantee.proofs.Stations.{fallback_stations}

module _ (st : Station) (x : Sends) (goods : ℕ) (truth low high : ℤ) (h : Mixed st x goods truth low high)
    (by_rows : st.settings.rule ≡ cca) (first : Sound st 0) (second : Sound st 1) (t : ℕ)
    (counts : bad st (below goods) ≡ t) (many : t < N st - m st) where
  promised : FallbackStation st (λ p. median) x (below goods) truth
  promised =
      fallback_stations st h.starts by_rows (λ p. median) (λ p. lit≤ tt) x h.allowed (below goods) truth
      h.goodness

  -- cabinet 0 by its crusaders sheet, cabinet 1 by its direct one
  by-crusaders : Unrefused st (λ p. median) x 0
  by-crusaders = record { sound = first; settled = inl h.low_settles }

  by-direct : Unrefused st (λ p. median) x 1
  by-direct = record { sound = second; settled = inr h.high_falls }

  fewer : bad st (below goods) < N st - m st
  fewer = rw counts many

  pub gap-promised : apart low high ≤ wide_gap st t
  gap-promised = rw (counts, h.low_value, h.high_value) at (promised.precise fewer 0 1 by-crusaders by-direct)

  pub error-promised : apart high truth ≤ wide_error st t
  error-promised = rw (counts, h.high_value) at (promised.accurate fewer 1 by-direct)

  pub odd-promised : N st % 2 ≡ 1 → apart low high ≤ odd_wide_gap st t
  odd-promised odd = rw (counts, h.low_value, h.high_value) at (promised.odd odd fewer 0 1 by-crusaders by-direct)

pub mixed-promised : apart (negsuc 1) (pos 4) ≤ wide_gap mixed_station 2
unfolding mixed_station
mixed-promised =
    gap-promised mixed_station mixed_sends 2 (pos 1) (negsuc 1) (pos 4) mixed-reached.mixed refl (lit< tt, refl)
    (lit< tt, refl) 2 mixed-reached.counts (lit< tt)

pub odd-mixed-promised : apart (negsuc 4) (pos 12) ≤ odd_wide_gap odd_mixed_station 3
unfolding odd_mixed_station
odd-mixed-promised =
    odd-promised odd_mixed_station odd_mixed_sends 4 (pos 0) (negsuc 4) (pos 12) odd-mixed-reached.mixed refl
    (lit< tt, refl) (lit< tt, refl) 3 odd-mixed-reached.counts (lit< tt) refl

pub mixed-accurate : apart (pos 4) (pos 1) ≤ wide_error mixed_station 2
unfolding mixed_station
mixed-accurate =
    error-promised mixed_station mixed_sends 2 (pos 1) (negsuc 1) (pos 4) mixed-reached.mixed refl (lit< tt, refl)
    (lit< tt, refl) 2 mixed-reached.counts (lit< tt)
