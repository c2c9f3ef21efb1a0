-- The limits are reached: the claims of specs/Witnesses.antt. What cabinets hold was computed through every byte
-- (`rounds-computed` of crate run); here it is laid beside the limits.
-- Assumes nothing.
use mathlib.Core.List.{List, [], ◌∷◌}
use mathlib.Core.Path.{◌≡◌, refl, sym, ap, ap₂, ◌∙◌}
use Prim.Native.Nat.{ℕ, ◌<◌}
use lib.Dec.{lit<}
use lib.IntN.{ℤ, pos}
use lib.ListN.{get_or}
use Rattle.arithmetic.proofs.Writing.{get_d_table}
use Rattle.model.specs.Ensemble.{Reading, missing, ticks}
use Rattle.run.specs.Run.{Station, State, Sends, start, next}
use Rattle.run.specs.Rounds.{below, held_after, wide_station, wide_sends, exact_station, exact_sends, half_station, half_sends}
use Rattle.run.specs.Rounds.{close_station, close_sends, one_more_station, one_more_sends, median_station, median_sends}
use Rattle.run.specs.Rounds.{average_station, average_sends}
use Rattle.run.specs.Rounds.{odd_rows_station, odd_rows_sends, still_station, still_sends}
use Rattle.run.specs.Rounds.{odd_wide_station, odd_wide_sends, odd_close_station, odd_close_sends, pair_station, pair_sends}
use Rattle.run.specs.Rounds.{both_station, both_sends, mixed_station, mixed_sends}
use Rattle.run.specs.Rounds.{direct_station, direct_first, direct_second, direct_next}
use Rattle.run.specs.Rounds.{crusaders_station, crusaders_first, crusaders_second, crusaders_next}
use Rattle.run.proofs.Computed.{computed, rounds-computed}
use Rattle.demand_3.specs.Guarantee.{apart}
use Rattle.demand_3.specs.Witnesses.{gap, error, Meets, WideReached, ExactReached, HalfReached, CloseReached}
use Rattle.demand_3.specs.Exact.{half_up, half_down}
use Rattle.demand_3.specs.Witnesses.{OneMoreNeeded, OddReached, PairAlike, StillAlike, MedianReached, AverageReached, BothKindsCounted, MixedRefused}
use Rattle.demand_3.specs.Witnesses.{DirectRounds, CrusadersRounds}
use Rattle.demand_3.proofs.Computed.Tested.{sends-tested, meets-tested}

-- from what the first k cabinets hold
module _ (st : Station) (now : State) (x : Sends) (k : ℕ) {held : List Reading} (h : held_after st now x k ≡ held) where
  value_of : (p : ℕ) → p < k → ticks ((next st now x).held p) ≡ ticks (get_or held p missing)
  value_of p l =
      ap ticks
      (sym (get_d_table (next st now x).held k p missing l) ∙ ap (λ (rs : List Reading). get_or rs p missing) h)

  gap_of :
      (p q : ℕ) → p < k → q < k
      → gap st now x p q ≡ apart (ticks (get_or held p missing)) (ticks (get_or held q missing))
  gap_of p q lp lq = ap₂ apart (value_of p lp) (value_of q lq)

  error-of : (p : ℕ) (truth : ℤ) → p < k → error st now x p truth ≡ apart (ticks (get_or held p missing)) truth
  error-of p truth l = ap (λ (z : ℤ). apart z truth) (value_of p l)

-- ---- m < t < N-m

wide-meets : Meets wide_station (wide_sends ∷ []) (below 4) (pos 0)
unfolding wide_station wide_sends
wide-meets =
    meets-tested _ _ _ _ _ _ _ (unfold computed in (refl, refl, refl, refl))
    (sends-tested wide_station _ _ refl, tt)

pub wide-reached : WideReached
unfolding computed wide_station wide_sends half_up half_down
wide-reached =
    record {
      meets = wide-meets;
      counts = refl;
      widest = gap_of wide_station (start wide_station) wide_sends 4 rounds-computed.wide 0 1 (lit< tt) (lit< tt);
      farthest = error-of wide_station (start wide_station) wide_sends 4 rounds-computed.wide 1 (pos 0) (lit< tt);
      same_gap = refl;
      same-error = refl;
    }

exact-meets : Meets exact_station (exact_sends ∷ []) (below 4) (pos 0)
unfolding exact_station exact_sends
exact-meets =
    meets-tested _ _ _ _ _ _ _ (unfold computed in (refl, refl, refl, refl))
    (sends-tested exact_station _ _ refl, tt)

pub exact-reached : ExactReached
unfolding computed exact_station exact_sends half_up half_down
exact-reached =
    record {
      meets = exact-meets;
      counts = refl;
      widest = gap_of exact_station (start exact_station) exact_sends 4 rounds-computed.exact 0 1 (lit< tt) (lit< tt);
      document_gap = refl;
      farthest = error-of exact_station (start exact_station) exact_sends 4 rounds-computed.exact 1 (pos 0) (lit< tt);
      document_error = refl;
    }

half_meets : Meets half_station (half_sends ∷ []) (below 2) (pos 1)
unfolding half_station half_sends
half_meets =
    meets-tested _ _ _ _ _ _ _ (unfold computed in (refl, refl, refl, refl))
    (sends-tested half_station _ _ refl, tt)

pub half-reached : HalfReached
unfolding computed half_station half_sends half_up half_down
half-reached =
    record {
      meets = half_meets;
      counts = refl;
      widest = gap_of half_station (start half_station) half_sends 2 rounds-computed.half 0 1 (lit< tt) (lit< tt);
      same_gap = refl;
      farthest = error-of half_station (start half_station) half_sends 2 rounds-computed.half 1 (pos 1) (lit< tt);
    }

-- ---- t ≤ m

close-meets : Meets close_station (close_sends ∷ []) (below 3) (pos 1)
unfolding close_station close_sends
close-meets =
    meets-tested _ _ _ _ _ _ _ (unfold computed in (refl, refl, refl, refl))
    (sends-tested close_station _ _ refl, tt)

pub close-reached : CloseReached
unfolding computed close_station close_sends
close-reached =
    record {
      meets = close-meets;
      counts = refl;
      widest = gap_of close_station (start close_station) close_sends 3 rounds-computed.close 0 1 (lit< tt) (lit< tt);
      farthest = error-of close_station (start close_station) close_sends 3 rounds-computed.close 1 (pos 1) (lit< tt);
    }

even-meets : Meets one_more_station (one_more_sends ∷ []) (below 3) (pos 1)
unfolding one_more_station one_more_sends
even-meets =
    meets-tested _ _ _ _ _ _ _ (unfold computed in (refl, refl, refl, refl))
    (sends-tested one_more_station _ _ refl, tt)

pub one-more-needed : OneMoreNeeded
unfolding computed one_more_station one_more_sends
one-more-needed =
    record {
      meets = even-meets;
      counts = refl;
      widest = gap_of one_more_station (start one_more_station) one_more_sends 3 rounds-computed.one_more 0 1 (lit< tt) (lit< tt);
      above = rw (gap_of one_more_station (start one_more_station) one_more_sends 3 rounds-computed.one_more 0 1 (lit< tt) (lit< tt)) (lit< tt);
    }

seven_meets : Meets odd_close_station (odd_close_sends ∷ []) (below 5) (pos 0)
unfolding odd_close_station odd_close_sends
seven_meets =
    meets-tested _ _ _ _ _ _ _ (unfold computed in (refl, refl, refl, refl))
    (sends-tested odd_close_station _ _ refl, tt)

odd-meets : Meets odd_wide_station (odd_wide_sends ∷ []) (below 4) (pos 0)
unfolding odd_wide_station odd_wide_sends
odd-meets =
    meets-tested _ _ _ _ _ _ _ (unfold computed in (refl, refl, refl, refl))
    (sends-tested odd_wide_station _ _ refl, tt)

rows-meets : Meets odd_rows_station (odd_rows_sends ∷ []) (below 5) (pos 0)
unfolding odd_rows_station odd_rows_sends
rows-meets =
    meets-tested _ _ _ _ _ _ _ (unfold computed in (refl, refl, refl, refl))
    (sends-tested odd_rows_station _ _ refl, tt)

pub odd-reached : OddReached
unfolding computed odd_close_station odd_close_sends odd_rows_station odd_rows_sends odd_wide_station odd_wide_sends
odd-reached =
    record {
      meets = seven_meets;
      counts = refl;
      widest = gap_of odd_close_station (start odd_close_station) odd_close_sends 5 rounds-computed.odd_close 0 1 (lit< tt) (lit< tt);
      next-window = refl;
      rows-meets = rows-meets;
      rows-counts = refl;
      rows-widest = gap_of odd_rows_station (start odd_rows_station) odd_rows_sends 5 rounds-computed.odd_rows 0 1 (lit< tt) (lit< tt);
      rows-next-window = refl;
      more-meets = odd-meets;
      more-counts = refl;
      more-widest = gap_of odd_wide_station (start odd_wide_station) odd_wide_sends 4 rounds-computed.odd_wide 0 1 (lit< tt) (lit< tt);
      wider = refl;
      more-farthest = error-of odd_wide_station (start odd_wide_station) odd_wide_sends 4 rounds-computed.odd_wide 1 (pos 0) (lit< tt);
    }

pair-meets : Meets pair_station (pair_sends ∷ []) (below 2) (pos 0)
unfolding pair_station pair_sends
pair-meets =
    meets-tested _ _ _ _ _ _ _ (unfold computed in (refl, refl, refl, refl))
    (sends-tested pair_station _ _ refl, tt)

pub pair-alike : PairAlike
unfolding computed pair_station pair_sends
pair-alike =
    record {
      meets = pair-meets;
      counts = refl;
      no_window = refl;
      none_apart = gap_of pair_station (start pair_station) pair_sends 2 rounds-computed.pair 0 1 (lit< tt) (lit< tt);
    }

still-meets : Meets still_station (still_sends ∷ []) (below 3) (pos 5)
unfolding still_station still_sends
still-meets =
    meets-tested _ _ _ _ _ _ _ (unfold computed in (refl, refl, refl, refl))
    (sends-tested still_station _ _ refl, tt)

pub still_alike : StillAlike
unfolding computed still_station still_sends
still_alike =
    record {
      meets = still-meets;
      counts = refl;
      no_window = refl;
      none_apart = gap_of still_station (start still_station) still_sends 3 rounds-computed.still 0 1 (lit< tt) (lit< tt);
    }

median-meets : Meets median_station (median_sends ∷ []) (below 3) (pos 0)
unfolding median_station median_sends
median-meets =
    meets-tested _ _ _ _ _ _ _ (unfold computed in (refl, refl, refl, refl))
    (sends-tested median_station _ _ refl, tt)

pub median-reached : MedianReached
unfolding computed median_station median_sends
median-reached =
    record {
      meets = median-meets;
      counts = refl;
      widest = gap_of median_station (start median_station) median_sends 3 rounds-computed.median 0 1 (lit< tt) (lit< tt);
    }

average-meets : Meets average_station (average_sends ∷ []) (below 3) (pos 1)
unfolding average_station average_sends
average-meets =
    meets-tested _ _ _ _ _ _ _ (unfold computed in (refl, refl, refl, refl))
    (sends-tested average_station _ _ refl, tt)

pub average-reached : AverageReached
unfolding computed average_station average_sends
average-reached =
    record {
      meets = average-meets;
      counts = refl;
      widest = gap_of average_station (start average_station) average_sends 3 rounds-computed.average 0 1 (lit< tt) (lit< tt);
      above = rw (gap_of average_station (start average_station) average_sends 3 rounds-computed.average 0 1 (lit< tt) (lit< tt)) (lit< tt);
    }

-- ---- what t counts

both-meets : Meets both_station (both_sends ∷ []) (below 5) (pos 0)
unfolding both_station both_sends
both-meets =
    meets-tested _ _ _ _ _ _ _ (unfold computed in (refl, refl, refl, refl))
    (sends-tested both_station _ _ refl, tt)

pub both-kinds-counted : BothKindsCounted
unfolding computed both_station both_sends
both-kinds-counted =
    record {
      meets = both-meets;
      counts = refl;
      faulty = refl;
      widest = gap_of both_station (start both_station) both_sends 6 rounds-computed.both 0 1 (lit< tt) (lit< tt);
      above = rw (gap_of both_station (start both_station) both_sends 6 rounds-computed.both 0 1 (lit< tt) (lit< tt)) (lit< tt);
    }

mixed-meets : Meets mixed_station (mixed_sends ∷ []) (below 2) (pos 0)
unfolding mixed_station mixed_sends
mixed-meets =
    meets-tested _ _ _ _ _ _ _ (unfold computed in (refl, refl, refl, refl))
    (sends-tested mixed_station _ _ refl, tt)

pub mixed-refused : MixedRefused
unfolding computed mixed_station mixed_sends
mixed-refused =
    record {
      meets = mixed-meets;
      counts = refl;
      faulty = refl;
      refuses = rounds-computed.mixed;
    }

-- ---- two rounds

direct-meets : Meets direct_station (direct_first ∷ direct_second ∷ []) (below 3) (pos 0)
unfolding direct_station direct_first direct_second
direct-meets =
    meets-tested _ _ _ _ _ _ _ (unfold computed in (refl, refl, refl, refl))
    (sends-tested direct_station _ _ refl, (sends-tested direct_station _ _ refl, tt))

pub direct-rounds : DirectRounds
unfolding computed direct_station direct_first direct_second direct_next
direct-rounds =
    record {
      meets = direct-meets;
      counts = refl;
      widest = gap_of direct_station direct_next direct_second 3 rounds-computed.direct-second 0 1 (lit< tt) (lit< tt);
    }

crusaders-meets : Meets crusaders_station (crusaders_first ∷ crusaders_second ∷ []) (below 3) (pos 0)
unfolding crusaders_station crusaders_first crusaders_second
crusaders-meets =
    meets-tested _ _ _ _ _ _ _ (unfold computed in (refl, refl, refl, refl))
    (sends-tested crusaders_station _ _ refl, (sends-tested crusaders_station _ _ refl, tt))

pub crusaders-rounds : CrusadersRounds
unfolding computed crusaders_station crusaders_first crusaders_second crusaders_next
crusaders-rounds =
    record {
      meets = crusaders-meets;
      counts = refl;
      widest = gap_of crusaders_station (start crusaders_station) crusaders_first 3 rounds-computed.crusaders-first 0 1 (lit< tt) (lit< tt);
      farthest = error-of crusaders_station (start crusaders_station) crusaders_first 3 rounds-computed.crusaders-first 0 (pos 0) (lit< tt);
      limit = refl;
    }
