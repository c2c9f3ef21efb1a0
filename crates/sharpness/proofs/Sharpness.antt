-- The exact limits are reached: `always_reached` is the theorem that specs/Sharpness.antt states. Cabinet 0 is swayed
-- down, to the mean of (m+t)δ below the lowest good reading, and cabinet 1 up, to that of (m+t)δ above the highest.
-- Assumes nothing.
use mathlib.Core.Logic.{⊎_elim}
use mathlib.Core.Path.{◌≡◌, refl, sym, ap, ◌∙◌, subst⁻¹}
use Prim.Native.Nat.{ℕ, ◌+◌, ◌*◌, ◌-◌, ◌%◌, ◌≤◌, ◌<◌}
use native.Mathlib.Nat.{le_refl, add-zero}
use native.Mathlib.Omega.{arith}
use borrow.Author.Tests.{lt-ltb, eqb-true, eq-eqb}
use lib.Dec.{eqb}
use lib.IntN.{pos, ◌-ℤ◌}
use Rattle.arithmetic.specs.Counting.{count}
use Rattle.arithmetic.specs.Naturals.{down, total}
use Rattle.arithmetic.proofs.Bools.{both_ways, clash}
use Rattle.arithmetic.proofs.Shift.{down_cong, dist_down}
use Rattle.arithmetic.specs.Words.{two_to31}
use Rattle.model.specs.Ensemble.{present, is_present}
use Rattle.model.specs.RoundSheet.{fca, median}
use Rattle.model.specs.Cases.{settings}
use Rattle.round_laws.specs.Naturals.{Even, half_up_nat, mean_nat}
use Rattle.round_laws.proofs.Shifted.{even_31}
use Rattle.limit_laws.proofs.Means.{fall}
use Rattle.limit_laws.proofs.Settled.{Receiver, accepts, used_by, value_by}
use Rattle.run.specs.Run.{Station, State, Sends, start, next}
use Rattle.demand_3.specs.Guarantee.{new_value, apart}
use Rattle.run.specs.Rounds.{below}
use Rattle.demand_3.proofs.Orderly as orderly
use Rattle.run.proofs.Ready.{ready_start}
use Rattle.demand_3.proofs.Received.{received-count}
use Rattle.sharpness.specs.Sharpness.{Covered, AlwaysReached}
use Rattle.sharpness.proofs.Worst.{needed, spread, base, worst_station, worst_sends, true_value}
use Rattle.demand_3.proofs.Distances.{difference_down}
use Rattle.demand_3.proofs.Exact.{up_is, error_is, gap_is}
use Rattle.sharpness.proofs.Gains.{low_sum, low-mean, high-mean, high-mean-one}
use Rattle.sharpness.proofs.Run.{spread-whole, spread-one, sees, may-start, planned, some-n, parts, joins}
use Rattle.sharpness.proofs.Run.{starts, allowed, meets, t-bad}
use Rattle.sharpness.proofs.Swayed.{Swayed, swayed_some, swayed_total}
use Rattle.sharpness.proofs.Told.{fits, has, low_swayed, high_swayed, high_swayed_one}

module _ (n m t δ κ : ℕ) (h : Covered n m t δ κ) where
  abbrev st : Station
  st = worst_station n m t δ κ

  abbrev now : State
  now = start (worst_station n m t δ κ)

  abbrev x : Sends
  x = worst_sends n m t δ κ

  -- readings moved up by an even K
  module _ (K : ℕ) (far : two_to31 ≤ K) (even : Even K) where
    abbrev reader : ℕ → Receiver
    reader = has n m t δ κ h K

    -- the lowest good reading and the highest, and what the mean makes of the excess
    abbrev bottom : ℕ
    bottom = base n m t δ κ + K

    abbrev top : ℕ
    top = base n m t δ κ + K + spread δ κ

    abbrev up : ℕ
    up = half_up_nat n ((m + t) * δ)

    -- the base is chosen so
    top-even : (top + up) % 2 ≡ 0
    unfolding base
    top-even =
        let e = even.twice in
        omega (arith, up_is n ((m + t) * δ))

    holds :
        (p : ℕ) → 0 < count (accepts n m δ (reader p)) n
        → (next st now x).held p ≡ present (down K (value_by n m δ (reader p)))
    unfolding worst_station has
    holds p some-acc =
        orderly.new-value st (starts n m t δ κ h) 0 now (ready_start st (starts n m t δ κ h)) x (allowed n m t δ κ h) p
        (subst⁻¹ (λ (a : ℕ). 0 < a)
        (received-count (settings n m fca median δ) 0 δ (add-zero δ) (sees n m t δ κ p) (fits n m t δ κ h p) K far)
        some-acc)
        K
        far
        even

    -- ---- cabinet 0

    low : ℕ
    low = total (used_by n m δ (reader 0)) n

    low-total : low + (m + t) * δ ≡ n * bottom
    unfolding low
    low-total =
        low_sum n (needed n m t) m t δ bottom (parts n m t δ κ h) low (bottom - δ)
        (omega (arith, (may-start n m t δ κ h).passes.window))
        (rw from_zero at
        (swayed_total n m δ (reader 0) 0 (needed n m t) (n - t) bottom (bottom - δ) (low_swayed n m t δ κ h K far)))
      where
        from_zero : n - m - t - 0 ≡ n - m - t
        from_zero = omega arith

    low_value : (next st now x).held 0 ≡ present (down K (mean_nat n low))
    unfolding low
    low_value =
        holds 0
        (swayed_some n m δ (reader 0) 0 (needed n m t) (n - t) bottom (bottom - δ) (low_swayed n m t δ κ h K far))

    -- ---- cabinet 1

    module _ (e c : ℕ) (s : Swayed n m δ (reader 1) (needed n m t) e (n - t) top (top + δ))
        (size : e - needed n m t ≡ c) where
      high-total : total (used_by n m δ (reader 1)) n + c * (top + δ) ≡ n * (top + δ) + c * top
      high-total = rw size at (swayed_total n m δ (reader 1) (needed n m t) e (n - t) top (top + δ) s)

      high-by :
          value_by n m δ (reader 1) ≡ top + up → (next st now x).held 1 ≡ present (down K (top + up))
      high-by v =
          holds 1 (swayed_some n m δ (reader 1) (needed n m t) e (n - t) top (top + δ) s)
          ∙ ap (λ (y : ℕ). present (down K y)) v

    high_value : (next st now x).held 1 ≡ present (down K (top + up))
    high_value =
        ⊎_elim
        (λ e. at_one (eqb-true (spread δ κ) 1 e))
        (λ f. at_other (λ e. clash (eq-eqb (spread δ κ) 1 e) f))
        (both_ways (eqb (spread δ κ) 1))
      where
        at_other : (spread δ κ ≡ 1 → ⊥) → (next st now x).held 1 ≡ present (down K (top + up))
        at_other other =
            high-by (2 * needed n m t) (needed n m t) (high_swayed n m t δ κ h K other) (omega arith)
            (high-mean n (needed n m t) m t δ top (parts n m t δ κ h) (some-n n m t δ κ h)
            (total (used_by n m δ (reader 1)) n) (top + δ) refl top-even
            (high-total (2 * needed n m t) (needed n m t) (high_swayed n m t δ κ h K other) (omega arith)))

        at_one : spread δ κ ≡ 1 → (next st now x).held 1 ≡ present (down K (top + up))
        at_one one =
            high-by (n - t) m (high_swayed_one n m t δ κ h K one) (omega (arith, h.fewer))
            (high-mean-one n (needed n m t) m t δ top (parts n m t δ κ h) (some-n n m t δ κ h)
            (total (used_by n m δ (reader 1)) n) (top + δ) refl
            (spread-one δ κ (omega (arith, h.inexact)) one) (planned n m t δ κ h) (joins n m t δ κ h)
            h.more (omega (arith, h.fewer))
            (high-total (n - t) m (high_swayed_one n m t δ κ h K one) (omega (arith, h.fewer))))

    -- ---- the limits

    widest : δ ≤ 2 * κ → apart (new_value st now x 0) (new_value st now x 1) ≡ δ + (up + fall n δ ((m + t) * δ))
    widest l =
        let w = spread-whole δ κ l in
        rw (low_value, high_value)
        (omega (
          arith,
          dist_down K (mean_nat n low) (top + up),
          w,
          low-mean n low bottom ((m + t) * δ) δ (some-n n m t δ κ h) low-total (omega (arith, top-even, w)),
        ))

    farthest : apart (new_value st now x 1) (pos (base n m t δ κ + spread δ κ) -ℤ pos κ) ≡ κ + up
    farthest =
        rw high_value
        (ap (apart (down K (top + up))) truth
        ∙ omega (arith, dist_down K (top + up) (top - κ), (may-start n m t δ κ h).accurate))
      where
        truth : pos (base n m t δ κ + spread δ κ) -ℤ pos κ ≡ down K (top - κ)
        truth =
            difference_down (base n m t δ κ + spread δ κ) κ
            ∙ down_cong κ (base n m t δ κ + spread δ κ) K (top - κ) (omega (arith, (may-start n m t δ κ h).accurate))

pub always_reached : AlwaysReached
unfolding worst_station
always_reached n m t δ κ h =
    record {
      station = worst_station n m t δ κ;
      round = worst_sends n m t δ κ;
      good = below (n - t);
      true-value = true_value n m t δ κ;
      p = 0;
      q = 1;
      chosen = refl;
      accuracy = refl;
      meets = meets n m t δ κ h;
      counts = t-bad n m t δ κ h;
      sound = (
        (some-n n m t δ κ h, lt-ltb 0 (n - t) (omega (arith, h.fewer))),
        (omega (arith, h.more, h.fewer), lt-ltb 1 (n - t) (omega (arith, h.fewer, h.crowded))),
      );
      unrefused = (
        ap is_present (low_value n m t δ κ h two_to31 (le_refl two_to31) even_31),
        ap is_present (high_value n m t δ κ h two_to31 (le_refl two_to31) even_31),
      );
      farthest =
          farthest n m t δ κ h two_to31 (le_refl two_to31) even_31 ∙ sym (error_is (worst_station n m t δ κ) t);
      widest = λ l.
          widest n m t δ κ h two_to31 (le_refl two_to31) even_31 l ∙ sym (gap_is (worst_station n m t δ κ) t);
    }
