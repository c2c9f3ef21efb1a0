-- The round of Worst.antt: demand 3's hypotheses hold of it, t are bad, and what its cabinets read of each
-- other.
-- Assumes nothing.
use mathlib.Core.Bool.{Bool, true, false, cond}
use mathlib.Core.List.{[], ◌∷◌}
use mathlib.Core.Logic.{⊎_elim}
use mathlib.Core.Path.{◌≡◌, refl, ◌∙◌, subst⁻¹}
use Prim.Native.Nat.{ℕ, zero, suc, ◌+◌, ◌*◌, ◌-◌, ◌/◌, ◌≤◌, ◌<◌}
use native.Mathlib.Nat.{le_refl, min-le_left, min-le_right, min-eq_left, min-eq_right}
use native.Mathlib.Omega.{arith}
use borrow.Author.Tests.{lt-ltb, le-ltb, leb-true, leb-false}
use lib.Dec.{ltb, leb}
use lib.IntN.{ℤ, pos, nat_abs, ◌-ℤ◌}
use lib.ListN.{length-replicate}
use lib.Signed.{mag}
use mir.Syntax.{w32}
use mir.Val.{SFits}
use Rattle.arithmetic.specs.Naturals.{down}
use Rattle.arithmetic.proofs.Bools.{both_ways}
use Rattle.arithmetic.proofs.Counting.{count-not}
use Rattle.arithmetic.proofs.Shift.{down-ind, down_cong, pos-down, dist_down}
use Rattle.model.specs.Ensemble.{Readings, present}
use Rattle.model.specs.RoundSheet.{fca, median}
use Rattle.model.specs.AnswerSheet.{answer_length}
use Rattle.model.specs.Planner.{ceil_div}
use Rattle.model.specs.Cases.{settings, at}
use Rattle.planner_laws.proofs.Checks.{MayStart, none-may-start}
use Rattle.run.specs.Run.{IsReading, Start, Allowed, start, heard}
use Rattle.demand_3.specs.Guarantee.{Good, bad}
use Rattle.run.specs.Rounds.{below, listed}
use Rattle.demand_3.specs.Witnesses.{Meets}
use Rattle.run.proofs.Entries.{heard-sound, seen, seen_direct}
use Rattle.sharpness.specs.Sharpness.{Covered}
use Rattle.sharpness.proofs.Worst.{needed, spread, base, first_reading, worst_station, worst_sends, true_value}
use Rattle.sharpness.proofs.Intervals.{count-below}
use Rattle.demand_3.proofs.Distances.{difference_down}

-- ---- how far good readings are apart

module _ (δ κ : ℕ) where
  pub spread-window : spread δ κ ≤ δ
  unfolding spread
  spread-window = min-le_left δ (2 * κ)

  pub spread-accuracy : spread δ κ ≤ 2 * κ
  unfolding spread
  spread-accuracy = min-le_right δ (2 * κ)

  pub spread-whole : δ ≤ 2 * κ → spread δ κ ≡ δ
  unfolding spread
  spread-whole l = min-eq_left l

  spread-less : 2 * κ < δ → spread δ κ ≡ 2 * κ
  unfolding spread
  spread-less l = min-eq_right (omega arith)

  -- where it is not δ it is 2κ, which is neither 0 nor 1
  module _ (inexact : 0 < κ) where
    pub spread-some : 0 < δ → 0 < spread δ κ
    spread-some l =
        ⊎_elim
        (λ e. omega (arith, spread-whole (leb-true δ (2 * κ) e)))
        (λ f. omega (arith, spread-less (leb-false δ (2 * κ) f)))
        (both_ways (leb δ (2 * κ)))

    pub spread-one : spread δ κ ≡ 1 → δ ≡ 1
    spread-one one =
        ⊎_elim
        (λ e. omega (arith, spread-whole (leb-true δ (2 * κ) e)))
        (λ f. absurd (omega (arith, spread-less (leb-false δ (2 * κ) f))))
        (both_ways (leb δ (2 * κ)))

module _ (n m t δ κ : ℕ) where
  -- what cabinet p reads of each
  abbrev pub sees : ℕ → Readings
  sees p = seen (worst_station n m t δ κ) (start (worst_station n m t δ κ)) (worst_sends n m t δ κ) δ p

  -- what the faulty ones tell cabinets 0, 1, ..
  abbrev pub told : Readings
  told = listed (present (pos (base n m t δ κ) -ℤ pos δ) ∷ at (base n m t δ κ + spread δ κ + δ) ∷ [])

  pub base-small : base n m t δ κ ≤ 1
  unfolding base
  base-small = omega arith

  -- ---- first readings

  module _ (p : ℕ) where
    pub reads-low : p < needed n m t → first_reading n m t δ κ p ≡ 0
    unfolding first_reading
    reads-low l = rw (lt-ltb p (needed n m t) l)

    pub reads-high : needed n m t ≤ p → p < 2 * needed n m t → first_reading n m t δ κ p ≡ spread δ κ
    unfolding first_reading
    reads-high l k = rw (le-ltb p (needed n m t) l, lt-ltb p (2 * needed n m t) k)

    pub reads-half : 2 * needed n m t ≤ p → first_reading n m t δ κ p ≡ (spread δ κ + 1) / 2
    unfolding first_reading ceil_div
    reads-half l = rw (le-ltb p (needed n m t) (omega arith), le-ltb p (2 * needed n m t) l)

    pub reads-most : first_reading n m t δ κ p ≤ spread δ κ
    unfolding first_reading ceil_div
    reads-most = go (ltb p (needed n m t)) (ltb p (2 * needed n m t))
      where
        go : (c d : Bool) → cond c 0 (cond d (spread δ κ) ((spread δ κ + (2 - 1)) / 2)) ≤ spread δ κ
        go true d = omega arith
        go false true = le_refl (spread δ κ)
        go false false = half (spread δ κ)
          where
            half : (y : ℕ) → (y + 1) / 2 ≤ y
            half y = omega arith

module _ (n m t δ κ : ℕ) (h : Covered n m t δ κ) where
  pub may-start : MayStart (settings n m fca median δ) κ 0
  may-start = none-may-start (settings n m fca median δ) κ 0 h.grants

  pub planned : 3 * m < n
  planned = omega (arith, may-start.passes.faults)

  pub some-n : 0 < n
  some-n = omega (arith, planned)

  pub parts : n ≡ needed n m t + (m + t)
  parts = omega (arith, h.fewer)

  pub joins : needed n m t ≤ m
  joins = omega (arith, h.crowded)

  -- ---- the hypotheses of demand 3

  small-fits : (z : ℤ) → mag z ≤ 2_000_001 → SFits w32 z
  small-fits z l = record { sfits = omega arith }

  first_fits : (p : ℕ) → IsReading (at (base n m t δ κ + first_reading n m t δ κ p))
  first_fits p =
      small-fits (pos (base n m t δ κ + first_reading n m t δ κ p))
      (omega (arith, base-small n m t δ κ, reads-most n m t δ κ p, spread-window δ κ, may-start.passes.window))

  told-fits : (p : ℕ) → IsReading (told n m t δ κ p)
  unfolding listed
  told-fits zero =
      small-fits (pos (base n m t δ κ) -ℤ pos δ)
      (subst⁻¹ (λ (z : ℤ). mag z ≤ 2_000_001) (difference_down (base n m t δ κ) δ)
      (down-ind δ (base n m t δ κ) (λ z. mag z ≤ 2_000_001)
      (λ l. omega (arith, base-small n m t δ κ, may-start.passes.window))
      (λ l. omega (arith, base-small n m t δ κ, may-start.passes.window))))
  told-fits (suc zero) =
      small-fits (pos (base n m t δ κ + spread δ κ + δ))
      (omega (arith, base-small n m t δ κ, spread-window δ κ, may-start.passes.window))
  told-fits (suc (suc p)) = tt

  pub starts : Start (worst_station n m t δ κ)
  unfolding worst_station
  starts = record { grants = h.grants; readings = first_fits }

  pub allowed : Allowed (worst_station n m t δ κ) (worst_sends n m t δ κ)
  unfolding worst_station worst_sends
  allowed =
      record {
        sent = λ r. told-fits;
        relayed = λ r s p. unfold listed in tt;
        room = λ p. rw (length-replicate {A = ℕ} (answer_length n) 255) (le_refl (answer_length n));
      }

  -- true time is within κ of every reading from the base to the highest
  accurate : (b y : ℕ) → y ≤ spread δ κ → nat_abs (pos (b + y) -ℤ (pos (b + spread δ κ) -ℤ pos κ)) ≤ κ
  accurate b y l =
      subst⁻¹ (λ (z : ℤ). nat_abs (pos (b + y) -ℤ z) ≤ κ) (difference_down (b + spread δ κ) κ)
      (subst⁻¹ (λ (z : ℤ). nat_abs (z -ℤ down κ (b + spread δ κ)) ≤ κ)
      (pos-down (b + y) ∙ down_cong 0 (b + y) κ (b + y + κ) (omega arith))
      (rw (dist_down κ (b + y + κ) (b + spread δ κ)) (omega (arith, spread-accuracy δ κ))))

  precise : (b y z : ℕ) → y ≤ spread δ κ → z ≤ spread δ κ → nat_abs (pos (b + y) -ℤ pos (b + z)) ≤ δ
  precise b y z k l =
      rw (difference_down (b + y) (b + z))
      (down-ind (b + z) (b + y) (λ a. nat_abs a ≤ δ) (λ i. omega (arith, spread-window δ κ)) (λ i. omega (arith, spread-window δ κ)))

  good : Good (worst_station n m t δ κ) (below (n - t)) (true_value n m t δ κ)
  unfolding worst_station
  good =
      record {
        sound = λ p l g. g;
        present = λ p l g. refl;
        accurate = λ p l g. accurate (base n m t δ κ) (first_reading n m t δ κ p) (reads-most n m t δ κ p);
        precise = λ p q lp lq gp gq.
            precise (base n m t δ κ) (first_reading n m t δ κ p) (first_reading n m t δ κ q)
            (reads-most n m t δ κ p)
            (reads-most n m t δ κ q);
      }

  pub meets : Meets (worst_station n m t δ κ) (worst_sends n m t δ κ ∷ []) (below (n - t)) (true_value n m t δ κ)
  meets = record { starts = starts; most = omega arith; allowed = (allowed, tt); goodness = good }

  pub t-bad : bad (worst_station n m t δ κ) (below (n - t)) ≡ t
  unfolding worst_station
  t-bad = omega (arith, count-not (λ p. ltb p (n - t)) n, count-below (n - t) n, h.fewer)

  -- ---- what is read

  module _ (p r : ℕ) where
    pub sees-sound : r < n - t → sees n m t δ κ p r ≡ at (base n m t δ κ + first_reading n m t δ κ r)
    unfolding worst_station
    sees-sound l =
        seen_direct (worst_station n m t δ κ) (start (worst_station n m t δ κ)) (worst_sends n m t δ κ) δ p r refl
        ∙ heard-sound (worst_station n m t δ κ) (start (worst_station n m t δ κ)) (worst_sends n m t δ κ) r p
        (lt-ltb r (n - t) l)

    pub sees_liar : n - t ≤ r → sees n m t δ κ p r ≡ told n m t δ κ p
    unfolding worst_station worst_sends heard
    sees_liar l =
        seen_direct (worst_station n m t δ κ) (start (worst_station n m t δ κ)) (worst_sends n m t δ κ) δ p r refl
        ∙ rw (le-ltb r (n - t) l)
