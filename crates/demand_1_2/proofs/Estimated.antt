-- The estimate among the accepted readings: the average is their sum over their count, the median the one numbered
-- half of them, the midpoint half of the lowest plus the highest.
-- Assumes nothing.
use mathlib.Core.Bool.{Bool, not, cond, ◌&&◌}
use mathlib.Core.Logic.{⊎_elim}
use mathlib.Core.Option.{some}
use mathlib.Core.Path.{◌≡◌, ap, ap₂, ◌∙◌, subst⁻¹}
use Prim.Native.Nat.{ℕ, ◌+◌, ◌*◌, ◌/◌, ◌≤◌, ◌<◌}
use native.Mathlib.Nat.{le_refl}
use native.Mathlib.Omega.{arith}
use borrow.Author.Tests.{leb-true, ltb-true}
use lib.Dec.{leb, ltb}
use lib.IntN.{ℤ, pos, ◌+ℤ◌}
use lib.Signed.{le_z, lt_z, mag, lt_z_no}
use Rattle.arithmetic.specs.Counting.{count, sum, lowest}
use Rattle.arithmetic.proofs.Bools.{both_ways, clash, to-T, and_left, and_right, and_intro}
use Rattle.arithmetic.proofs.Counting.{count_ext, count-pos, lowest-cases, Lowest}
use Rattle.model.specs.declared.Settings.{Settings}
use Rattle.model.specs.Ensemble.{Readings, ticks}
use Rattle.model.specs.RoundSheet.{average, median, midpoint}
use Rattle.model.specs.Steps.{accepted_at, numbered, ticks_at, average_of, median_of, midpoint_of, estimate, round_of}
use Rattle.round_laws.proofs.Represent.{reach, reach-above, raise}
use Rattle.round_laws.specs.Naturals.{is_numbered}
use Rattle.value_laws.proofs.Counts.{count-split}
use Rattle.value_laws.proofs.Ranks.{numbered_exists}
use Rattle.demand_1_2.specs.Demand2.{RoundedDown, FromBelow, LowestAccepted, HighestAccepted, Midpoint, Estimate}
use Rattle.demand_1_2.proofs.Represented.{le_up, lt_up}
use Rattle.demand_1_2.proofs.Roundings.{rounded-down}
use Rattle.demand_1_2.proofs.Spans.{accepted-present}

module _ (c : Settings) (D : ℕ) (v : Readings) where
  abbrev acc : ℕ → Bool
  acc = accepted_at c D v

  -- whether r's reading is numbered h from below among the accepted ones
  abbrev test : ℕ → ℕ → Bool
  test h r =
      acc r
      && (leb h (count (λ s. acc s && le_z (ticks (v s)) (ticks (v r))) c.n)
      && ltb (count (λ s. acc s && lt_z (ticks (v s)) (ticks (v r))) c.n) h)

  abbrev k : ℕ
  k = reach v c.n

  -- it is so of the readings moved up
  test-up : (h r : ℕ) → r < c.n → test h r ≡ is_numbered acc c.n (raise k v) h r
  test-up h r l =
      ap₂ (λ (i j : ℕ). acc r && (leb h i && ltb j h))
      (count_ext (λ s. acc s && le_z (ticks (v s)) (ticks (v r))) (λ s. acc s && leb (raise k v s) (raise k v r)) c.n
      (λ s i. ap (λ (b : Bool). acc s && b) (le_up k (ticks (v s)) (ticks (v r)) (near s i) (near r l))))
      (count_ext (λ s. acc s && lt_z (ticks (v s)) (ticks (v r))) (λ s. acc s && ltb (raise k v s) (raise k v r)) c.n
      (λ s i. ap (λ (b : Bool). acc s && b) (lt_up k (ticks (v s)) (ticks (v r)) (near s i) (near r l))))
    where
      near : (s : ℕ) → s < c.n → mag (ticks (v s)) < reach v c.n
      near s i = reach-above v c.n s i

  pub numbered-from-below :
      (h : ℕ) → 0 < h → h ≤ count (accepted_at c D v) c.n → FromBelow c D v h (numbered (accepted_at c D v) c.n v h)
  unfolding numbered
  numbered-from-below h some-h most =
      ⊎_elim
      (λ w. found w.0 w.1 w.2)
      (λ w.
      let there = numbered_exists acc c.n (raise k v) h some-h most in
      clash (test-up h there.0 there.1 ∙ there.2) (w.1 there.0 there.1))
      (lowest-cases (test h) c.n)
    where
      found :
          (r : ℕ) → lowest (test h) c.n ≡ some r → Lowest (test h) c.n r
          → FromBelow c D v h (ticks_at v (lowest (test h) c.n))
      found r e w =
          let rest = and_right (acc r) _ w.passes in
          subst⁻¹ (FromBelow c D v h) (ap (ticks_at v) e)
          (record {
            reading =
                record {
                  cabinet = r;
                  in_range = w.in_range;
                  accepted = and_left (acc r) _ w.passes;
                  reads = accepted-present c D v r (and_left (acc r) _ w.passes);
                };
            at_or_below = leb-true h _ (and_left (leb h _) _ rest);
            below = ltb-true _ h (and_right (leb h _) _ rest);
          })

  -- the first from below is the lowest, and the last the highest
  from-below-lowest : (z : ℤ) → FromBelow c D v 1 z → LowestAccepted c D v z
  from-below-lowest z f =
      record {
        reading = f.reading;
        none_below = λ r l e.
            ⊎_elim
            (λ t.
            let some_below = count-pos (λ s. acc s && lt_z (ticks (v s)) z) c.n r l (and_intro e t) in
            absurd (omega (arith, f.below)))
            (λ t. lt_z_no (to-T (ap not t)))
            (both_ways (lt_z (ticks (v r)) z));
      }

  from-below-highest : (z : ℤ) → FromBelow c D v (count (accepted_at c D v) c.n) z → HighestAccepted c D v z
  from-below-highest z f =
      record {
        reading = f.reading;
        none_above = λ r l e.
            ⊎_elim
            (λ t. record { le = to-T t })
            (λ t.
            let above = count-pos (λ s. acc s && not (le_z (ticks (v s)) z)) c.n r l (and_intro e (ap not t)) in
            absurd (omega (arith, count-split acc (λ s. le_z (ticks (v s)) z) c.n, f.at_or_below)))
            (both_ways (le_z (ticks (v r)) z));
      }

  module _ (some-acc : 0 < (round_of c D v).count) where
    counted : 0 < count (accepted_at c D v) c.n
    unfolding round_of
    counted = some-acc

    -- the estimate by a given estimator
    by : {kind : ℕ} → c.estimator ≡ kind → (round_of c D v).estimate ≡ estimate kind acc c.n v
    unfolding round_of
    by e = ap (λ (kind : ℕ). estimate kind acc c.n v) e

    -- an accepted reading, and 0 for any other
    abbrev picked : ℕ → ℤ
    picked r = cond (acc r) (ticks (v r)) (pos 0)

    by-average : RoundedDown (sum picked c.n) (round_of c D v).count (estimate average acc c.n v)
    unfolding round_of estimate average_of
    by-average = rounded-down (sum picked c.n) (count acc c.n) counted

    by-median :
        (h : ℕ) → (round_of c D v).count ≤ 2 * h → 2 * h ≤ (round_of c D v).count + 1
        → FromBelow c D v h (estimate median acc c.n v)
    unfolding round_of estimate median_of
    by-median h low high =
        let half : (count acc c.n + 1) / 2 ≡ h = omega arith in
        rw half (numbered-from-below h (omega (arith, counted)) (omega (arith, counted)))

    by-midpoint : Midpoint c D v (estimate midpoint acc c.n v)
    unfolding estimate midpoint_of
    by-midpoint =
        record {
          low = numbered acc c.n v 1;
          high = numbered acc c.n v (count acc c.n);
          is_lowest = from-below-lowest _ (numbered-from-below 1 (omega arith) counted);
          is_highest =
              from-below-highest _ (numbered-from-below (count acc c.n) counted (le_refl (count acc c.n)));
          half = rounded-down (numbered acc c.n v 1 +ℤ numbered acc c.n v (count acc c.n)) 2 (omega arith);
        }

    pub estimated : Estimate c D v (round_of c D v).estimate
    estimated =
        record {
          by_average = λ e.
              subst⁻¹ (RoundedDown (sum picked c.n) (round_of c D v).count) (by e) by-average;
          by_median = λ e h low high. subst⁻¹ (FromBelow c D v h) (by e) (by-median h low high);
          by_midpoint = λ e. subst⁻¹ (Midpoint c D v) (by e) by-midpoint;
        }
