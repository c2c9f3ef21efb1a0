-- Each estimate lies between any bounds that the accepted readings have, and so does each used value; the median is an
-- accepted reading with fewer than half of them below it and at least half at or below it.
--   Between a b y        a ≤ y ≤ b
-- Assumes nothing.
use mathlib.Core.Bool.{Bool, true, false, cond}
use mathlib.Core.Path.{◌≡◌, refl, sym, ap, ◌∙◌}
use Prim.Native.Nat.{ℕ, ◌+◌, ◌*◌, ◌/◌, ◌≤◌, ◌<◌, zero-le}
use native.Mathlib.Nat.{le_refl, le-div_iff_mul-le, div-le_of_le-mul, mul_comm}
use native.Mathlib.Omega.{arith}
use lib.Dec.{eqb}
use Rattle.arithmetic.specs.Counting.{bit, count}
use Rattle.arithmetic.specs.Naturals.{total}
use Rattle.arithmetic.proofs.Sums.{total_mono, total_scale, count-total}
use Rattle.model.specs.RoundSheet.{average, median}
use Rattle.round_laws.specs.Naturals.{numbered_nat, average_nat, median_nat, midpoint_nat, estimate_nat, used_nat}
use Rattle.value_laws.proofs.Extremes.{LeastOf, GreatestOf}
use Rattle.value_laws.proofs.Ranks.{Numbered, numbered-found}

pub record Between (a b y : ℕ) : Type 0 where
  pub low : a ≤ y
  pub high : y ≤ b

picked_low : (b : Bool) (a y : ℕ) → (b ≡ true → a ≤ y) → bit b * a ≤ cond b y 0
picked_low true a y f = let l = f refl in omega arith
picked_low false a y f = omega arith

picked_high : (b : Bool) (a y : ℕ) → (b ≡ true → y ≤ a) → cond b y 0 ≤ bit b * a
picked_high true a y f = let l = f refl in omega arith
picked_high false a y f = zero-le

module _ (acc : ℕ → Bool) (n : ℕ) (x : ℕ → ℕ) (some-acc : 0 < count acc n) where
  module _ (a b : ℕ) (low : (r : ℕ) → r < n → acc r ≡ true → a ≤ x r)
      (high : (r : ℕ) → r < n → acc r ≡ true → x r ≤ b) where
    numbered_within : (k h : ℕ) → 0 < h → h ≤ count acc n → Between a b (numbered_nat k acc n x h)
    numbered_within k h some-h most =
        let f = numbered-found acc n x h some-h most k in
        let l = low f.index f.in_range f.admitted in
        let u = high f.index f.in_range f.admitted in
        let e = f.number in
        record { low = omega arith; high = omega arith }

    average-within : Between a b (average_nat acc n x)
    unfolding average_nat
    average-within =
        record { low = (le-div_iff_mul-le some-acc).1 least-sum; high = div-le_of_le-mul (count acc n) greatest-sum }
      where
        scaled : (j : ℕ) → total (λ i. bit (acc i) * j) n ≡ count acc n * j
        scaled j = total_scale (λ i. bit (acc i)) j n ∙ ap (λ (y : ℕ). y * j) (sym (count-total acc n))

        least-sum : a * count acc n ≤ total (λ r. cond (acc r) (x r) 0) n
        least-sum =
            let c = mul_comm a (count acc n) in
            let s = scaled a in
            let t = total_mono (λ i. bit (acc i) * a) (λ r. cond (acc r) (x r) 0) n
            (λ i l. picked_low (acc i) a (x i) (low i l)) in
            omega arith

        greatest-sum : total (λ r. cond (acc r) (x r) 0) n ≤ count acc n * b
        greatest-sum =
            let s = scaled b in
            let t = total_mono (λ r. cond (acc r) (x r) 0) (λ i. bit (acc i) * b) n
            (λ i l. picked_high (acc i) b (x i) (high i l)) in
            omega arith

    median-within : (k : ℕ) → Between a b (median_nat k acc n x)
    unfolding median_nat
    median-within k = numbered_within k ((count acc n + 1) / 2) (omega arith) (omega arith)

    midpoint-within : (k : ℕ) → Between a b (midpoint_nat k acc n x)
    unfolding midpoint_nat
    midpoint-within k =
        let l = numbered_within k 1 (omega arith) some-acc in
        let h = numbered_within k (count acc n) some-acc (le_refl (count acc n)) in
        record { low = omega arith; high = omega arith }

    -- E: what bounds the accepted readings bounds the estimate
    pub estimate-within : (k kind : ℕ) → Between a b (estimate_nat k kind acc n x)
    unfolding estimate_nat
    estimate-within k kind = go (eqb kind average) (eqb kind median)
      where
        go :
            (p q : Bool)
            → Between a b (cond p (average_nat acc n x) (cond q (median_nat k acc n x) (midpoint_nat k acc n x)))
        go true q = average-within
        go false true = median-within k
        go false false = midpoint-within k

    pub used-within : (k kind r : ℕ) → r < n → Between a b (used_nat acc x (estimate_nat k kind acc n x) r)
    used-within k kind r l = go (acc r) refl
      where
        go : (p : Bool) → acc r ≡ p → Between a b (cond p (x r) (estimate_nat k kind acc n x))
        go true e = record { low = low r l e; high = high r l e }
        go false e = estimate-within k kind

  -- the estimate lies between the lowest and the highest accepted reading
  pub estimate-between :
      (k kind : ℕ) (lo : LeastOf acc x n) (hi : GreatestOf acc x n)
      → Between (x lo.index) (x hi.index) (estimate_nat k kind acc n x)
  estimate-between k kind lo hi = estimate-within (x lo.index) (x hi.index) lo.first hi.first k kind

  -- the median is the accepted reading numbered half of them, rounded up
  pub median-numbered : (k : ℕ) → Numbered acc n x ((count acc n + 1) / 2) (estimate_nat k median acc n x)
  unfolding estimate_nat median_nat
  median-numbered k = numbered-found acc n x ((count acc n + 1) / 2) (omega arith) (omega arith) k
