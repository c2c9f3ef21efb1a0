-- The steps of a round over naturals. Readings `shifted k pres x` are those of the naturals x, moved down by k, where pres says which are
-- present; every step of the round on them is the same step on the naturals, moved down by k. So the code may work on naturals, and
-- proofs about a round may be by linear arithmetic.
-- Assumes nothing.
use mathlib.Core.Bool.{Bool, true, false, cond, ◌&&◌}
use mathlib.Core.Option.{Option, none, some}
use mathlib.Core.Path.{◌≡◌, refl, sym, ap, ap₂, ◌∙◌}
use Prim.Native.Nat.{ℕ, zero, suc, ◌+◌, ◌*◌, ◌-◌, ◌/◌, ◌%◌, ◌<◌}
use native.Mathlib.Nat.{zero-mul, suc-mul, add-zero, mul_comm, mul_assoc}
use native.Mathlib.Numerals.{add-one}
use native.Mathlib.Omega.{arith}
use lib.Dec.{leb, ltb, eqb}
use lib.IntN.{ℤ, pos, ◌+ℤ◌}
use lib.Signed.{le_z, lt_z, shr_z}
use Rattle.arithmetic.specs.Counting.{bit, count, any_below, lowest, sum}
use Rattle.arithmetic.proofs.Bools.{and_left, and_ext}
use Rattle.arithmetic.proofs.Counting.{count_ext, any_ext, lowest_ext, lowest-found}
use Rattle.arithmetic.specs.Naturals.{down, total}
use Rattle.arithmetic.proofs.Shift.{down_cong, pos-down, le_down, lt_down, add_down, add_pos-down, shr_down, nat_abs_down}
use Rattle.arithmetic.proofs.Sums.{sum_ext, sum-down}
use Rattle.arithmetic.specs.Words.{two_to31}
use Rattle.model.specs.Ensemble.{ticks}
use Rattle.model.specs.RoundSheet.{average, median}
use Rattle.model.specs.Steps.{within, accepted, numbered, ticks_at, average_of, median_of, midpoint_of, estimate, is_even, mean, used_value}
use Rattle.round_laws.specs.Naturals.{shift, shifted, within_nat, spans, accepted_nat, nat_at, is_numbered, numbered_nat, average_nat, median_nat, midpoint_nat, estimate_nat, Even, even_nat, half_up_nat, half_down_nat, mean_nat, used_nat}

-- ---- acceptance

pub within-shift : (k w : ℕ) (p : Bool) (a : ℕ) (q : Bool) (b : ℕ) → within w (shift k p a) (shift k q b) ≡ within_nat w p a q b
within-shift k w true a true b =
    ap₂ (λ (s t : Bool). s && t) (le_down k a b) (ap (le_z (down k b)) (add_pos-down k a w) ∙ le_down k b (a + w))
within-shift k w true a false b = refl
within-shift k w false a q b = refl

module _ (w : ℕ) (pres : ℕ → Bool) (x : ℕ → ℕ) where
  pub accepted-shifted : (k need n r : ℕ) → accepted w need n (shifted k pres x) r ≡ accepted_nat w pres x need n r
  unfolding accepted accepted_nat
  accepted-shifted k need n r =
      any_ext
      (λ s. within w (shifted k pres x s) (shifted k pres x r) && leb need (count (λ t. within w (shifted k pres x s) (shifted k pres x t)) n))
      (λ s. spans w pres x s r && leb need (count (spans w pres x s) n))
      n
      (λ s _.
      ap₂
      (λ (a : Bool) (c : ℕ). a && leb need c)
      (within-shift k w (pres s) (x s) (pres r) (x r))
      (count_ext
      (λ t. within w (shifted k pres x s) (shifted k pres x t))
      (spans w pres x s)
      n
      (λ t _. within-shift k w (pres s) (x s) (pres t) (x t))))

-- ---- the mean

-- a half that goes up, or down, by what is added to twice the sum
quotient_down : (k n s c : ℕ) → 0 < n → shr_z (down (n * k) s +ℤ down (n * k) s +ℤ pos c) (2 * n) ≡ down k ((s + s + c) / (2 * n))
quotient_down k n s c h =
    ap (λ z. shr_z z (2 * n))
    (ap (λ z. z +ℤ pos c) (add_down (n * k) s (n * k) s)
    ∙ add_pos-down (n * k + n * k) (s + s) c
    ∙ ap (λ (y : ℕ). down y (s + s + c)) moved)
    ∙ shr_down k (s + s + c) (2 * n) (omega arith)
  where
    moved : n * k + n * k ≡ k * (2 * n)
    moved =
        let a = mul_comm k (2 * n) in
        let b = mul_assoc 2 n k in
        omega arith

-- moving by an even number keeps what is even
pub even-down : (k x : ℕ) → Even k → is_even (down k x) ≡ even_nat x
even-down k x e = ap (λ (y : ℕ). eqb (y % 2) 0) (nat_abs_down k x) ∙ ap (λ (y : ℕ). eqb y 0) same
  where
    same : (x - k + (k - x)) % 2 ≡ x % 2
    same =
        let t = e.twice in
        omega arith

-- what the code moves by
pub even_31 : Even two_to31
even_31 = record { half = 1_073_741_824; twice = refl }

-- k is even: else a half would go to the other neighbour
pub mean-down : (k n s : ℕ) → 0 < n → Even k → mean n (down (n * k) s) ≡ down k (mean_nat n s)
unfolding mean mean_nat half_up_nat half_down_nat
mean-down k n s h even =
    rw (quotient_down k n s n h, quotient_down k n s (n - 1) h, even-down k ((s + s + n) / (2 * n)) even)
    (pick (even_nat ((s + s + n) / (2 * n))) _ _)
  where
    pick : (b : Bool) (x y : ℕ) → cond b (down k x) (down k y) ≡ down k (cond b x y)
    pick true x y = refl
    pick false x y = refl

-- ---- estimates, over cabinets acc that are present

module _ (k : ℕ) (pres : ℕ → Bool) (x : ℕ → ℕ) where
  ticks-shift : (r : ℕ) → pres r ≡ true → ticks (shifted k pres x r) ≡ down k (x r)
  ticks-shift r e = ap (λ (b : Bool). ticks (shift k b (x r))) e

  ticks-at : (o : Option ℕ) → ((r : ℕ) → o ≡ some r → pres r ≡ true) → ticks_at (shifted k pres x) o ≡ down k (nat_at k x o)
  ticks-at (some r) f = ticks-shift r (f r refl)
  ticks-at none f = pos-down 0 ∙ down_cong 0 0 k k (omega arith)

  module _ (acc : ℕ → Bool) (n : ℕ) (sub : (r : ℕ) → acc r ≡ true → pres r ≡ true) where
    is_numbered-shifted : (h r : ℕ) → ◌≡◌ {A = Bool} (acc r && (leb h (count (λ s. acc s && le_z (ticks (shifted k pres x s)) (ticks (shifted k pres x r))) n) && ltb (count (λ s. acc s && lt_z (ticks (shifted k pres x s)) (ticks (shifted k pres x r))) n) h)) (is_numbered acc n x h r)
    is_numbered-shifted h r =
        and_ext refl
        (λ a.
        ap₂
        (λ (i j : ℕ). leb h i && ltb j h)
        (count_ext
        (λ s. acc s && le_z (ticks (shifted k pres x s)) (ticks (shifted k pres x r)))
        (λ s. acc s && leb (x s) (x r))
        n
        (λ s _. and_ext refl (λ b. ap₂ le_z (ticks-shift s (sub s b)) (ticks-shift r (sub r a)) ∙ le_down k (x s) (x r))))
        (count_ext
        (λ s. acc s && lt_z (ticks (shifted k pres x s)) (ticks (shifted k pres x r)))
        (λ s. acc s && ltb (x s) (x r))
        n
        (λ s _. and_ext refl (λ b. ap₂ lt_z (ticks-shift s (sub s b)) (ticks-shift r (sub r a)) ∙ lt_down k (x s) (x r)))))

    pub numbered-shifted : (h : ℕ) → numbered acc n (shifted k pres x) h ≡ down k (numbered_nat k acc n x h)
    unfolding numbered numbered_nat
    numbered-shifted h =
        ap (ticks_at (shifted k pres x)) (lowest_ext _ (is_numbered acc n x h) n (λ r _. is_numbered-shifted h r))
        ∙ ticks-at
        (lowest (is_numbered acc n x h) n)
        (λ r e. sub r (and_left (acc r) _ (lowest-found (is_numbered acc n x h) n r e).passes))

    -- the sum over acc, moved down by k for each of them
    pub picked-down : (m : ℕ) → sum (λ r. cond (acc r) (ticks (shifted k pres x r)) (pos 0)) m ≡ down (count acc m * k) (total (λ r. cond (acc r) (x r) 0) m)
    unfolding sum count total
    picked-down zero = pos-down 0 ∙ down_cong 0 0 (0 * k) 0 (ap (λ (y : ℕ). 0 + y) (zero-mul k))
    picked-down (suc m) = go (acc m) refl (picked-down m)
      where
        go : (b : Bool) → acc m ≡ b → sum (λ r. cond (acc r) (ticks (shifted k pres x r)) (pos 0)) m ≡ down (count acc m * k) (total (λ r. cond (acc r) (x r) 0) m) → sum (λ r. cond (acc r) (ticks (shifted k pres x r)) (pos 0)) m +ℤ cond b (ticks (shifted k pres x m)) (pos 0) ≡ down ((count acc m + bit b) * k) (total (λ r. cond (acc r) (x r) 0) m + cond b (x m) 0)
        go true e ih =
            ap₂ (λ (a b : ℤ). a +ℤ b) ih (ticks-shift m (sub m e))
            ∙ add_down (count acc m * k) (total (λ r. cond (acc r) (x r) 0) m) k (x m)
            ∙ ap (λ (y : ℕ). down y (total (λ r. cond (acc r) (x r) 0) m + x m)) (sym (ap (λ (y : ℕ). y * k) (add-one (count acc m)) ∙ suc-mul (count acc m) k))
        go false e ih =
            ap (λ z. z +ℤ pos 0) ih
            ∙ add_pos-down (count acc m * k) (total (λ r. cond (acc r) (x r) 0) m) 0
            ∙ ap (λ (y : ℕ). down (y * k) (total (λ r. cond (acc r) (x r) 0) m + 0)) (sym (add-zero (count acc m)))

    module _ (some-acc : 0 < count acc n) where
      pub average-shifted : average_of acc n (shifted k pres x) ≡ down k (average_nat acc n x)
      unfolding average_of average_nat
      average-shifted =
          ap (λ z. shr_z z (count acc n)) (picked-down n ∙ ap (λ (y : ℕ). down y (total (λ r. cond (acc r) (x r) 0) n)) (mul_comm (count acc n) k))
          ∙ shr_down k (total (λ r. cond (acc r) (x r) 0) n) (count acc n) some-acc

      pub median-shifted : median_of acc n (shifted k pres x) ≡ down k (median_nat k acc n x)
      unfolding median_of median_nat
      median-shifted = numbered-shifted ((count acc n + 1) / 2)

      pub midpoint-shifted : midpoint_of acc n (shifted k pres x) ≡ down k (midpoint_nat k acc n x)
      unfolding midpoint_of midpoint_nat
      midpoint-shifted =
          ap (λ z. shr_z z 2)
          (ap₂ (λ (a b : ℤ). a +ℤ b) (numbered-shifted 1) (numbered-shifted (count acc n))
          ∙ add_down k (numbered_nat k acc n x 1) k (numbered_nat k acc n x (count acc n))
          ∙ ap (λ (y : ℕ). down y (numbered_nat k acc n x 1 + numbered_nat k acc n x (count acc n))) twice)
          ∙ shr_down k (numbered_nat k acc n x 1 + numbered_nat k acc n x (count acc n)) 2 (omega arith)
        where
          twice : k + k ≡ k * 2
          twice = omega arith

      pub estimate-shifted : (kind : ℕ) → estimate kind acc n (shifted k pres x) ≡ down k (estimate_nat k kind acc n x)
      unfolding estimate estimate_nat
      estimate-shifted kind = go (eqb kind average) (eqb kind median)
        where
          go : (a b : Bool) → cond a (average_of acc n (shifted k pres x)) (cond b (median_of acc n (shifted k pres x)) (midpoint_of acc n (shifted k pres x))) ≡ down k (cond a (average_nat acc n x) (cond b (median_nat k acc n x) (midpoint_nat k acc n x)))
          go true b = average-shifted
          go false true = median-shifted
          go false false = midpoint-shifted

    pub used-shifted : (e r : ℕ) → used_value acc (shifted k pres x) (down k e) r ≡ down k (used_nat acc x e r)
    used-shifted e r = go (acc r) refl
      where
        go : (b : Bool) → acc r ≡ b → cond b (ticks (shifted k pres x r)) (down k e) ≡ down k (cond b (x r) e)
        go true p = ticks-shift r (sub r p)
        go false p = refl

    pub value_shifted : (e : ℕ) → 0 < n → Even k → mean n (sum (used_value acc (shifted k pres x) (down k e)) n) ≡ down k (mean_nat n (total (used_nat acc x e) n))
    value_shifted e h even =
        ap (mean n) (sum_ext (used_value acc (shifted k pres x) (down k e)) (λ r. down k (used_nat acc x e r)) n (λ r _. used-shifted e r) ∙ sum-down k (used_nat acc x e) n)
        ∙ mean-down k n (total (used_nat acc x e) n) h even
