-- Rules 2 and 3 over naturals, with at most m bad: what is left lies within the good readings, and two new values of
-- readings that are alike where they are good differ by at most the rounding of half the window, or of a share of it.
--   c(z), how many numbers are at most z, differs by at most t between the two, of which t are bad. The lowest that is
--   left of the one is at most the highest left of the other; and the sum of those left is that of their bounds, less
--   as many for each z as are left and at most z.
-- Assumes nothing.
use mathlib.Core.Bool.{Bool, true, false, not, cond, ◌&&◌}
use mathlib.Core.Logic.{⊎_elim}
use mathlib.Core.Path.{◌≡◌, refl, sym, ap, ap₂, ◌∙◌}
use Prim.Native.Nat.{ℕ, zero, suc, ◌+◌, ◌*◌, ◌-◌, min, ◌≤◌, ◌<◌}
use native.Mathlib.Nat.{mul_comm, le_refl}
use native.Mathlib.Omega.{arith}
use borrow.Author.Tests.{lt-ltb, le-leb, leb-true, leb-false, ltb-true, lt-leb}
use lib.Dec.{leb, ltb, eqb}
use Rattle.arithmetic.specs.Counting.{bit, count}
use Rattle.arithmetic.specs.Naturals.{total}
use Rattle.arithmetic.proofs.Bools.{both_ways, clash, and_left, and_right, and_intro, iff_eq, not-true-false}
use Rattle.arithmetic.proofs.Counting.{count_ext, count_mono}
use Rattle.arithmetic.proofs.Sums.{total_ext, total_mono, total_add, total_const, total_scale, count-total}
use Rattle.round_laws.specs.Naturals.{rank_nat, kept_nat, ranked_nat, kept-total, mean_nat, trimmed_nat}
use Rattle.value_laws.proofs.Counts.{count_overlap}
use Rattle.value_laws.proofs.Estimates.{Between}
use Rattle.value_laws.proofs.Order.{at-most-rank, below-rank, at-least-rank, ranks_between, kept-many, ranked-found}
use Rattle.value_laws.proofs.Trimmed.{Bounds, ranked-within}
use Rattle.limit_laws.proofs.Means.{MeansClose, mean-close}
use Rattle.limit_laws.proofs.Settled.{bad_count}

-- ---- one cabinet

module _ (n m : ℕ) (good : ℕ → Bool) (few : bad_count n good ≤ m) (x : ℕ → ℕ) where
  -- indices that are not good are few
  none-good : (p : ℕ → Bool) → ((r : ℕ) → r < n → p r ≡ true → good r ≡ true → ⊥) → count p n ≤ m
  none-good p apart =
      let c = count_mono p (λ r. not (good r)) n (λ r l e. ap not (not-true-false (good r) (apart r l e))) in
      omega arith

  -- what is left lies within the good readings
  pub kept-bounds :
      (a b : ℕ) → m ≤ n → ((r : ℕ) → r < n → good r ≡ true → Between a b (x r))
      → (r : ℕ) → r < n → kept_nat n m x r ≡ true → Between a b (x r)
  unfolding kept_nat
  kept-bounds a b small within r l kept =
      let low = leb-true m (rank_nat n x r) (and_left (leb m (rank_nat n x r)) _ kept) in
      let high = ltb-true (rank_nat n x r) (n - m) (and_right (leb m (rank_nat n x r)) _ kept) in
      record {
        low =
            ⊎_elim (leb-true a (x r))
            (λ f.
            let g = leb-false a (x r) f in
            let c =
            none-good (λ t. leb (x t) (x r))
            (λ t lt p e. below-good t (within t lt e).low (leb-true (x t) (x r) p) g) in
            absurd (omega (arith, at-most-rank x n r (x r) l (le_refl (x r)))))
            (both_ways (leb a (x r)));
        high =
            ⊎_elim (leb-true (x r) b)
            (λ f.
            let g = leb-false (x r) b f in
            let c =
            none-good (λ t. leb (x r) (x t))
            (λ t lt p e. above_good t (within t lt e).high (leb-true (x r) (x t) p) g) in
            absurd (omega (arith, at-least-rank x n r (x r) (le_refl (x r)))))
            (both_ways (leb (x r) b));
      }
    where
      below-good : (t : ℕ) → a ≤ x t → x t ≤ x r → x r < a → ⊥
      below-good t p q g = omega arith

      above_good : (t : ℕ) → x t ≤ b → x r ≤ x t → b < x r → ⊥
      above_good t p q g = omega arith

-- ---- sums, counted the other way round

-- how far y lies below s + d, as a count
depth : (y s d : ℕ) → s ≤ y → count (λ i. leb y (s + i)) d ≡ s + d - y
unfolding count
depth y s zero h = omega arith
depth y s (suc d) h =
    ⊎_elim
    (λ e.
    let b = ap bit e in
    omega (arith, depth y s d h, leb-true y (s + d) e))
    (λ e.
    let b = ap bit e in
    omega (arith, depth y s d h, leb-false y (s + d) e))
    (both_ways (leb y (s + d)))

-- those that pass, each counted for the indices below d that it passes
swapped :
    (p : ℕ → Bool) (q : ℕ → ℕ → Bool) (n d : ℕ)
    → total (λ r. cond (p r) (count (q r) d) 0) n ≡ total (λ i. count (λ r. p r && q r i) n) d
unfolding count total
swapped p q n zero = total_ext (λ r. cond (p r) 0 0) (λ _. 0) n (λ r _. same (p r)) ∙ nothing n
  where
    same : (b : Bool) → ◌≡◌ {A = ℕ} (cond b 0 0) 0
    same true = refl
    same false = refl

    nothing : (k : ℕ) → total (λ _. 0) k ≡ 0
    nothing k = total_const 0 k ∙ omega arith
swapped p q n (suc d) =
    total_ext (λ r. cond (p r) (count (q r) d + bit (q r d)) 0)
    (λ r. cond (p r) (count (q r) d) 0 + bit (p r && q r d))
    n
    (λ r _. split (p r) (count (q r) d) (q r d))
    ∙ total_add (λ r. cond (p r) (count (q r) d) 0) (λ r. bit (p r && q r d)) n
    ∙ ap₂ (λ (a b : ℕ). a + b) (swapped p q n d) (sym (count-total (λ r. p r && q r d) n))
  where
    split : (b : Bool) (k : ℕ) (c : Bool) → cond b (k + bit c) 0 ≡ cond b k 0 + bit (b && c)
    split true k c = refl
    split false k c = refl

module _ (n m : ℕ) (small : 2 * m < n) (x : ℕ → ℕ) where
  -- how many are at most z; how many of those left are
  abbrev up_to : ℕ → ℕ
  up_to z = count (λ t. leb (x t) z) n

  abbrev left_up_to : ℕ → ℕ
  left_up_to z = count (λ r. kept_nat n m x r && leb (x r) z) n

  -- a number is at most z just where its rank is below c(z)
  rank-up-to : (r z : ℕ) → r < n → leb (x r) z ≡ ltb (rank_nat n x r) (up_to z)
  rank-up-to r z l =
      iff_eq (leb (x r) z) (ltb (rank_nat n x r) (up_to z))
      (λ e. lt-ltb (rank_nat n x r) (up_to z) (at-most-rank x n r z l (leb-true (x r) z e)))
      (λ e.
      ⊎_elim (λ t. t)
      (λ f.
      absurd
      (omega (arith, ltb-true (rank_nat n x r) (up_to z) e, below-rank x n r z (leb-false (x r) z f))))
      (both_ways (leb (x r) z)))

  -- so as many are left and at most z as there are ranks from m to both N-m and c(z)
  left-up-to : (z : ℕ) → left_up_to z ≡ min (n - m) (up_to z) - m
  unfolding kept_nat
  left-up-to z =
      count_ext (λ r. kept_nat n m x r && leb (x r) z)
      (λ r. leb m (rank_nat n x r) && ltb (rank_nat n x r) (min (n - m) (up_to z)))
      n
      (λ r l. ap (λ (b : Bool). kept_nat n m x r && b) (rank-up-to r z l) ∙ both m (rank_nat n x r) (n - m) (up_to z))
      ∙ go
    where
      both : (a k b c : ℕ) → ((leb a k && ltb k b) && ltb k c) ≡ (leb a k && ltb k (min b c))
      both a k b c =
          iff_eq ((leb a k && ltb k b) && ltb k c) (leb a k && ltb k (min b c))
          (λ e.
          let f = and_left (leb a k && ltb k b) (ltb k c) e in
          and_intro (and_left (leb a k) (ltb k b) f)
          (lt-ltb k (min b c)
          (omega (
            arith,
            ltb-true k b (and_right (leb a k) (ltb k b) f),
            ltb-true k c (and_right (leb a k && ltb k b) (ltb k c) e),
          ))))
          (λ e.
          let f = ltb-true k (min b c) (and_right (leb a k) (ltb k (min b c)) e) in
          and_intro (and_intro (and_left (leb a k) (ltb k (min b c)) e) (lt-ltb k b (omega arith)))
          (lt-ltb k c (omega arith)))

      go :
          count (λ r. leb m (rank_nat n x r) && ltb (rank_nat n x r) (min (n - m) (up_to z))) n
          ≡ min (n - m) (up_to z) - m
      go =
          ⊎_elim
          (λ e. ranks_between x n m (min (n - m) (up_to z)) (leb-true m (min (n - m) (up_to z)) e) (omega arith))
          (λ e.
          let short = leb-false m (min (n - m) (up_to z)) e in
          let none =
          count_mono (λ r. leb m (rank_nat n x r) && ltb (rank_nat n x r) (min (n - m) (up_to z)))
          (λ r. leb m (rank_nat n x r) && ltb (rank_nat n x r) m)
          n
          (λ r _ p.
          and_intro (and_left (leb m (rank_nat n x r)) _ p)
          (lt-ltb (rank_nat n x r) m
          (omega (
            arith,
            ltb-true (rank_nat n x r) (min (n - m) (up_to z)) (and_right (leb m (rank_nat n x r)) _ p),
          )))) in
          omega (arith, ranks_between x n m m (le_refl m) (omega arith)))
          (both_ways (leb m (min (n - m) (up_to z))))

  -- the sum of those left, and how far they are below s + d
  module _ (s d : ℕ) (within : Bounds n m small x s (s + d)) where
    below : ℕ → ℕ
    below r = cond (kept_nat n m x r) (s + d - x r) 0

    depths : total below n ≡ total (λ i. left_up_to (s + i)) d
    unfolding below
    depths =
        total_ext below (λ r. cond (kept_nat n m x r) (count (λ i. leb (x r) (s + i)) d) 0) n
        (λ r l. each r l (kept_nat n m x r) refl)
        ∙ swapped (kept_nat n m x) (λ r i. leb (x r) (s + i)) n d
      where
        each :
            (r : ℕ) → r < n → (b : Bool) → kept_nat n m x r ≡ b
            → cond b (s + d - x r) 0 ≡ cond b (count (λ i. leb (x r) (s + i)) d) 0
        each r l true e = sym (depth (x r) s d (within r l e).low)
        each r l false e = refl

    pub kept-depth : kept-total n m x + total (λ i. left_up_to (s + i)) d ≡ (n - 2 * m) * (s + d)
    unfolding kept-total below
    kept-depth =
        ap (λ (t : ℕ). total (λ r. cond (kept_nat n m x r) (x r) 0) n + t) (sym depths)
        ∙ sym (total_add (λ r. cond (kept_nat n m x r) (x r) 0) below n)
        ∙ total_ext (λ r. cond (kept_nat n m x r) (x r) 0 + below r) (λ r. bit (kept_nat n m x r) * (s + d)) n
        (λ r l. each r l (kept_nat n m x r) refl)
        ∙ total_scale (λ r. bit (kept_nat n m x r)) (s + d) n
        ∙ ap (λ (k : ℕ). k * (s + d)) (sym (count-total (kept_nat n m x) n) ∙ kept-many x n m (omega arith))
      where
        each :
            (r : ℕ) → r < n → (b : Bool) → kept_nat n m x r ≡ b
            → cond b (x r) 0 + cond b (s + d - x r) 0 ≡ bit b * (s + d)
        each r l true e = omega (arith, (within r l e).high)
        each r l false e = omega arith

-- ---- two cabinets

module _ (n m : ℕ) (planned : 3 * m < n) (good : ℕ → Bool) (few : bad_count n good ≤ m) (x y : ℕ → ℕ)
    (alike : (r : ℕ) → r < n → good r ≡ true → x r ≡ y r) where
  -- as many are at most z, but for the bad ones
  up-to-close : (z : ℕ) → count (λ t. leb (y t) z) n ≤ count (λ t. leb (x t) z) n + bad_count n good
  up-to-close z =
      let a = count_overlap (λ t. leb (y t) z) good n in
      let b =
      count_mono (λ t. leb (y t) z && good t) (λ t. leb (x t) z) n
      (λ t l e.
      ap (λ (v : ℕ). leb v z) (alike t l (and_right (leb (y t) z) (good t) e))
      ∙ and_left (leb (y t) z) (good t) e) in
      omega arith

  module _ (s d : ℕ) (xs : Bounds n m (omega arith) x s (s + d)) (ys : Bounds n m (omega arith) y s (s + d)) where
    abbrev small : 2 * m < n
    small = omega arith

    -- the lowest that is left of the one is at most the highest of the other
    low-high : ranked_nat n x m ≤ ranked_nat n y (n - m - 1)
    low-high =
        let low = ranked-found x n m (omega arith) in
        let high = ranked-found y n (n - m - 1) (omega arith) in
        let i = low.index in
        let j = high.index in
        let lows = low.rank in
        let highs = high.rank in
        let lowest = low.number in
        let highest = high.number in
        ⊎_elim (λ e. omega (arith, leb-true (x i) (y j) e))
        (λ e.
        let many = at-most-rank y n j (y j) high.in_range (le_refl (y j)) in
        let close = up-to-close (y j) in
        absurd (omega (arith, below-rank x n i (y j) (leb-false (x i) (y j) e))))
        (both_ways (leb (x i) (y j)))

    -- half the sum of the extremes
    pub midpoints-close :
        MeansClose 2 (mean_nat 2 (ranked_nat n x m + ranked_nat n x (n - m - 1)))
        (mean_nat 2 (ranked_nat n y m + ranked_nat n y (n - m - 1))) d
    midpoints-close =
        let high = (ranked-within n m small x s (s + d) xs (n - m - 1) (omega arith) (omega arith)).high in
        let low = (ranked-within n m small y s (s + d) ys m (omega arith) (omega arith)).low in
        mean-close 2 (omega arith) (ranked_nat n x m + ranked_nat n x (n - m - 1))
        (ranked_nat n y m + ranked_nat n y (n - m - 1)) d
        (omega (arith, low-high))

    -- of those left as many are at most z, but for the bad ones
    left-close :
        (z : ℕ)
        → count (λ r. kept_nat n m y r && leb (y r) z) n
        ≤ count (λ r. kept_nat n m x r && leb (x r) z) n + bad_count n good
    left-close z =
        omega (arith, left-up-to n m small x z, left-up-to n m small y z, up-to-close z)

    -- the mean of those left
    pub means-close :
        MeansClose (n - 2 * m) (mean_nat (n - 2 * m) (kept-total n m x)) (mean_nat (n - 2 * m) (kept-total n m y))
        (bad_count n good * d)
    means-close =
        mean-close (n - 2 * m) (omega arith) (kept-total n m x) (kept-total n m y) (bad_count n good * d)
        (omega (
          arith,
          kept-depth n m small x s d xs,
          kept-depth n m small y s d ys,
          total_mono (λ i. count (λ r. kept_nat n m y r && leb (y r) (s + i)) n)
              (λ i. count (λ r. kept_nat n m x r && leb (x r) (s + i)) n + bad_count n good) d (λ i _. left-close (s + i)),
          total_add (λ i. count (λ r. kept_nat n m x r && leb (x r) (s + i)) n) (λ _. bad_count n good) d,
          total_const (bad_count n good) d,
          mul_comm d (bad_count n good),
        ))
