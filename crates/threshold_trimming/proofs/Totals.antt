-- The sum of the numbers that are left between two thresholds, without their places: of equal numbers it does not matter
-- which are dropped.
--   lowest-total       the sum of the k lowest numbers: those below their threshold, and the threshold for each tie
--   kept-between       the sum of those that are left
-- Assumes nothing.
use mathlib.Core.Bool.{Bool, true, false, cond, ◌&&◌}
use mathlib.Core.List.{List}
use mathlib.Core.Logic.{⊎_elim}
use mathlib.Core.Path.{◌≡◌, sym, ap, ◌∙◌}
use Prim.Native.Nat.{ℕ, ◌+◌, ◌*◌, ◌-◌, ◌≤◌, ◌<◌}
use native.Mathlib.Nat.{le_refl, mul-le-mul, add-mul}
use native.Mathlib.Omega.{arith}
use borrow.Author.Tests.{lt-ltb, le-ltb, le-leb, lt-leb, ltb-true, ltb-false, leb-true, eqb-true, eqb-false}
use lib.Dec.{leb, ltb, eqb}
use Rattle.arithmetic.specs.Counting.{bit, count}
use Rattle.arithmetic.specs.Naturals.{total}
use Rattle.arithmetic.specs.Words.{two_to32}
use Rattle.arithmetic.proofs.Bools.{both_ways}
use Rattle.arithmetic.proofs.Counting.{count_ext, count_mono}
use Rattle.arithmetic.proofs.Sums.{total_ext, total_mono, total_add, total_const, total_scale, count-total}
use Rattle.model.specs.Ensemble.{max_cabinets}
use Rattle.round_laws.specs.Naturals.{rank_nat, kept_nat, kept-total}
use Rattle.held.specs.Held.{value_at}
use Rattle.value_laws.proofs.Order as order
use Rattle.thresholds.specs.declared.Threshold.{Threshold}
use Rattle.thresholds.specs.declared.Thresholds.{Thresholds}
use Rattle.thresholds.specs.Thresholds.{Split}
use Rattle.threshold_trimming.specs.Trimming.{between, between_total}
use Rattle.threshold_trimming.proofs.Splitting.{positive, apart, rank-under, rank-beyond}

-- ---- what is below b is below a, or between them

-- the sum of the x whose f is below a number
abbrev pub under_total : (ℕ → ℕ) → (ℕ → ℕ) → ℕ → ℕ → ℕ
under_total f x a n = total (λ r. cond (ltb (f r) a) (x r) 0) n

parted : (y v a b : ℕ) → a ≤ b → cond (ltb y b) v 0 ≡ cond (ltb y a) v 0 + cond (leb a y && ltb y b) v 0
parted y v a b l =
    ⊎_elim
    (λ (t : ltb y a ≡ true). rw (t, lt-leb a y (ltb-true y a t), lt-ltb y b (omega (arith, ltb-true y a t))) (omega arith))
    (λ (f : ltb y a ≡ false). rw (f, le-leb a y (ltb-false y a f)) (omega arith))
    (both_ways (ltb y a))

pub under-parted :
    (f x : ℕ → ℕ) (a b n : ℕ) → a ≤ b
    → under_total f x b n ≡ under_total f x a n + total (λ r. cond (leb a (f r) && ltb (f r) b) (x r) 0) n
under-parted f x a b n l =
    total_ext (λ r. cond (ltb (f r) b) (x r) 0)
    (λ r. cond (ltb (f r) a) (x r) 0 + cond (leb a (f r) && ltb (f r) b) (x r) 0) n
    (λ r _. parted (f r) (x r) a b l)
    ∙ total_add (λ r. cond (ltb (f r) a) (x r) 0) (λ r. cond (leb a (f r) && ltb (f r) b) (x r) 0) n

-- what is added of a number
abbrev pub taken_of : List ℕ → ℕ → ℕ → ℕ → ℕ
taken_of numbers low high r = cond (between low high (value_at numbers r)) (value_at numbers r) 0

-- ---- what is between fits 64 bits, and so does so many times a number

pub left-fits :
    (x : ℕ → ℕ) (n low high kept : ℕ) → ((j : ℕ) → x j < two_to32) → n ≤ max_cabinets → kept ≤ max_cabinets → high < two_to32
    → between_total x low high n + kept * high < 18446744073709551616
left-fits x n low high kept small few many l =
    let a =
    total_mono (λ r. cond (between low high (x r)) (x r) 0) (λ _. two_to32 - 1) n
    (λ r _. taken (between low high (x r)) (x r) (small r)) in
    let b = total_const (two_to32 - 1) n in
    let c = mul-le-mul few (le_refl (two_to32 - 1)) in
    let d = mul-le-mul many (le_refl high) in
    omega arith
  where
    taken : (b : Bool) (v : ℕ) → v < two_to32 → cond b v 0 ≤ two_to32 - 1
    taken true v h = omega arith
    taken false v h = omega arith

-- ---- the k lowest

module _ (x : ℕ → ℕ) (n k : ℕ) (edge : Threshold) (s : Split x n k edge) (most : k ≤ n) where
  abbrev rk : ℕ → ℕ
  rk r = rank_nat n x r

  -- a number is among the k lowest and not below the threshold only where it is equal to it
  term :
      (r : ℕ) → r < n
      → cond (ltb (rk r) k) (x r) 0 + bit (ltb (x r) edge.at) * edge.at ≡ cond (ltb (x r) edge.at) (x r) 0 + bit (ltb (rk r) k) * edge.at
  term r l =
      ⊎_elim
      (λ (t : ltb (x r) edge.at ≡ true).
      let low : ltb (rk r) k ≡ true =
      lt-ltb (rk r) k (omega (arith, s.exact, rank-under x n r edge.at l (ltb-true (x r) edge.at t))) in
      rw (t, low) (omega arith))
      (λ (f : ltb (x r) edge.at ≡ false).
      ⊎_elim
      (λ e. rw (f, eqb-true (x r) edge.at e) (tie (ltb (rk r) k)))
      (λ g.
      let over : edge.at < x r = apart edge.at (x r) (ltb-false (x r) edge.at f) (eqb-false (x r) edge.at g) in
      rw (f, le-ltb (rk r) k (rank-beyond x n k edge s r l over)) (omega arith))
      (both_ways (eqb (x r) edge.at)))
      (both_ways (ltb (x r) edge.at))
    where
      tie : (b : Bool) → cond b edge.at 0 + 0 * edge.at ≡ 0 + bit b * edge.at
      tie b = ⊎_elim (λ t. rw t (omega arith)) (λ f. rw f (omega arith)) (both_ways b)

  counted : (p : ℕ → Bool) → total (λ r. bit (p r) * edge.at) n ≡ count p n * edge.at
  counted p = total_scale (λ r. bit (p r)) edge.at n ∙ ap (λ (c : ℕ). c * edge.at) (sym (count-total p n))

  -- k of them are
  many : count (λ r. ltb (rk r) k) n ≡ k
  many =
      let c = order.ranks_between x n 0 k (omega arith) most in
      count_ext (λ r. ltb (rk r) k) (order.between x n 0 k) n (λ r _. ap (λ (b : Bool). b && ltb (rk r) k) (sym (le-leb 0 (rk r) (omega arith))))
      ∙ omega arith

  pub lowest-total : under_total rk x k n ≡ under_total x x edge.at n + edge.ties * edge.at
  lowest-total =
      let both =
      sym (total_add (λ r. cond (ltb (rk r) k) (x r) 0) (λ r. bit (ltb (x r) edge.at) * edge.at) n)
      ∙ total_ext (λ r. cond (ltb (rk r) k) (x r) 0 + bit (ltb (x r) edge.at) * edge.at)
      (λ r. cond (ltb (x r) edge.at) (x r) 0 + bit (ltb (rk r) k) * edge.at) n
      term
      ∙ total_add (λ r. cond (ltb (x r) edge.at) (x r) 0) (λ r. bit (ltb (rk r) k) * edge.at) n in
      let below = counted (λ r. ltb (x r) edge.at) in
      let all =
      counted (λ r. ltb (rk r) k) ∙ ap (λ (c : ℕ). c * edge.at) (many ∙ sym s.exact) in
      omega (arith, add-mul (count (λ t. ltb (x t) edge.at) n) edge.ties edge.at)

-- ---- those that are left

module _ (x : ℕ → ℕ) (n m : ℕ) (rest : 2 * m < n) (t : Thresholds) (lowest : Split x n m t.low)
    (highest : Split x n (n - m) t.high) where
  -- more numbers are dropped below a higher threshold
  ordered : t.low.at ≤ t.high.at
  ordered =
      ⊎_elim
      (λ u.
      let above = ltb-true t.high.at t.low.at u in
      let few =
      count_mono (λ r. leb (x r) t.high.at) (λ r. ltb (x r) t.low.at) n
      (λ r _ p. lt-ltb (x r) t.low.at (omega (arith, leb-true (x r) t.high.at p))) in
      let fewer =
      count_mono (λ r. ltb (x r) t.high.at) (λ r. ltb (x r) t.low.at) n
      (λ r _ p. lt-ltb (x r) t.low.at (omega (arith, ltb-true (x r) t.high.at p))) in
      absurd
      (⊎_elim
      (λ e. omega (arith, lowest.exact, highest.exact, eqb-true t.high.ties 0 e))
      (λ g. omega (arith, lowest.exact, highest.tied (positive t.high.ties (eqb-false t.high.ties 0 g))))
      (both_ways (eqb t.high.ties 0))))
      (λ f. ltb-false t.high.at t.low.at f)
      (both_ways (ltb t.high.at t.low.at))

  pub kept-between : kept-total n m x + t.low.ties * t.low.at ≡ between_total x t.low.at t.high.at n + t.high.ties * t.high.at
  unfolding kept-total kept_nat
  kept-between =
      omega (
        arith,
        under-parted (λ r. rank_nat n x r) x m (n - m) n (omega arith),
        under-parted x x t.low.at t.high.at n ordered,
        lowest-total x n m t.low lowest (omega arith),
        lowest-total x n (n - m) t.high highest (omega arith),
      )
