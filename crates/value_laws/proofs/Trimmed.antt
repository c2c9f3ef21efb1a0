-- The new value by rules 2 and 3, of readings whose ticks are naturals moved down by k: a missing one is k itself. It
-- depends on the ticks alone, and lies between any bounds of them.
-- Assumes nothing.
use mathlib.Core.Bool.{Bool, true, false, cond, ◌&&◌, ◌||◌}
use mathlib.Core.Option.{Option, none, some}
use mathlib.Core.Path.{◌≡◌, refl, sym, ap, ap₂, ◌∙◌}
use Prim.Native.Nat.{ℕ, zero, suc, ◌+◌, ◌*◌, ◌-◌, ◌≤◌, ◌<◌}
use native.Mathlib.Nat.{mul_comm, mul-zero, mul-le-mul_right}
use native.Mathlib.Omega.{arith}
use borrow.Author.Tests.{lt-ltb, le-leb, eq-eqb, eqb-true, ne_eqb}
use lib.Dec.{leb, ltb, eqb}
use lib.IntN.{ℤ, pos, ◌+ℤ◌}
use lib.Signed.{lt_z}
use Rattle.arithmetic.specs.Counting.{bit, count, lowest, sum, eq_z}
use Rattle.arithmetic.specs.Naturals.{down, up, total}
use Rattle.arithmetic.proofs.Bools.{and_intro, iff_eq}
use Rattle.arithmetic.proofs.Counting.{count_ext, lowest_ext, lowest-some, lowest-found}
use Rattle.arithmetic.proofs.Shift.{up-down, lt_down, add_down}
use Rattle.arithmetic.proofs.Sums.{count-total, sum_ext, total_mono, total_scale}
use Rattle.decision_laws.proofs.Equality.{eq_z-true, eq_eq_z}
use Rattle.model.specs.declared.Settings.{Settings}
use Rattle.model.specs.Ensemble.{Reading, Readings, is_present, ticks}
use Rattle.model.specs.RoundSheet.{trimmed_midpoint}
use Rattle.model.specs.Steps.{precedes, rank, is_kept, ranked, trimmed_midpoint_of, trimmed_mean_of, trimmed_value, trimmed_used}
use Rattle.model.specs.Steps.{trimmed_with, trimmed_round, kept_count, ticks_at, mark_of, mean, Round}
use Rattle.round_laws.specs.Naturals.{Even, shifted, mean_nat, precedes_nat, rank_nat, kept_nat, ranked_nat, kept-total}
use Rattle.round_laws.specs.Naturals.{trimmed_nat}
use Rattle.round_laws.proofs.Local.{EqualBelow, EqualRounds}
use Rattle.round_laws.proofs.Shifted.{mean-down, picked-down}
use Rattle.value_laws.proofs.Estimates.{Between}
use Rattle.value_laws.proofs.Means.{mean_upper, mean-lower}
use Rattle.value_laws.proofs.Order.{kept-many, rank_inj, ranked_is, ranked-found}

eq_down : (k a b : ℕ) → eq_z (down k a) (down k b) ≡ eqb a b
eq_down k a b =
    iff_eq (eq_z (down k a) (down k b)) (eqb a b)
    (λ e. eq-eqb a b (sym (up-down k a) ∙ ap (up k) (eq_z-true (down k a) (down k b) e) ∙ up-down k b))
    (λ e. eq_eq_z (down k a) (down k b) (ap (down k) (eqb-true a b e)))

-- ---- the same for readings whose ticks are these naturals moved down

module _ (k n : ℕ) (v : Readings) (x : ℕ → ℕ) (moved : (r : ℕ) → r < n → ticks (v r) ≡ down k (x r)) where
  precedes-down : (s r : ℕ) → s < n → r < n → precedes v s r ≡ precedes_nat x s r
  precedes-down s r ls lr =
      ap₂ (λ (a b : ℤ). lt_z a b || (eq_z a b && ltb s r)) (moved s ls) (moved r lr)
      ∙ ap₂ (λ (a b : Bool). a || (b && ltb s r)) (lt_down k (x s) (x r)) (eq_down k (x s) (x r))

  pub rank_down : (r : ℕ) → r < n → rank n v r ≡ rank_nat n x r
  unfolding rank rank_nat
  rank_down r l = count_ext (λ s. precedes v s r) (λ s. precedes_nat x s r) n (λ s ls. precedes-down s r ls l)

  pub kept-down : (m r : ℕ) → r < n → is_kept n m v r ≡ kept_nat n m x r
  unfolding is_kept kept_nat
  kept-down m r l = ap (λ (a : ℕ). leb m a && ltb a (n - m)) (rank_down r l)

  pub ranked-down : (h : ℕ) → h < n → ranked n v h ≡ down k (ranked_nat n x h)
  unfolding ranked
  ranked-down h l =
      let f = ranked-found x n h l in
      let i = f.index in
      ap (ticks_at v)
      (lowest_ext (λ r. eqb (rank n v r) h) (λ r. eqb (rank_nat n x r) h) n
      (λ r lr. ap (λ (a : ℕ). eqb a h) (rank_down r lr))
      ∙ lowest-some (λ r. eqb (rank_nat n x r) h) n i f.in_range (eq-eqb (rank_nat n x i) h f.rank)
      (λ j lj.
      ne_eqb (rank_nat n x j) h
      (λ e. no_lower i j lj (rank_inj x n j i (omega (arith, f.in_range)) f.in_range (e ∙ sym f.rank)))))
      ∙ moved i f.in_range
      ∙ ap (down k) (sym f.number)
    where
      no_lower : (i j : ℕ) → j < i → j ≡ i → ⊥
      no_lower i j l e = omega arith

  module _ (m : ℕ) (few : 2 * m < n) (even : Even k) where
    midpoint-down : trimmed_midpoint_of n m v ≡ down k (mean_nat 2 (ranked_nat n x m + ranked_nat n x (n - m - 1)))
    unfolding trimmed_midpoint_of
    midpoint-down =
        let low = ranked_nat n x m in
        let high = ranked_nat n x (n - m - 1) in
        ap (mean 2)
        (ap₂ (λ (a b : ℤ). a +ℤ b) (ranked-down m (omega arith)) (ranked-down (n - m - 1) (omega arith))
        ∙ add_down k low k high
        ∙ ap (λ (y : ℕ). down y (low + high)) (twice k))
        ∙ mean-down k 2 (low + high) (omega arith) even
      where
        twice : (k : ℕ) → k + k ≡ 2 * k
        twice k = omega arith

    -- the ticks of those left, of which there are n - 2m
    sum_kept :
        sum (λ r. cond (is_kept n m v r) (ticks (v r)) (pos 0)) n ≡ down ((n - 2 * m) * k) (kept-total n m x)
    unfolding kept-total
    sum_kept =
        sum_ext (λ r. cond (is_kept n m v r) (ticks (v r)) (pos 0))
        (λ r. cond (kept_nat n m x r) (ticks (shifted k (λ _. true) x r)) (pos 0))
        n
        (λ r l. ap₂ (λ (b : Bool) (z : ℤ). cond b z (pos 0)) (kept-down m r l) (moved r l))
        ∙ picked-down k (λ _. true) x (kept_nat n m x) n (λ _ _. refl) n
        ∙ ap (λ (y : ℕ). down (y * k) (total (λ r. cond (kept_nat n m x r) (x r) 0) n)) (kept-many x n m (omega arith))

    mean-of-down : trimmed_mean_of n m v ≡ down k (mean_nat (n - 2 * m) (kept-total n m x))
    unfolding trimmed_mean_of
    mean-of-down =
        ap (mean (n - 2 * m)) sum_kept ∙ mean-down k (n - 2 * m) (kept-total n m x) (omega arith) even

    pub trimmed-down : (rule : ℕ) → trimmed_value rule n m v ≡ down k (trimmed_nat rule n m x)
    unfolding trimmed_value trimmed_nat
    trimmed-down rule = go (eqb rule trimmed_midpoint)
      where
        go :
            (b : Bool)
            → cond b (trimmed_midpoint_of n m v) (trimmed_mean_of n m v)
            ≡ down k
            (cond b (mean_nat 2 (ranked_nat n x m + ranked_nat n x (n - m - 1)))
            (mean_nat (n - 2 * m) (kept-total n m x)))
        go true = midpoint-down
        go false = mean-of-down

-- ---- by the one rule, and by the other

pub trimmed-midpoint :
    (rule n m : ℕ) (x : ℕ → ℕ) → rule ≡ trimmed_midpoint
    → trimmed_nat rule n m x ≡ mean_nat 2 (ranked_nat n x m + ranked_nat n x (n - m - 1))
unfolding trimmed_nat
trimmed-midpoint rule n m x e = rw (eq-eqb rule trimmed_midpoint e)

pub trimmed-mean :
    (rule n m : ℕ) (x : ℕ → ℕ) → (rule ≡ trimmed_midpoint → ⊥)
    → trimmed_nat rule n m x ≡ mean_nat (n - 2 * m) (kept-total n m x)
unfolding trimmed_nat
trimmed-mean rule n m x e = rw (ne_eqb rule trimmed_midpoint e)

-- ---- between bounds

module _ (n m : ℕ) (few : 2 * m < n) (x : ℕ → ℕ) (a b : ℕ) where
  -- of those that are left
  abbrev pub Bounds : Type 0
  Bounds = (r : ℕ) → r < n → kept_nat n m x r ≡ true → Between a b (x r)

  module _ (within : Bounds) where
    kept-scaled : (c : ℕ) → total (λ r. bit (kept_nat n m x r) * c) n ≡ (n - 2 * m) * c
    kept-scaled c =
        total_scale (λ r. bit (kept_nat n m x r)) c n
        ∙ ap (λ (y : ℕ). y * c) (sym (count-total (kept_nat n m x) n) ∙ kept-many x n m (omega arith))

    -- the sum of those left
    pub kept-total-within : Between ((n - 2 * m) * a) ((n - 2 * m) * b) (kept-total n m x)
    unfolding kept-total
    kept-total-within =
        record {
          low =
              rw (← kept-scaled a)
              (total_mono (λ r. bit (kept_nat n m x r) * a) (λ r. cond (kept_nat n m x r) (x r) 0) n
              (λ r l. above (kept_nat n m x r) (x r) (λ e. (within r l e).low)));
          high =
              rw (← kept-scaled b)
              (total_mono (λ r. cond (kept_nat n m x r) (x r) 0) (λ r. bit (kept_nat n m x r) * b) n
              (λ r l. below (kept_nat n m x r) (x r) (λ e. (within r l e).high)));
        }
      where
        above : (c : Bool) (y : ℕ) → (c ≡ true → a ≤ y) → bit c * a ≤ cond c y 0
        above true y h = omega (arith, h refl)
        above false y h = omega arith

        below : (c : Bool) (y : ℕ) → (c ≡ true → y ≤ b) → cond c y 0 ≤ bit c * b
        below true y h = omega (arith, h refl)
        below false y h = omega arith

    -- the number of a rank that is left
    pub ranked-within : (h : ℕ) → m ≤ h → h < n - m → Between a b (ranked_nat n x h)
    unfolding kept_nat
    ranked-within h low high =
        let f = ranked-found x n h (omega arith) in
        let i = f.index in
        let t = f.rank in
        let here =
        within i f.in_range
        (and_intro (le-leb m (rank_nat n x i) (omega arith)) (lt-ltb (rank_nat n x i) (n - m) (omega arith))) in
        rw f.number here

    pub trimmed-within : (rule : ℕ) → Between a b (trimmed_nat rule n m x)
    unfolding trimmed_nat
    trimmed-within rule = go (eqb rule trimmed_midpoint)
      where
        extremes : ℕ
        extremes = ranked_nat n x m + ranked_nat n x (n - m - 1)

        low : Between a b (ranked_nat n x m)
        low = ranked-within m (omega arith) (omega arith)

        high : Between a b (ranked_nat n x (n - m - 1))
        high = ranked-within (n - m - 1) (omega arith) (omega arith)

        go : (c : Bool) → Between a b (cond c (mean_nat 2 extremes) (mean_nat (n - 2 * m) (kept-total n m x)))
        go true =
            record {
              low = mean-lower 2 (omega arith) extremes a (omega (arith, low.low, high.low));
              high = mean_upper 2 (omega arith) extremes b (omega (arith, low.high, high.high));
            }
        go false =
            record {
              low = mean-lower (n - 2 * m) (omega arith) (kept-total n m x) a kept-total-within.low;
              high = mean_upper (n - 2 * m) (omega arith) (kept-total n m x) b kept-total-within.high;
            }

-- ---- rounds of readings that are the same below n

module _ (n : ℕ) (v u : Readings) (same : EqualBelow n v u) where
  ticks-same : (r : ℕ) → r < n → ticks (v r) ≡ ticks (u r)
  ticks-same r l = ap ticks (same r l)

  rank_local : (r : ℕ) → r < n → rank n v r ≡ rank n u r
  unfolding rank
  rank_local r l =
      count_ext (λ s. precedes v s r) (λ s. precedes u s r) n
      (λ s ls. ap₂ (λ (a b : ℤ). lt_z a b || (eq_z a b && ltb s r)) (ticks-same s ls) (ticks-same r l))

  kept_local : (m r : ℕ) → r < n → is_kept n m v r ≡ is_kept n m u r
  unfolding is_kept
  kept_local m r l = ap (λ (a : ℕ). leb m a && ltb a (n - m)) (rank_local r l)

  ranked_local : (h : ℕ) → ranked n v h ≡ ranked n u h
  unfolding ranked
  ranked_local h =
      ap (ticks_at v)
      (lowest_ext (λ r. eqb (rank n v r) h) (λ r. eqb (rank n u r) h) n
      (λ r l. ap (λ (a : ℕ). eqb a h) (rank_local r l)))
      ∙ go (lowest (λ r. eqb (rank n u r) h) n) refl
    where
      go : (o : Option ℕ) → lowest (λ r. eqb (rank n u r) h) n ≡ o → ticks_at v o ≡ ticks_at u o
      go (some r) e = ticks-same r (lowest-found (λ r. eqb (rank n u r) h) n r e).in_range
      go none e = refl

  value_local : (rule m : ℕ) → trimmed_value rule n m v ≡ trimmed_value rule n m u
  unfolding trimmed_value trimmed_midpoint_of trimmed_mean_of
  value_local rule m =
      ap₂ (λ (a b : ℤ). cond (eqb rule trimmed_midpoint) a b)
      (ap₂ (λ (a b : ℤ). mean 2 (a +ℤ b)) (ranked_local m) (ranked_local (n - m - 1)))
      (ap (mean (kept_count n m))
      (sum_ext (λ r. cond (is_kept n m v r) (ticks (v r)) (pos 0)) (λ r. cond (is_kept n m u r) (ticks (u r)) (pos 0)) n
      (λ r l. ap₂ (λ (b : Bool) (z : ℤ). cond b z (pos 0)) (kept_local m r l) (ticks-same r l))))

pub trimmed_local :
    (c : Settings) (v u : Readings) → EqualBelow c.n v u → EqualRounds c.n (trimmed_round c v) (trimmed_round c u)
unfolding trimmed_round
trimmed_local c v u same =
    record {
      count = refl;
      estimate = e;
      value = e;
      mark = λ r l. ap₂ (λ (b : Bool) (z : Reading). mark_of b z) (kept_local c.n v u same c.m r l) (same r l);
      used = λ r l.
          ap₂ (λ (b : Bool) (z : Reading). cond (b && is_present z) (ticks z) (trimmed_value c.rule c.n c.m v))
          (kept_local c.n v u same c.m r l)
          (same r l)
          ∙ ap (λ (z : ℤ). trimmed_used c.n c.m u z r) e;
    }
  where
    e : trimmed_value c.rule c.n c.m v ≡ trimmed_value c.rule c.n c.m u
    e = value_local c.n v u same c.rule c.m
