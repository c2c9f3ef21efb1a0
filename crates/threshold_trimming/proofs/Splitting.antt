-- The k lowest of n numbers, equal ones by index, lie below a threshold; so a number's rank is told by two thresholds,
-- and the lowest and the highest number that are left are told by them too.
--   before-rank          a number comes before the threshold's end just where its rank is below k
--   least-ranked, greatest-ranked    the number of rank k, and the one before it
-- Assumes nothing.
use mathlib.Core.Bool.{Bool, false, cond, ◌&&◌, ◌||◌}
use mathlib.Core.Logic.{⊎_elim}
use mathlib.Core.Path.{◌≡◌, refl, sym, ap, ◌∙◌}
use Prim.Native.Nat.{ℕ, zero, suc, ◌+◌, ◌-◌, ◌≤◌, ◌<◌}
use native.Mathlib.Omega.{arith}
use borrow.Author.Tests.{lt-ltb, le-ltb, le-leb, eq-eqb, ne_eqb, ltb-true, ltb-false, leb-true, leb-false}
use borrow.Author.Tests.{eqb-true, eqb-false}
use lib.Dec.{leb, ltb, eqb}
use Rattle.arithmetic.specs.Counting.{bit, count}
use Rattle.arithmetic.specs.Words.{two_to32}
use Rattle.arithmetic.proofs.Bools.{both_ways, or_cases, or_false, or_inl, or_inr, iff_eq}
use Rattle.arithmetic.proofs.Counting.{initial, last, split-last, count_mono, count_ext, count-both}
use Rattle.loop_laws.proofs.Loops.{count_next}
use Rattle.round_laws.specs.Naturals.{precedes_nat, rank_nat, ranked_nat}
use Rattle.value_laws.proofs.Order.{count-more, lower-precedes, precedes-at-most, precedes-self, rank_less, rank-small, below-rank}
use Rattle.value_laws.proofs.Order.{ranked-found}
use Rattle.ranks.proofs.Seeing.{rank-equal}
use Rattle.thresholds.specs.declared.Threshold.{Threshold}
use Rattle.thresholds.specs.Thresholds.{Split}
use Rattle.thresholds.proofs.Narrowing.{none-counted}
use Rattle.threshold_trimming.proofs.Loops.{count_longer}
use Rattle.threshold_trimming.specs.declared.End.{End}
use Rattle.threshold_trimming.specs.Trimming.{EndOf, least_from, greatest_to, before}

pub positive : (t : ℕ) → (t ≡ 0 → ⊥) → 0 < t
positive zero ne = absurd (ne refl)
positive (suc t) ne = omega arith

pub apart : (a b : ℕ) → a ≤ b → (b ≡ a → ⊥) → a < b
apart a b l ne =
    ⊎_elim (λ t. ltb-true a b t) (λ f. absurd (ne (omega (arith, ltb-false a b f)))) (both_ways (ltb a b))

-- so many are below a number, and so many equal to it
up-to-both :
    (x : ℕ → ℕ) (n v : ℕ)
    → count (λ t. leb (x t) v) n ≡ count (λ t. ltb (x t) v) n + count (λ t. eqb (x t) v) n
up-to-both x n v =
    let both = count-both (λ t. ltb (x t) v) (λ t. eqb (x t) v) n in
    let none =
    none-counted (λ t. ltb (x t) v && eqb (x t) v) n (λ t _. not-both (x t)) in
    let all = count_ext (λ t. leb (x t) v) (λ t. ltb (x t) v || eqb (x t) v) n (λ t _. either (x t)) in
    omega arith
  where
    not-both : (y : ℕ) → (ltb y v && eqb y v) ≡ false
    not-both y =
        ⊎_elim (λ t. ap (λ (b : Bool). b && eqb y v) t ∙ ne_eqb y v (λ e. absurd (omega (arith, e, ltb-true y v t))))
        (λ f. ap (λ (b : Bool). b && eqb y v) f)
        (both_ways (ltb y v))

    either : (y : ℕ) → leb y v ≡ (ltb y v || eqb y v)
    either y =
        iff_eq (leb y v) (ltb y v || eqb y v)
        (λ p.
        ⊎_elim (λ t. or_inl (eqb y v) t)
        (λ f. or_inr (ltb y v) (eq-eqb y v (omega (arith, leb-true y v p, ltb-false y v f))))
        (both_ways (ltb y v)))
        (λ p.
        ⊎_elim (λ t. le-leb y v (omega (arith, ltb-true y v t))) (λ e. le-leb y v (omega (arith, eqb-true y v e)))
        (or_cases (ltb y v) (eqb y v) p))

-- ---- the least number from low on, and the greatest up to high, of n

module _ (x : ℕ → ℕ) (small : (j : ℕ) → x j < two_to32) (low : ℕ) where
  pub least-most : (n j : ℕ) → j < n → low ≤ x j → least_from x low n ≤ x j
  unfolding least_from
  least-most zero j l h = absurd (omega arith)
  least-most (suc n) j l h =
      ⊎_elim
      (λ earlier. omega (arith, least-most n j earlier h))
      (λ here.
      let own : cond (ltb (x n) low) (two_to32 - 1) (x n) ≡ x j =
      ap (λ (b : Bool). cond b (two_to32 - 1) (x n)) (le-ltb (x n) low (rw (← here) h)) ∙ ap x (sym here) in
      omega arith)
      (split-last j n l)

  pub least-least : (n z : ℕ) → z < two_to32 → ((j : ℕ) → j < n → low ≤ x j → z ≤ x j) → z ≤ least_from x low n
  unfolding least_from
  least-least zero z l h = omega arith
  least-least (suc n) z l h =
      let ih = least-least n z l (initial {P = λ j. low ≤ x j → z ≤ x j} h) in
      ⊎_elim
      (λ t. let own = ap (λ (b : Bool). cond b (two_to32 - 1) (x n)) t in omega arith)
      (λ f.
      let own = ap (λ (b : Bool). cond b (two_to32 - 1) (x n)) f in
      omega (arith, last {P = λ j. low ≤ x j → z ≤ x j} h (ltb-false (x n) low f)))
      (both_ways (ltb (x n) low))

module _ (x : ℕ → ℕ) (high : ℕ) where
  pub greatest-least : (n j : ℕ) → j < n → x j ≤ high → x j ≤ greatest_to x high n
  unfolding greatest_to
  greatest-least zero j l h = absurd (omega arith)
  greatest-least (suc n) j l h =
      ⊎_elim
      (λ earlier. omega (arith, greatest-least n j earlier h))
      (λ here.
      let own : cond (ltb high (x n)) 0 (x n) ≡ x j =
      ap (λ (b : Bool). cond b 0 (x n)) (le-ltb high (x n) (rw (← here) h)) ∙ ap x (sym here) in
      omega arith)
      (split-last j n l)

  pub greatest-most : (n z : ℕ) → ((j : ℕ) → j < n → x j ≤ high → x j ≤ z) → greatest_to x high n ≤ z
  unfolding greatest_to
  greatest-most zero z h = omega arith
  greatest-most (suc n) z h =
      let ih = greatest-most n z (initial {P = λ j. x j ≤ high → x j ≤ z} h) in
      ⊎_elim
      (λ t. let own = ap (λ (b : Bool). cond b 0 (x n)) t in omega arith)
      (λ f.
      let own = ap (λ (b : Bool). cond b 0 (x n)) f in
      omega (arith, last {P = λ j. x j ≤ high → x j ≤ z} h (ltb-false high (x n) f)))
      (both_ways (ltb high (x n)))

module _ (x : ℕ → ℕ) (n : ℕ) where
  abbrev below : ℕ → ℕ
  below v = count (λ t. ltb (x t) v) n

  abbrev up_to : ℕ → ℕ
  up_to v = count (λ t. leb (x t) v) n

  abbrev rk : ℕ → ℕ
  rk r = rank_nat n x r

  -- how many are below a number, and a rank
  pub rank-under : (r at : ℕ) → r < n → x r < at → rk r < below at
  unfolding rank_nat
  rank-under r at l h =
      count-more (λ t. precedes_nat x t r) (λ t. ltb (x t) at) n r l
      (λ t _ p. lt-ltb (x t) at (omega (arith, precedes-at-most x t r p)))
      (precedes-self x r)
      (lt-ltb (x r) at h)

  rank-over : (r at : ℕ) → at ≤ x r → below at ≤ rk r
  unfolding rank_nat
  rank-over r at h =
      count_mono (λ t. ltb (x t) at) (λ t. precedes_nat x t r) n
      (λ t _ p. lower-precedes x t r (omega (arith, ltb-true (x t) at p)))

  module _ (k : ℕ) (edge : Threshold) (s : Split x n k edge) where
    -- a number above the threshold comes behind the k
    pub rank-beyond : (r : ℕ) → r < n → edge.at < x r → k ≤ rk r
    rank-beyond r l h =
        ⊎_elim
        (λ t. omega (arith, s.exact, eqb-true edge.ties 0 t, rank-over r edge.at (omega arith)))
        (λ f.
        let some : 0 < edge.ties = positive edge.ties (eqb-false edge.ties 0 f) in
        omega (arith, s.tied some, below-rank x n r edge.at h, rank-small x n r l))
        (both_ways (eqb edge.ties 0))

    -- one equal to it comes behind those below, and behind equal ones of a lower index
    rank-here : (r : ℕ) → r < n → x r ≡ edge.at → rk r ≡ below edge.at + count (λ s. eqb (x s) edge.at) r
    rank-here r l e =
        rank-equal x n r l ∙ ap (λ (v : ℕ). count (λ t. ltb (x t) v) n + count (λ s. eqb (x s) v) r) e

    -- how many are equal to the threshold, of the first r and of all
    abbrev passed : ℕ → ℕ
    passed r = count (λ t. eqb (x t) edge.at) r

    -- no more of these are among the k than there are
    enough : k ≤ n → edge.ties ≤ passed n
    enough l =
        ⊎_elim (λ t. omega (arith, eqb-true edge.ties 0 t))
        (λ f. omega (arith, s.exact, s.tied (positive edge.ties (eqb-false edge.ties 0 f)), up-to-both x n edge.at))
        (both_ways (eqb edge.ties 0))

    -- a number comes before the end just where its rank is below k
    module _ (most : k ≤ n) (stop : End) (o : EndOf x n edge stop) where
      ends_there : (r : ℕ) → r < n → x r ≡ edge.at → ltb r stop.place ≡ ltb (rk r) k
      ends_there r l here =
          let own = rank-here r l here in
          let one = ap bit (eq-eqb (x r) edge.at here) in
          iff_eq (ltb r stop.place) (ltb (rk r) k)
          (λ p.
          let more = count_longer (λ t. eqb (x t) edge.at) (r + 1) stop.place (omega (arith, ltb-true r stop.place p)) in
          lt-ltb (rk r) k (omega (arith, s.exact, count_next (λ t. eqb (x t) edge.at) r)))
          (λ p.
          ⊎_elim (λ t. t)
          (λ f.
          let fewer = count_longer (λ t. eqb (x t) edge.at) stop.place r (ltb-false r stop.place f) in
          absurd (omega (arith, s.exact, ltb-true (rk r) k p, enough most)))
          (both_ways (ltb r stop.place)))

      pub before-rank : (r : ℕ) → r < n → before (x r) r stop ≡ ltb (rk r) k
      before-rank r l =
          ap (λ (v : ℕ). ltb (x r) v || (eqb (x r) v && ltb r stop.place)) o.same
          ∙ ⊎_elim
          (λ t.
          or_inl (eqb (x r) edge.at && ltb r stop.place) t
          ∙ sym (lt-ltb (rk r) k (omega (arith, s.exact, rank-under r edge.at l (ltb-true (x r) edge.at t)))))
          (λ f.
          ⊎_elim
          (λ t.
          ap (λ (b : Bool). b || (eqb (x r) edge.at && ltb r stop.place)) f
          ∙ ap (λ (b : Bool). b && ltb r stop.place) t
          ∙ ends_there r l (eqb-true (x r) edge.at t))
          (λ g.
          let over : edge.at < x r = apart edge.at (x r) (ltb-false (x r) edge.at f) (eqb-false (x r) edge.at g) in
          or_false f (ap (λ (b : Bool). b && ltb r stop.place) g) ∙ sym (le-ltb (rk r) k (rank-beyond r l over)))
          (both_ways (eqb (x r) edge.at)))
          (both_ways (ltb (x r) edge.at))

    -- ---- the number of rank k, and the one before it

    module _ (small : (j : ℕ) → x j < two_to32) (some : k < n) where
      pub least-ranked : least_from x edge.at n ≡ ranked_nat n x k
      least-ranked =
          let f = ranked-found x n k some in
          let i = f.index in
          let e = f.number in
          let reached : edge.at ≤ x i =
          ⊎_elim (λ t. leb-true edge.at (x i) t)
          (λ g. absurd (omega (arith, s.exact, f.rank, rank-under i edge.at f.in_range (leb-false edge.at (x i) g))))
          (both_ways (leb edge.at (x i))) in
          let a = least-most x small edge.at n i f.in_range reached in
          let b = least-least x small edge.at n (x i) (small i) (λ j l h. lowest i f.in_range f.rank j l h) in
          omega arith
        where
          -- one above the threshold has rank k only where no ties are among the k
          at_once : (i : ℕ) → i < n → rk i ≡ k → edge.at < x i → edge.ties ≡ 0
          at_once i li e h =
              ⊎_elim (λ t. eqb-true edge.ties 0 t)
              (λ f. absurd (omega (arith, s.tied (positive edge.ties (eqb-false edge.ties 0 f)), below-rank x n i edge.at h)))
              (both_ways (eqb edge.ties 0))

          lowest : (i : ℕ) → i < n → rk i ≡ k → (j : ℕ) → j < n → edge.at ≤ x j → x i ≤ x j
          lowest i li e j lj h =
              ⊎_elim (λ t. leb-true (x i) (x j) t)
              (λ f.
              let lower = leb-false (x i) (x j) f in
              let before = rank_less x n j i lj (lower-precedes x j i lower) in
              absurd
              (⊎_elim
              (λ t. omega (arith, e, rank-beyond j lj (ltb-true edge.at (x j) t)))
              (λ g.
              let here : x j ≡ edge.at = omega (arith, ltb-false edge.at (x j) g) in
              omega (arith, e, s.exact, rank-here j lj here, at_once i li e (omega arith)))
              (both_ways (ltb edge.at (x j)))))
              (both_ways (leb (x i) (x j)))

    -- the greatest number up to the threshold: where no ties are among the k, it is below it
    module _ (some : 0 < k) (most : k ≤ n) where
      pub greatest-ranked : greatest_to x (cond (eqb edge.ties 0) (edge.at - 1) edge.at) n ≡ ranked_nat n x (k - 1)
      greatest-ranked =
          let f = ranked-found x n (k - 1) (omega arith) in
          let i = f.index in
          let e = f.number in
          ⊎_elim
          (λ t.
          let none = eqb-true edge.ties 0 t in
          let up = ap (λ (b : Bool). cond b (edge.at - 1) edge.at) t in
          let reached = ltb-true-from i f.in_range f.rank none in
          let a =
          greatest-least x (edge.at - 1) n i f.in_range (omega arith) in
          let b =
          greatest-most x (edge.at - 1) n (x i) (λ j l h. highest i f.in_range f.rank j l (omega (arith, s.exact, rank-under j edge.at l (omega arith)))) in
          ap (λ (v : ℕ). greatest_to x v n) up ∙ omega arith)
          (λ g.
          let tie = positive edge.ties (eqb-false edge.ties 0 g) in
          let up = ap (λ (b : Bool). cond b (edge.at - 1) edge.at) g in
          let a = greatest-least x edge.at n i f.in_range (reached-tied i f.rank tie) in
          let b =
          greatest-most x edge.at n (x i) (λ j l h. highest-tied i f.in_range f.rank tie j h) in
          ap (λ (v : ℕ). greatest_to x v n) up ∙ omega arith)
          (both_ways (eqb edge.ties 0))
        where
          ltb-true-from : (i : ℕ) → i < n → rk i ≡ k - 1 → edge.ties ≡ 0 → x i < edge.at
          ltb-true-from i l e none =
              ⊎_elim (λ t. ltb-true (x i) edge.at t)
              (λ f. absurd (omega (arith, s.exact, rank-over i edge.at (ltb-false (x i) edge.at f))))
              (both_ways (ltb (x i) edge.at))

          highest : (i : ℕ) → i < n → rk i ≡ k - 1 → (j : ℕ) → j < n → rk j < k → x j ≤ x i
          highest i li e j lj h =
              ⊎_elim
              (λ t. absurd (omega (arith, rank_less x n i j li (lower-precedes x i j (ltb-true (x i) (x j) t)))))
              (λ f. ltb-false (x i) (x j) f)
              (both_ways (ltb (x i) (x j)))

          reached-tied : (i : ℕ) → rk i ≡ k - 1 → 0 < edge.ties → x i ≤ edge.at
          reached-tied i e tie =
              ⊎_elim
              (λ t. absurd (omega (arith, s.tied tie, below-rank x n i edge.at (ltb-true edge.at (x i) t))))
              (λ f. ltb-false edge.at (x i) f)
              (both_ways (ltb edge.at (x i)))

          highest-tied : (i : ℕ) → i < n → rk i ≡ k - 1 → 0 < edge.ties → (j : ℕ) → x j ≤ edge.at → x j ≤ x i
          highest-tied i li e tie j h =
              ⊎_elim
              (λ t.
              absurd
              (omega (arith, s.exact, rank-under i edge.at li (omega (arith, ltb-true (x i) (x j) t)))))
              (λ f. ltb-false (x i) (x j) f)
              (both_ways (ltb (x i) (x j)))
