-- Numbers ordered by value, and equal ones by index: before each of n indices comes another number of them, from 0 to
-- n-1. So as many have a rank from a to b as there are numbers from a to b.
--   rank_less, rank_inj    a later one has a higher rank; no two have one
--   ranks_between          how many have a rank from a to b
--   Ranked                 what the number of a rank is
-- Assumes nothing.
use mathlib.Core.Bool.{Bool, true, false, not, cond, ◌&&◌, ◌||◌}
use mathlib.Core.Logic.{◌⊎◌, inl, inr, ⊎_elim}
use mathlib.Core.Path.{◌≡◌, refl, sym, ap, ◌∙◌}
use Prim.Native.Nat.{ℕ, zero, suc, ◌+◌, ◌*◌, ◌-◌, ◌≤◌, ◌<◌}
use native.Mathlib.Omega.{arith}
use borrow.Author.Tests.{lt-ltb, le-ltb, le-leb, lt-leb, eq-eqb, ne_eqb, ltb-true, ltb-false, leb-true, leb-false}
use borrow.Author.Tests.{eqb-true, eqb-false}
use lib.Dec.{leb, ltb, eqb}
use Rattle.arithmetic.specs.Counting.{bit, count}
use Rattle.arithmetic.specs.Naturals.{total}
use Rattle.arithmetic.proofs.Bools.{both_ways, clash, and_left, and_right, and_intro, or_cases, or_inl, or_inr}
use Rattle.arithmetic.proofs.Bools.{or_left, or_right, or_false, and_false, iff_eq, not-true-false}
use Rattle.arithmetic.proofs.Counting.{initial, last, split-last, bit_le, count_ext, count_mono, count-le, count-both}
use Rattle.arithmetic.proofs.Counting.{count-not, count-some, count-pos}
use Rattle.round_laws.specs.Naturals.{precedes_nat, rank_nat, kept_nat, ranked_nat}
use Rattle.value_laws.proofs.Counts.{count-split}

-- ---- counting

-- one that passes p passes q, and i passes q alone
pub count-more :
    (p q : ℕ → Bool) (n i : ℕ) → i < n → ((j : ℕ) → j < n → p j ≡ true → q j ≡ true) → p i ≡ false → q i ≡ true
    → count p n < count q n
unfolding count
count-more p q zero i l sub pi qi = absurd (omega arith)
count-more p q (suc n) i l sub pi qi =
    ⊎_elim
    (λ below.
    let ih = count-more p q n i below (initial {P = λ j. p j ≡ true → q j ≡ true} sub) pi qi in
    let b = bit_le (p n) (q n) (last {P = λ j. p j ≡ true → q j ≡ true} sub) in
    omega arith)
    (λ here.
    let c = count_mono p q n (initial {P = λ j. p j ≡ true → q j ≡ true} sub) in
    let a = ap bit (ap p (sym here) ∙ pi) in
    let b = ap bit (ap q (sym here) ∙ qi) in
    omega arith)
    (split-last i n l)

pub none_pass : (k : ℕ) → count (λ _. false) k ≡ 0
unfolding count
none_pass zero = refl
none_pass (suc k) = omega (arith, none_pass k)

-- where no two pass, at most one does
pub count-one-most :
    (p : ℕ → Bool) (n : ℕ) → ((i j : ℕ) → i < n → j < n → p i ≡ true → p j ≡ true → i ≡ j) → count p n ≤ 1
unfolding count
count-one-most p zero single = omega arith
count-one-most p (suc n) single =
    go (p n) refl (count-one-most p n (λ i j a b. single i j (omega arith) (omega arith)))
  where
    no_other : p n ≡ true → count p n ≤ 0
    no_other e =
        ⊎_elim (λ t. let h = leb-true (count p n) 0 t in omega arith)
        (λ f.
        let s = count-some p n (omega (arith, leb-false (count p n) 0 f)) in
        let i = s.0 in
        let same = single i n (omega (arith, s.1)) (omega arith) s.2 e in
        absurd (omega (arith, s.1)))
        (both_ways (leb (count p n) 0))

    go : (b : Bool) → p n ≡ b → count p n ≤ 1 → count p n + bit b ≤ 1
    go true e ih = omega (arith, no_other e)
    go false e ih = omega arith

module _ (x : ℕ → ℕ) where
  -- ---- the order

  precedes-cases : (s r : ℕ) → precedes_nat x s r ≡ true → (x s < x r) ⊎ ((x s ≡ x r) × (s < r))
  precedes-cases s r e =
      ⊎_elim (λ a. inl (ltb-true (x s) (x r) a))
      (λ b.
      inr (
        eqb-true (x s) (x r) (and_left (eqb (x s) (x r)) (ltb s r) b),
        ltb-true s r (and_right (eqb (x s) (x r)) (ltb s r) b),
      ))
      (or_cases (ltb (x s) (x r)) (eqb (x s) (x r) && ltb s r) e)

  pub lower-precedes : (s r : ℕ) → x s < x r → precedes_nat x s r ≡ true
  lower-precedes s r l = or_inl (eqb (x s) (x r) && ltb s r) (lt-ltb (x s) (x r) l)

  pub equal-precedes : (s r : ℕ) → x s ≡ x r → s < r → precedes_nat x s r ≡ true
  equal-precedes s r e l = or_inr (ltb (x s) (x r)) (and_intro (eq-eqb (x s) (x r) e) (lt-ltb s r l))

  pub precedes-at-most : (s r : ℕ) → precedes_nat x s r ≡ true → x s ≤ x r
  precedes-at-most s r e =
      ⊎_elim (λ l. omega arith) (λ h. let a = h.0 in omega arith) (precedes-cases s r e)

  pub not-precedes : (s r : ℕ) → precedes_nat x s r ≡ false → x r ≤ x s
  not-precedes s r e = ltb-false (x s) (x r) (or_left (ltb (x s) (x r)) (eqb (x s) (x r) && ltb s r) e)

  pub precedes-self : (r : ℕ) → precedes_nat x r r ≡ false
  precedes-self r =
      or_false (le-ltb (x r) (x r) (omega arith)) (and_false (eqb (x r) (x r)) (le-ltb r r (omega arith)))

  -- one of two comes first
  precedes-either : (s r : ℕ) → (s ≡ r → ⊥) → (precedes_nat x s r ≡ true) ⊎ (precedes_nat x r s ≡ true)
  precedes-either s r apart =
      ⊎_elim (λ a. inl (lower-precedes s r (ltb-true (x s) (x r) a)))
      (λ a.
      ⊎_elim (λ b. inr (lower-precedes r s (ltb-true (x r) (x s) b)))
      (λ b.
      let same : x s ≡ x r = omega (arith, ltb-false (x s) (x r) a, ltb-false (x r) (x s) b) in
      ⊎_elim (λ c. inl (equal-precedes s r same (ltb-true s r c)))
      (λ c.
      ⊎_elim (λ d. inr (equal-precedes r s (sym same) (ltb-true r s d)))
      (λ d. absurd (apart (omega (arith, ltb-false s r c, ltb-false r s d))))
      (both_ways (ltb r s)))
      (both_ways (ltb s r)))
      (both_ways (ltb (x r) (x s))))
      (both_ways (ltb (x s) (x r)))

  precedes_trans : (a b c : ℕ) → precedes_nat x a b ≡ true → precedes_nat x b c ≡ true → precedes_nat x a c ≡ true
  precedes_trans a b c p q =
      ⊎_elim
      (λ l. lower-precedes a c (omega (arith, precedes-at-most b c q)))
      (λ h.
      ⊎_elim
      (λ l. lower-precedes a c (let e = h.0 in omega arith))
      (λ g. equal-precedes a c (h.0 ∙ g.0) (let i = h.1 in let j = g.1 in omega arith))
      (precedes-cases b c q))
      (precedes-cases a b p)

  module _ (n : ℕ) where
    -- ---- ranks

    abbrev rk : ℕ → ℕ
    rk r = rank_nat n x r

    pub rank_less : (s r : ℕ) → s < n → precedes_nat x s r ≡ true → rk s < rk r
    unfolding rank_nat
    rank_less s r l e =
        count-more (λ t. precedes_nat x t s) (λ t. precedes_nat x t r) n s l
        (λ t _ p. precedes_trans t s r p e)
        (precedes-self s)
        e

    pub rank_inj : (s r : ℕ) → s < n → r < n → rk s ≡ rk r → s ≡ r
    rank_inj s r ls lr e =
        ⊎_elim (λ t. eqb-true s r t)
        (λ f.
        ⊎_elim
        (λ p. absurd (omega (arith, rank_less s r ls p)))
        (λ p. absurd (omega (arith, rank_less r s lr p)))
        (precedes-either s r (eqb-false s r f)))
        (both_ways (eqb s r))

    pub rank-small : (r : ℕ) → r < n → rk r < n
    unfolding rank_nat
    rank-small r l =
        let c = count-more (λ t. precedes_nat x t r) (λ _. true) n r l (λ _ _ _. refl) (precedes-self r) refl in
        omega (arith, count-le (λ _. true) n)

    -- what comes before r is at most r's, and so is r's
    pub at-most-rank : (r z : ℕ) → r < n → x r ≤ z → rk r < count (λ t. leb (x t) z) n
    unfolding rank_nat
    at-most-rank r z l h =
        count-more (λ t. precedes_nat x t r) (λ t. leb (x t) z) n r l
        (λ t _ p. le-leb (x t) z (omega (arith, precedes-at-most t r p)))
        (precedes-self r)
        (le-leb (x r) z h)

    -- numbers below r's come before it
    pub below-rank : (r z : ℕ) → z < x r → count (λ t. leb (x t) z) n ≤ rk r
    unfolding rank_nat
    below-rank r z h =
        count_mono (λ t. leb (x t) z) (λ t. precedes_nat x t r) n
        (λ t _ p. lower-precedes t r (omega (arith, leb-true (x t) z p)))

    -- those that do not come before r are at least r's
    pub at-least-rank : (r z : ℕ) → z ≤ x r → n ≤ rk r + count (λ t. leb z (x t)) n
    unfolding rank_nat
    at-least-rank r z h =
        let a = count-not (λ t. precedes_nat x t r) n in
        let b =
        count_mono (λ t. not (precedes_nat x t r)) (λ t. leb z (x t)) n
        (λ t _ p. le-leb z (x t) (omega (arith, not-precedes t r (not-true-not (precedes_nat x t r) p)))) in
        omega arith
      where
        not-true-not : (b : Bool) → not b ≡ true → b ≡ false
        not-true-not true e = sym e
        not-true-not false e = refl

    -- a rank from a to b
    abbrev pub between : ℕ → ℕ → ℕ → Bool
    between a b r = leb a (rk r) && ltb (rk r) b

    one_rank : (h : ℕ) → count (λ r. eqb (rk r) h) n ≤ 1
    one_rank h =
        count-one-most (λ r. eqb (rk r) h) n
        (λ i j li lj p q. rank_inj i j li lj (eqb-true (rk i) h p ∙ sym (eqb-true (rk j) h q)))

    between-most : (a b : ℕ) → count (between a b) n ≤ b - a
    between-most a zero =
        let z =
        count_mono (between a 0) (λ _. false) n
        (λ r _ p. absurd (omega (arith, ltb-true (rk r) 0 (and_right (leb a (rk r)) (ltb (rk r) 0) p)))) in
        omega (arith, none_pass n)
    between-most a (suc b) =
        ⊎_elim
        (λ t.
        let h = leb-true a b t in
        let c = count_mono (between a (suc b)) (λ r. between a b r || eqb (rk r) b) n (λ r _ p. split r p) in
        let d = count-both (between a b) (λ r. eqb (rk r) b) n in
        omega (arith, between-most a b, one_rank b))
        (λ f.
        let h = leb-false a b f in
        let c =
        count_mono (between a (suc b)) (between a b) n
        (λ r _ p.
        let i = leb-true a (rk r) (and_left (leb a (rk r)) _ p) in
        let j = ltb-true (rk r) (suc b) (and_right (leb a (rk r)) _ p) in
        absurd (omega arith)) in
        omega (arith, between-most a b))
        (both_ways (leb a b))
      where
        split : (r : ℕ) → between a (suc b) r ≡ true → (between a b r || eqb (rk r) b) ≡ true
        split r p =
            ⊎_elim
            (λ t. or_inl (eqb (rk r) b) (and_intro (and_left (leb a (rk r)) _ p) t))
            (λ f.
            or_inr (between a b r)
            (eq-eqb (rk r) b
            (omega (
              arith,
              ltb-false (rk r) b f,
              ltb-true (rk r) (suc b) (and_right (leb a (rk r)) (ltb (rk r) (suc b)) p),
            ))))
            (both_ways (ltb (rk r) b))

    -- all ranks are below n
    from-least : (a : ℕ) → a ≤ n → n ≤ a + count (between a n) n
    from-least a l =
        let c = count-not (λ r. ltb (rk r) a) n in
        let d =
        count_mono (λ r. ltb (rk r) a) (between 0 a) n (λ r _ p. and_intro (le-leb 0 (rk r) (omega arith)) p) in
        let e = count_mono (λ r. not (ltb (rk r) a)) (between a n) n (λ r l p. high r l p) in
        omega (arith, between-most 0 a)
      where
        high : (r : ℕ) → r < n → not (ltb (rk r) a) ≡ true → between a n r ≡ true
        high r l p =
            and_intro
            (⊎_elim (λ t. absurd (clash p (ap not t)))
            (λ f. le-leb a (rk r) (ltb-false (rk r) a f))
            (both_ways (ltb (rk r) a)))
            (lt-ltb (rk r) n (rank-small r l))

    pub ranks_between : (a b : ℕ) → a ≤ b → b ≤ n → count (between a b) n ≡ b - a
    ranks_between a b l k =
        let c = count-split (between a n) (λ r. ltb (rk r) b) n in
        let d =
        count_mono (λ r. between a n r && ltb (rk r) b) (between a b) n
        (λ r _ p. and_intro (and_left (leb a (rk r)) _ (and_left (between a n r) _ p)) (and_right (between a n r) _ p)) in
        let e =
        count_mono (λ r. between a n r && not (ltb (rk r) b)) (between b n) n
        (λ r _ p. high r (and_left (between a n r) _ p) (and_right (between a n r) _ p)) in
        omega (arith, between-most a b, between-most b n, from-least a (omega arith))
      where
        high : (r : ℕ) → between a n r ≡ true → not (ltb (rk r) b) ≡ true → between b n r ≡ true
        high r p q =
            and_intro
            (⊎_elim (λ t. absurd (clash q (ap not t)))
            (λ f. le-leb b (rk r) (ltb-false (rk r) b f))
            (both_ways (ltb (rk r) b)))
            (and_right (leb a (rk r)) _ p)

    -- as many as are left
    pub kept-many : (m : ℕ) → 2 * m ≤ n → count (kept_nat n m x) n ≡ n - 2 * m
    unfolding kept_nat
    kept-many m l = omega (arith, ranks_between m (n - m) (omega arith) (omega arith))

    -- ---- the number of a rank

    pub record Ranked (h y : ℕ) : Type 0 where
      pub index : ℕ
      pub in_range : index < n
      pub rank : rk index ≡ h
      pub number : y ≡ x index

    -- the one index that has it
    rank-index : (h : ℕ) → h < n → (i : ℕ) × (i < n) × (rk i ≡ h)
    rank-index h l =
        let c = ranks_between h (suc h) (omega arith) l in
        let s = count-some (between h (suc h)) n (omega arith) in
        let i = s.0 in
        let a = leb-true h (rk i) (and_left (leb h (rk i)) (ltb (rk i) (suc h)) s.2) in
        let b = ltb-true (rk i) (suc h) (and_right (leb h (rk i)) (ltb (rk i) (suc h)) s.2) in
        (i, s.1, omega arith)

    abbrev of-rank : ℕ → ℕ → ℕ
    of-rank h r = cond (eqb (rk r) h) (x r) 0

    -- those before the index have other ranks, and those after it
    total-at : (h i k : ℕ) → rk i ≡ h → i < n → k ≤ n → total (of-rank h) k ≡ cond (ltb i k) (x i) 0
    unfolding total
    total-at h i zero e l b = rw (le-ltb i 0 (omega arith)) refl
    total-at h i (suc k) e l b =
        ⊎_elim
        (λ t.
        let below : i ≡ k = eqb-true i k t in
        let ih = total-at h i k e l (omega arith) ∙ ap (λ (c : Bool). cond c (x i) 0) (le-ltb i k (omega arith)) in
        let own =
        ap (λ (c : Bool). cond c (x k) 0) (eq-eqb (rk k) h (ap rk (sym below) ∙ e)) ∙ ap x (sym below) in
        let out = ap (λ (c : Bool). cond c (x i) 0) (lt-ltb i (suc k) (omega arith)) in
        omega arith)
        (λ f.
        let apart = eqb-false i k f in
        let other =
        ap (λ (c : Bool). cond c (x k) 0)
        (ne_eqb (rk k) h (λ q. apart (rank_inj i k l (omega arith) (e ∙ sym q)))) in
        let ih = total-at h i k e l (omega arith) in
        let same : ltb i (suc k) ≡ ltb i k =
        iff_eq (ltb i (suc k)) (ltb i k)
        (λ p. lt-ltb i k (let g = ltb-true i (suc k) p in next i k apart g))
        (λ p. lt-ltb i (suc k) (omega (arith, ltb-true i k p))) in
        let out = ap (λ (c : Bool). cond c (x i) 0) same in
        omega arith)
        (both_ways (eqb i k))
      where
        next : (i k : ℕ) → (i ≡ k → ⊥) → i < suc k → i < k
        next i k apart g = ⊎_elim (λ a. a) (λ e. absurd (apart e)) (split-last i k g)

    pub ranked_is : (i : ℕ) → i < n → ranked_nat n x (rk i) ≡ x i
    unfolding ranked_nat
    ranked_is i l =
        total-at (rk i) i n refl l (omega arith) ∙ ap (λ (c : Bool). cond c (x i) 0) (lt-ltb i n l)

    pub ranked-found : (h : ℕ) → h < n → Ranked h (ranked_nat n x h)
    ranked-found h l =
        let f = rank-index h l in
        record {
          index = f.0;
          in_range = f.1;
          rank = f.2;
          number = ap (ranked_nat n x) (sym f.2) ∙ ranked_is f.0 f.1;
        }
