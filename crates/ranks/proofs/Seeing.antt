-- The rank of a number is how many are below it, and how many equal ones come before it; of two numbers as many are
-- below just where they are equal.
-- Assumes nothing.
use mathlib.Core.Bool.{Bool, true, false, ◌&&◌}
use mathlib.Core.List.{List}
use mathlib.Core.Logic.{⊎_elim}
use mathlib.Core.Path.{◌≡◌, refl, sym, ap, ◌∙◌}
use Prim.Native.Nat.{ℕ, zero, suc, ◌+◌, ◌≤◌, ◌<◌}
use native.Mathlib.Omega.{arith}
use borrow.Author.Tests.{lt-ltb, le-ltb, ltb-true, ltb-false, eq-eqb, eqb-true, eqb-false, ne_eqb}
use lib.Dec.{ltb, eqb}
use lib.ListN.{length, get_or, set, replicate, length-set}
use lib.Seq.{get_or-set_same, get_or-set_other}
use Rattle.std.specs.Prelude.{Option, Some, IsSome}
use Rattle.arithmetic.specs.Counting.{bit, count}
use Rattle.arithmetic.proofs.Bools.{both_ways, iff_eq, and_false}
use Rattle.arithmetic.proofs.Counting.{count_ext, count-both}
use Rattle.loop_laws.proofs.Loops.{count_next, Storing, storing_none, storing_next}
use Rattle.model.specs.Ensemble.{max_cabinets}
use Rattle.round_laws.specs.Naturals.{rank_nat}
use Rattle.value_laws.proofs.Order.{none_pass, count-more, rank-small}
use Rattle.held.specs.Held.{value_at}
use Rattle.ranks.specs.Ranks.{below_number, below_of, rank_at, below_at, Seen}

-- what `count_below` gives of at most 64 numbers
pub below_of_lem : (values : List ℕ) (v : ℕ) → length values ≤ max_cabinets → below_of values v ≡ Some (below_number values v)
unfolding below_of
below_of_lem values v few = rw (le-ltb max_cabinets (length values) few)

pub below-some :
    (values : List ℕ) (v : ℕ) {b : ℕ} → length values ≤ max_cabinets → Some b ≡ below_of values v
    → b ≡ below_number values v
below-some values v few e = let both = e ∙ below_of_lem values v few in cc

pub below-is_some : (values : List ℕ) (v : ℕ) {o : Option ℕ} → length values ≤ max_cabinets → o ≡ below_of values v → IsSome o
below-is_some values v few e = rw (e ∙ below_of_lem values v few) refl

and_true : (a : Bool) {b : Bool} → b ≡ true → (a && b) ≡ a
and_true true e = e
and_true false e = refl

-- those below r of n
count-first : (p : ℕ → Bool) (r n : ℕ) → r ≤ n → count (λ s. p s && ltb s r) n ≡ count p r
unfolding count
count-first p r zero l = ap (count p) (sym none)
  where
    none : r ≡ 0
    none = omega arith
count-first p r (suc k) l =
    ⊎_elim
    (λ t.
    let below : r ≤ k = omega (arith, ltb-true r (suc k) t) in
    let last = ap bit (and_false (p k) (le-ltb k r below)) in
    omega (arith, count-first p r k below))
    (λ f.
    let all : r ≡ suc k = omega (arith, ltb-false r (suc k) f) in
    count_ext (λ s. p s && ltb s r) p (suc k) (λ s h. and_true (p s) (lt-ltb s r (omega arith))) ∙ ap (count p) (sym all))
    (both_ways (ltb r (suc k)))

module _ (x : ℕ → ℕ) (n : ℕ) where
  -- how many are below a number
  abbrev below : ℕ → ℕ
  below r = count (λ t. ltb (x t) (x r)) n

  -- as many are below two just where they are equal
  lower-below : (s r : ℕ) → s < n → x s < x r → below s < below r
  lower-below s r l h =
      count-more (λ t. ltb (x t) (x s)) (λ t. ltb (x t) (x r)) n s l
      (λ t _ p. lt-ltb (x t) (x r) (omega (arith, ltb-true (x t) (x s) p)))
      (le-ltb (x s) (x s) (omega arith))
      (lt-ltb (x s) (x r) h)

  same-below : (s r : ℕ) → s < n → r < n → eqb (x s) (x r) ≡ eqb (below s) (below r)
  same-below s r ls lr =
      iff_eq (eqb (x s) (x r)) (eqb (below s) (below r))
      (λ e. eq-eqb (below s) (below r) (ap (λ (y : ℕ). count (λ t. ltb (x t) y) n) (eqb-true (x s) (x r) e)))
      (λ e.
      let same = eqb-true (below s) (below r) e in
      ⊎_elim
      (λ t. absurd (omega (arith, lower-below s r ls (ltb-true (x s) (x r) t))))
      (λ f.
      ⊎_elim
      (λ t. absurd (omega (arith, lower-below r s lr (ltb-true (x r) (x s) t))))
      (λ g. eq-eqb (x s) (x r) (omega (arith, ltb-false (x s) (x r) f, ltb-false (x r) (x s) g)))
      (both_ways (ltb (x r) (x s))))
      (both_ways (ltb (x s) (x r))))

  -- a number comes behind those below it, and behind equal ones of a lower index
  pub rank-equal : (r : ℕ) → r < n → rank_nat n x r ≡ below r + count (λ s. eqb (x s) (x r)) r
  unfolding rank_nat
  rank-equal r l =
      let a = count-both (λ s. ltb (x s) (x r)) (λ s. eqb (x s) (x r) && ltb s r) n in
      let b =
      count_ext (λ s. ltb (x s) (x r) && (eqb (x s) (x r) && ltb s r)) (λ _. false) n
      (λ s _. apart (x s) (x r) (ltb s r)) in
      let c = count-first (λ s. eqb (x s) (x r)) r n (omega arith) in
      omega (arith, none_pass n)
    where
      apart : (y z : ℕ) (b : Bool) → (ltb y z && (eqb y z && b)) ≡ false
      apart y z b =
          ⊎_elim
          (λ t.
          let other = ne_eqb y z (λ e. lower y z (ltb-true y z t) e) in
          and_false (ltb y z) (ap (λ (c : Bool). c && b) other))
          (λ f. ap (λ (c : Bool). c && (eqb y z && b)) f)
          (both_ways (ltb y z))
        where
          lower : (y z : ℕ) → y < z → y ≡ z → ⊥
          lower y z l e = omega arith

  rank_split : (r : ℕ) → r < n → rank_nat n x r ≡ below r + count (λ s. eqb (below s) (below r)) r
  rank_split r l =
      rank-equal r l
      ∙ ap (λ (k : ℕ). below r + k)
      (count_ext (λ s. eqb (x s) (x r)) (λ s. eqb (below s) (below r)) r (λ s h. same-below s r (omega arith) l))

-- ---- what was seen of the indices passed

module _ (values : List ℕ) (few : length values ≤ max_cabinets) where
  below-small : (r : ℕ) → r < length values → below_at values r < max_cabinets
  below-small r l =
      let s = rank_split (value_at values) (length values) r l in
      omega (arith, rank-small (value_at values) (length values) r l)

  pub seen-rank :
      (r b : ℕ) (seen : List ℕ) → r < length values → b ≡ below_at values r → Seen values r seen
      → (b < length seen) × (b + get_or seen b 0 ≡ rank_at values r) × (rank_at values r < max_cabinets)
  seen-rank r b seen l e s =
      let small = below-small r l in
      let own = s.has (below_at values r) small in
      let split = rank_split (value_at values) (length values) r l in
      rw e (
        omega (arith, s.long),
        omega arith,
        omega (arith, rank-small (value_at values) (length values) r l),
      )

  -- one more is seen
  pub seen_next :
      (r b : ℕ) (seen : List ℕ) → r < length values → b ≡ below_at values r → Seen values r seen
      → Seen values (r + 1) (set seen b (get_or seen b 0 + 1))
  seen_next r b seen l e s =
      record {
        long = length-set seen b (get_or seen b 0 + 1) ∙ s.long;
        has = λ h small. go h small (eqb h b) refl;
      }
    where
      room : b < length seen
      room = omega (arith, below-small r l, s.long)

      go :
          (h : ℕ) → h < max_cabinets → (same : Bool) → eqb h b ≡ same
          → get_or (set seen b (get_or seen b 0 + 1)) h 0 ≡ count (λ t. eqb (below_at values t) h) (r + 1)
      go h small true q =
          let here : h ≡ b = eqb-true h b q in
          let own = ap bit (eq-eqb (below_at values r) h (sym e ∙ sym here)) in
          let was = s.has h small in
          let next = count_next (λ t. eqb (below_at values t) h) r in
          let before = ap (λ (i : ℕ). get_or seen i 0) here in
          let now =
          ap (λ (i : ℕ). get_or (set seen b (get_or seen b 0 + 1)) i 0) here
          ∙ get_or-set_same seen b (get_or seen b 0 + 1) 0 room in
          omega arith
      go h small false q =
          let other = eqb-false h b q in
          let own = ap bit (ne_eqb (below_at values r) h (λ z. other (sym z ∙ sym e))) in
          let was = s.has h small in
          let next = count_next (λ t. eqb (below_at values t) h) r in
          let now = get_or-set_other seen b h (get_or seen b 0 + 1) 0 other in
          omega arith

  -- nothing is seen of none
  pub seen_none : Seen values 0 (replicate max_cabinets 0)
  unfolding count
  seen_none = record { long = refl; has = λ h small. zeroes max_cabinets h }
    where
      zeroes : (k h : ℕ) → ◌≡◌ {A = ℕ} (get_or (replicate k 0) h 0) 0
      zeroes zero h = refl
      zeroes (suc k) zero = refl
      zeroes (suc k) (suc h) = zeroes k h

-- ---- the loop over the numbers

-- r of them are ranked
pub record Ranking (values ranks₀ seen ranks : List ℕ) (r : ℕ) : Type 0 where
  pub few : length values ≤ max_cabinets
  pub has : Seen values r seen
  pub stores : Storing (rank_at values) (length values) ranks₀ ranks r

pub ranking_none :
    (values ranks₀ seen : List ℕ) → length values ≤ max_cabinets → length values ≤ length ranks₀ → Seen values 0 seen
    → Ranking values ranks₀ seen ranks₀ 0
ranking_none values ranks₀ seen few room s =
    record { few = few; has = s; stores = storing_none (rank_at values) (length values) ranks₀ room }

module _ {values ranks₀ seen ranks : List ℕ} {r : ℕ} (k : Ranking values ranks₀ seen ranks r) where
  module _ (here : r < length values) {b : ℕ} (counts : Some b ≡ below_of values (value_at values r)) where
    counted : b ≡ below_at values r
    counted = below-some values (value_at values r) k.few counts

    -- what is read and written fits
    pub found : (b < length seen) × (b + get_or seen b 0 ≡ rank_at values r) × (rank_at values r < max_cabinets)
    found = seen-rank values k.few r b seen here counted k.has

    pub ranking_next :
        Ranking values ranks₀ (set seen b (get_or seen b 0 + 1)) (set ranks r (b + get_or seen b 0)) (r + 1)
    ranking_next =
        record {
          few = k.few;
          has = seen_next values k.few r b seen here counted k.has;
          stores =
              storing_next (rank_at values) (length values) ranks₀ ranks r k.stores here (b + get_or seen b 0)
              found.1;
        }
