-- The number h from below among those that a test admits is there for every h from 1 to their count, without a sort:
-- it is the least at or below which h of them stand.
--   Numbered acc n x h e       e is the number of an index that acc admits, h of them are at or below it, and fewer
--                              below it
-- Assumes nothing.
use mathlib.Core.Bool.{Bool, true, ◌&&◌}
use mathlib.Core.Logic.{⊎_elim}
use mathlib.Core.Path.{◌≡◌, refl, ap}
use Prim.Native.Nat.{ℕ, ◌≤◌, ◌<◌}
use native.Mathlib.Nat.{le_trans}
use native.Mathlib.Omega.{arith}
use lib.Dec.{leb, ltb}
use borrow.Author.Tests.{le-leb, leb-true, lt-ltb, ltb-true, ltb-false}
use Rattle.arithmetic.specs.Counting.{count, lowest}
use Rattle.arithmetic.proofs.Bools.{both_ways, clash, and_left, and_right, and_intro}
use Rattle.arithmetic.proofs.Counting.{count_mono, count-pos, lowest-cases}
use Rattle.round_laws.specs.Naturals.{nat_at, is_numbered, numbered_nat}
use Rattle.value_laws.proofs.Extremes.{LeastOf, GreatestOf, least, greatest}

pub record Numbered (acc : ℕ → Bool) (n : ℕ) (x : ℕ → ℕ) (h e : ℕ) : Type 0 where
  pub index : ℕ
  pub in_range : index < n
  pub admitted : acc index ≡ true
  pub number : e ≡ x index
  pub at_or_below : h ≤ count (λ s. acc s && leb (x s) e) n
  pub below : count (λ s. acc s && ltb (x s) e) n < h

module _ (acc : ℕ → Bool) (n : ℕ) (x : ℕ → ℕ) (h : ℕ) where
  -- r's number has h admitted ones at or below it
  enough : ℕ → Bool
  enough r = acc r && leb h (count (λ s. acc s && leb (x s) (x r)) n)

  enough_intro : (r : ℕ) → acc r ≡ true → h ≤ count (λ s. acc s && leb (x s) (x r)) n → enough r ≡ true
  unfolding enough
  enough_intro r a l = and_intro a (le-leb h _ l)

  enough-acc : (r : ℕ) → enough r ≡ true → acc r ≡ true
  unfolding enough
  enough-acc r e = and_left (acc r) (leb h (count (λ s. acc s && leb (x s) (x r)) n)) e

  enough-count : (r : ℕ) → enough r ≡ true → h ≤ count (λ s. acc s && leb (x s) (x r)) n
  unfolding enough
  enough-count r e = leb-true h _ (and_right (acc r) (leb h (count (λ s. acc s && leb (x s) (x r)) n)) e)

  -- below the least of those fewer than h stand: the greatest of h or more below it would have h at or below it too
  fewer : (r : LeastOf enough x n) → 0 < h → count (λ s. acc s && ltb (x s) (x r.index)) n < h
  fewer r some-h = ⊎_elim (λ t. ltb-true _ h t) (λ f. absurd (impossible (ltb-false _ h f))) (both_ways (ltb _ h))
    where
      under : ℕ → Bool
      under s = acc s && ltb (x s) (x r.index)

      under-acc : (s : ℕ) → under s ≡ true → acc s ≡ true
      under-acc s e = and_left (acc s) (ltb (x s) (x r.index)) e

      under-less : (s : ℕ) → under s ≡ true → x s < x r.index
      under-less s e = ltb-true (x s) (x r.index) (and_right (acc s) (ltb (x s) (x r.index)) e)

      as_many : (top : GreatestOf under x n) → count under n ≤ count (λ s. acc s && leb (x s) (x top.index)) n
      as_many top =
          count_mono under (λ s. acc s && leb (x s) (x top.index)) n
          (λ s l e. and_intro (under-acc s e) (le-leb (x s) (x top.index) (top.first s l e)))

      impossible : h ≤ count under n → ⊥
      impossible l =
          let top = greatest under x n (omega arith) in
          let a = under-acc top.index top.passes in
          let z = r.first top.index top.in_range (enough_intro top.index a (le_trans l (as_many top))) in
          omega (arith, under-less top.index top.passes)

  module _ (some-h : 0 < h) (most : h ≤ count acc n) where
    -- the highest admitted number has all of them at or below it
    any-enough : 0 < count enough n
    any-enough =
        let hi = greatest acc x n (omega arith) in
        let c = count_mono acc (λ s. acc s && leb (x s) (x hi.index)) n
        (λ s l a. and_intro a (le-leb _ _ (hi.first s l a))) in
        count-pos enough n hi.index hi.in_range (enough_intro hi.index hi.passes (le_trans most c))

    first-enough : LeastOf enough x n
    first-enough = least enough x n any-enough

    pub numbered_exists : (r : ℕ) × (r < n) × (is_numbered acc n x h r ≡ true)
    numbered_exists = (
      first-enough.index,
      first-enough.in_range,
      and_intro
          (enough-acc _ first-enough.passes)
          (and_intro (le-leb h _ (enough-count _ first-enough.passes)) (lt-ltb _ h (fewer first-enough some-h))),
    )

    pub numbered-found : (k : ℕ) → Numbered acc n x h (numbered_nat k acc n x h)
    unfolding numbered_nat
    numbered-found k =
        ⊎_elim
        (λ f. of f.0 f.2.in_range f.2.passes (ap (nat_at k x) f.1))
        (λ f. clash numbered_exists.2 (f.1 numbered_exists.0 numbered_exists.1))
        (lowest-cases (is_numbered acc n x h) n)
      where
        of :
            (r : ℕ) → r < n → is_numbered acc n x h r ≡ true → nat_at k x (lowest (is_numbered acc n x h) n) ≡ x r
            → Numbered acc n x h (nat_at k x (lowest (is_numbered acc n x h) n))
        of r l e q =
            let rest = and_right (acc r) _ e in
            rw q
            (record {
              index = r;
              in_range = l;
              admitted = and_left (acc r) _ e;
              number = refl;
              at_or_below = leb-true h _ (and_left (leb h _) (ltb _ h) rest);
              below = ltb-true _ h (and_right (leb h _) (ltb _ h) rest);
            })
