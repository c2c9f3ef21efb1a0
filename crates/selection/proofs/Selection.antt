-- The number h from below among those that a test admits, found by counting. What fits is one number, whichever index
-- has it; the lowest number is the first, and the highest the last.
-- Assumes nothing.
use mathlib.Core.Bool.{Bool, true, false, ◌&&◌}
use mathlib.Core.Logic.{◌⊎◌, ⊎_elim}
use mathlib.Core.Path.{◌≡◌, refl, sym, ap, ◌∙◌}
use Prim.Native.Nat.{ℕ, zero, suc, ◌≤◌, ◌<◌}
use native.Mathlib.Nat.{le_refl, le_trans, lt_of_le_of_lt, not-suc-le-zero, eq-zero-or-pos}
use native.Mathlib.Omega.{arith}
use borrow.Author.Tests.{lt-ltb, le-ltb, le-leb, lt-leb, ltb-true, leb-true, leb-false}
use lib.Dec.{leb, ltb}
use Rattle.arithmetic.specs.Counting.{bit, count}
use Rattle.arithmetic.proofs.Bools.{clash, and_left, and_right, and_intro, and_false}
use Rattle.arithmetic.proofs.Counting.{initial, last, split-last, bit_le, count_mono, count-pos, count-some}
use Rattle.arithmetic.proofs.Counting.{lowest-none, lowest-cases}
use Rattle.round_laws.specs.Naturals.{nat_at, is_numbered, numbered_nat}

-- a test that passes wherever another does, and once more, is counted more often
count_less :
    (p q : ℕ → Bool) (n i : ℕ)
    → i < n
    → p i ≡ false
    → q i ≡ true
    → ((j : ℕ) → j < n → p j ≡ true → q j ≡ true)
    → count p n < count q n
unfolding count
count_less p q zero i h a b f = absurd (not-suc-le-zero h)
count_less p q (suc n) i h a b f =
    ⊎_elim
    (λ l. let ih = count_less p q n i l a b (initial f) in omega (arith, bit_le (p n) (q n) (last f)))
    (λ e.
    let c = count_mono p q n (initial f) in
    let u : bit (p n) ≡ 0 = ap bit (ap p (sym e) ∙ a) in
    let v : bit (q n) ≡ 1 = ap bit (ap q (sym e) ∙ b) in
    omega arith)
    (split-last i n h)

module _ (acc : ℕ → Bool) (n : ℕ) (x : ℕ → ℕ) where
  -- how many are below v, and at or below it
  abbrev pub under : ℕ → ℕ
  under v = count (λ s. acc s && ltb (x s) v) n

  abbrev pub up_to : ℕ → ℕ
  up_to v = count (λ s. acc s && leb (x s) v) n

  under_mono : (a b : ℕ) → a ≤ b → under a ≤ under b
  under_mono a b l =
      count_mono (λ s. acc s && ltb (x s) a) (λ s. acc s && ltb (x s) b) n
      (λ s _ e.
      let h = ltb-true (x s) a (and_right (acc s) (ltb (x s) a) e) in
      and_intro (and_left (acc s) (ltb (x s) a) e) (lt-ltb (x s) b (omega arith)))

  up_to_mono : (a b : ℕ) → a ≤ b → up_to a ≤ up_to b
  up_to_mono a b l =
      count_mono (λ s. acc s && leb (x s) a) (λ s. acc s && leb (x s) b) n
      (λ s _ e.
      let h = leb-true (x s) a (and_right (acc s) (leb (x s) a) e) in
      and_intro (and_left (acc s) (leb (x s) a) e) (le-leb (x s) b (omega arith)))

  up_to-under : (a b : ℕ) → a < b → up_to a ≤ under b
  up_to-under a b l =
      count_mono (λ s. acc s && leb (x s) a) (λ s. acc s && ltb (x s) b) n
      (λ s _ e.
      let h = leb-true (x s) a (and_right (acc s) (leb (x s) a) e) in
      and_intro (and_left (acc s) (leb (x s) a) e) (lt-ltb (x s) b (omega arith)))

  module _ (h : ℕ) where
    pub numbered_intro : (r : ℕ) → acc r ≡ true → h ≤ up_to (x r) → under (x r) < h → is_numbered acc n x h r ≡ true
    numbered_intro r a l m = and_intro a (and_intro (le-leb h (up_to (x r)) l) (lt-ltb (under (x r)) h m))

    numbered-up_to : (r : ℕ) → is_numbered acc n x h r ≡ true → h ≤ up_to (x r)
    numbered-up_to r e = leb-true h _ (and_left (leb h (up_to (x r))) _ (and_right (acc r) _ e))

    numbered-under : (r : ℕ) → is_numbered acc n x h r ≡ true → under (x r) < h
    numbered-under r e = ltb-true _ h (and_right (leb h (up_to (x r))) _ (and_right (acc r) _ e))

    -- a number that is too low, or too high, does not fit, and neither does one beyond it
    pub too_low : (v j : ℕ) → x j ≤ v → up_to v < h → is_numbered acc n x h j ≡ false
    too_low v j l m =
        and_false (acc j)
        (ap (λ (b : Bool). b && ltb (under (x j)) h) (lt-leb h (up_to (x j)) (lt_of_le_of_lt (up_to_mono (x j) v l) m)))

    pub too_high : (v j : ℕ) → v ≤ x j → h ≤ under v → is_numbered acc n x h j ≡ false
    too_high v j l m =
        and_false (acc j) (and_false (leb h (up_to (x j))) (le-ltb (under (x j)) h (le_trans m (under_mono v (x j) l))))

    not-above : (i j : ℕ) → is_numbered acc n x h i ≡ true → is_numbered acc n x h j ≡ true → x i < x j → ⊥
    not-above i j e f l =
        omega (arith, numbered-up_to i e, up_to-under (x i) (x j) l, numbered-under j f)

    -- two indices that fit have the same number
    pub numbered-one : (i j : ℕ) → is_numbered acc n x h i ≡ true → is_numbered acc n x h j ≡ true → x i ≡ x j
    numbered-one i j e f = go (leb (x i) (x j)) (leb (x j) (x i)) refl refl
      where
        go : (a b : Bool) → leb (x i) (x j) ≡ a → leb (x j) (x i) ≡ b → x i ≡ x j
        go true true p q = omega (arith, leb-true (x i) (x j) p, leb-true (x j) (x i) q)
        go true false p q = absurd (not-above i j e f (leb-false (x j) (x i) q))
        go false b p q = absurd (not-above j i f e (leb-false (x i) (x j) p))

    -- the number that fits
    pub numbered-value : (k r : ℕ) → r < n → is_numbered acc n x h r ≡ true → numbered_nat k acc n x h ≡ x r
    unfolding numbered_nat
    numbered-value k r l e =
        ⊎_elim
        (λ f. ap (nat_at k x) f.1 ∙ numbered-one f.0 r f.2.passes e)
        (λ f. clash e (f.1 r l))
        (lowest-cases (is_numbered acc n x h) n)

    pub numbered-none : (k : ℕ) → ((j : ℕ) → j < n → is_numbered acc n x h j ≡ false) → numbered_nat k acc n x h ≡ k
    unfolding numbered_nat
    numbered-none k f = ap (nat_at k x) (lowest-none (is_numbered acc n x h) n f)

  -- where r has the lowest number, it is the first
  pub lowest-first :
      (k r : ℕ)
      → r < n
      → acc r ≡ true
      → ((j : ℕ) → j < n → acc j ≡ true → x r ≤ x j)
      → numbered_nat k acc n x 1 ≡ x r
  lowest-first k r l a f =
      numbered-value 1 k r l
      (numbered_intro 1 r a
      (count-pos (λ s. acc s && leb (x s) (x r)) n r l (and_intro a (le-leb (x r) (x r) (le_refl (x r)))))
      (none_below (eq-zero-or-pos (under (x r)))))
    where
      none_below : (under (x r) ≡ 0) ⊎ (0 < under (x r)) → under (x r) < 1
      none_below z =
          ⊎_elim
          (λ e. omega arith)
          (λ c.
          let s = count-some (λ s. acc s && ltb (x s) (x r)) n c in
          let p = and_left (acc s.0) _ s.2 in
          let q = ltb-true (x s.0) (x r) (and_right (acc s.0) _ s.2) in
          absurd (omega (arith, f s.0 s.1 p)))
          z

  -- where r has the highest number, it is the last
  pub highest-last :
      (k r : ℕ)
      → r < n
      → acc r ≡ true
      → ((j : ℕ) → j < n → acc j ≡ true → x j ≤ x r)
      → numbered_nat k acc n x (count acc n) ≡ x r
  highest-last k r l a f =
      numbered-value (count acc n) k r l
      (numbered_intro (count acc n) r a
      (count_mono acc (λ s. acc s && leb (x s) (x r)) n (λ s m e. and_intro e (le-leb (x s) (x r) (f s m e))))
      fewer)
    where
      -- r itself is not below itself
      fewer : under (x r) < count acc n
      fewer =
          count_less (λ s. acc s && ltb (x s) (x r)) acc n r l
          (and_false (acc r) (le-ltb (x r) (x r) (le_refl (x r))))
          a
          (λ s _ e. and_left (acc s) (ltb (x s) (x r)) e)
