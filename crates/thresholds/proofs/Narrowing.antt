-- The lowest and the highest number, gathered index by index, and the search for a threshold in a range that is narrowed.
--   Bounding values low high t        no number below index t is below low, or above high
--   Narrowing values k r below within   so many numbers are below the start of range r, at most k, and so many at most
--                                     its end, more than k, or all
-- Assumes nothing.
use mathlib.Core.Bool.{Bool, true, false, not, cond, ◌&&◌}
use mathlib.Core.List.{List}
use mathlib.Core.Logic.{◌⊎◌, inr, ⊎_elim}
use mathlib.Core.Path.{◌≡◌, refl, sym, ap, ◌∙◌}
use Prim.Native.Nat.{ℕ, zero, suc, ◌+◌, ◌*◌, ◌-◌, ◌/◌, min, max, ◌≤◌, ◌<◌}
use native.Mathlib.Nat.{mul-le-mul}
use native.Mathlib.Omega.{arith}
use borrow.Author.Count.{below_more}
use borrow.Author.Tests.{lt-ltb, le-ltb, le-leb, ltb-true, ltb-false, leb-true, leb-false, eqb-true}
use lib.Dec.{ltb, leb, eqb}
use lib.ListN.{length}
use Rattle.arithmetic.proofs.Bools.{both_ways, clash, and_intro, and_left, or_left, or_right, iff_eq}
use Rattle.arithmetic.proofs.Counting.{initial, last, count_ext, count-le, count-not}
use Rattle.std.specs.Prelude.{Some}
use Rattle.arithmetic.specs.Counting.{bit, count}
use Rattle.arithmetic.specs.Words.{two_to32}
use Rattle.model.specs.Ensemble.{max_cabinets}
use Rattle.held.specs.Held.{value_at}
use Rattle.ranks.specs.Ranks.{below_number, below_of}
use Rattle.ranks.proofs.Seeing.{below-some}
use Rattle.thresholds.specs.declared.Range.{Range}
use Rattle.thresholds.specs.Thresholds.{up_to_number, Taken, Bounds, Splits, misfit, max_unit, guessed}

-- where all fail, none is counted
pub none-counted : (p : ℕ → Bool) (n : ℕ) → ((i : ℕ) → i < n → p i ≡ false) → count p n ≡ 0
unfolding count
none-counted p zero f = refl
none-counted p (suc n) f = omega (arith, none-counted p n (initial f), ap bit (last f))

-- above the start of a range, and no higher than its end
pub record Inside (r : Range) (v : ℕ) : Type 0 where
  pub above : r.low < v
  pub up_to : v ≤ r.high

module _ (values : List ℕ) where
  -- ---- the lowest and the highest

  pub record Bounding (low high t : ℕ) : Type 0 where
    pub up_to : t ≤ length values
    pub least : (j : ℕ) → j < t → low ≤ value_at values j
    pub greatest : (j : ℕ) → j < t → value_at values j ≤ high
    pub low_from : (low ≡ two_to32 - 1) ⊎ Taken values low
    pub high_from : (high ≡ 0) ⊎ Taken values high

module _ {values : List ℕ} where
  module _ {low high t : ℕ} (so_far : Bounding values low high t) where
    pub bound_next :
        {x y : ℕ} → t < length values → x ≡ min low (value_at values t) → y ≡ max high (value_at values t)
        → Bounding values x y (t + 1)
    bound_next {x} {y} room d e =
        record {
          up_to = omega arith;
          least =
              below_more (λ (j : ℕ). x ≤ value_at values j) t (λ j l. omega (arith, so_far.least j l)) (omega arith);
          greatest =
              below_more (λ (j : ℕ). value_at values j ≤ y) t (λ j l. omega (arith, so_far.greatest j l)) (omega arith);
          low_from =
              ⊎_elim (λ p. inr (t, room, omega (arith, leb-true (value_at values t) low p)))
              (λ p. rw (kept_low p) so_far.low_from)
              (both_ways (leb (value_at values t) low));
          high_from =
              ⊎_elim (λ p. inr (t, room, omega (arith, leb-true high (value_at values t) p)))
              (λ p. rw (kept_high p) so_far.high_from)
              (both_ways (leb high (value_at values t)));
        }
      where
        kept_low : leb (value_at values t) low ≡ false → x ≡ low
        kept_low p = omega (arith, d, leb-false (value_at values t) low p)

        kept_high : leb high (value_at values t) ≡ false → y ≡ high
        kept_high p = omega (arith, e, leb-false high (value_at values t) p)

module _ (values : List ℕ) where
  pub bounds-ordered : (r : Range) → Bounds values r → r.low ≤ r.high
  bounds-ordered r b =
      let taken = b.low_taken in omega (arith, taken.2, b.greatest taken.0 taken.1)

  -- ---- the threshold

  -- those below a number are those that are at most the one before it
  up-to-before : (v : ℕ) → 0 < v → up_to_number values (v - 1) ≡ below_number values v
  up-to-before v some =
      count_ext (λ t. leb (value_at values t) (v - 1)) (λ t. ltb (value_at values t) v) (length values)
      (λ t _.
      let x = value_at values t in
      iff_eq (leb x (v - 1)) (ltb x v)
      (λ e. lt-ltb x v (omega (arith, leb-true x (v - 1) e)))
      (λ e. le-leb x (v - 1) (omega (arith, ltb-true x v e))))

  pub record Narrowing (k : ℕ) (r : Range) (below within : ℕ) : Type 0 where
    pub ordered : r.low ≤ r.high
    pub counted : below ≡ below_number values r.low
    pub most : below ≤ k
    pub reached : within ≡ up_to_number values r.high
    pub top : min (k + 1) (length values) ≤ within

  pub narrowing_start : (k : ℕ) (r : Range) → Bounds values r → Narrowing k r 0 (length values)
  narrowing_start k r b =
      let n = length values in
      let none =
      none-counted (λ t. ltb (value_at values t) r.low) n (λ t l. le-ltb (value_at values t) r.low (b.least t l)) in
      let no_more =
      none-counted (λ t. not (leb (value_at values t) r.high)) n
      (λ t l. ap not (le-leb (value_at values t) r.high (b.greatest t l))) in
      let all = count-not (λ t. leb (value_at values t) r.high) n in
      record {
        ordered = bounds-ordered r b;
        counted = omega arith;
        most = omega arith;
        reached = omega arith;
        top = omega arith;
      }

module _ {values : List ℕ} {k : ℕ} {r : Range} {below within : ℕ} (so_far : Narrowing values k r below within) where
  -- no more are within than there are
  pub within-most : within ≤ length values
  within-most = omega (arith, so_far.reached, count-le (λ t. leb (value_at values t) r.high) (length values))

  pub within-least : k ≤ length values → k ≤ within
  within-least l = omega (arith, so_far.top)

  module _ (few : length values ≤ max_cabinets) {mid number : ℕ} (inside : Inside r mid)
      (counts : Some number ≡ below_of values mid) where
    -- not too many are below the number
    pub narrowing_up : number ≤ k → Narrowing values k (record { low = mid; high = r.high }) number within
    narrowing_up l =
        record {
          ordered = inside.up_to;
          counted = below-some values mid few counts;
          most = l;
          reached = so_far.reached;
          top = so_far.top;
        }

    -- too many are
    pub narrowing_down : k < number → Narrowing values k (record { low = r.low; high = mid - 1 }) below number
    narrowing_down l =
        let above = inside.above in
        record {
          ordered = omega arith;
          counted = so_far.counted;
          most = so_far.most;
          reached = below-some values mid few counts ∙ sym (up-to-before values mid (omega arith));
          top = omega arith;
        }

  -- the range is one number, or as many are below it as are asked for
  pub narrowing_done :
      (ltb r.low r.high && not (eqb below k)) ≡ false → Splits values k (record { at = r.low; ties = k - below })
  narrowing_done ended =
      record {
        exact = omega (arith, so_far.counted, so_far.most);
        tied = λ some. rw (met some) (omega (arith, so_far.top, so_far.reached));
      }
    where
      closed : ltb r.low r.high ≡ true → k ≤ below
      closed t =
          ⊎_elim (λ e. omega (arith, eqb-true below k e))
          (λ f. clash (and_intro t (ap not f)) ended)
          (both_ways (eqb below k))

      met : 0 < k - below → r.low ≡ r.high
      met some =
          ⊎_elim (λ t. absurd (omega (arith, closed t)))
          (λ f. omega (arith, ltb-false r.low r.high f, so_far.ordered))
          (both_ways (ltb r.low r.high))

-- ---- where to look next

-- a step fits 32 bits
pub step_small :
    (unit left right : ℕ) → unit ≤ max_unit → left + right ≤ max_cabinets → unit * min left right ≤ max_unit * 32
step_small unit left right a b =
    let fewer : min left right ≤ 32 = omega arith in mul-le-mul a fewer

-- it is above the start of the range, and no higher than its end
pub guessed-within : (r : Range) (unit left right : ℕ) → r.low < r.high → Inside r (guessed r unit left right)
unfolding guessed
guessed-within r unit left right wide = go (leb left right)
  where
    go :
        (b : Bool)
        → Inside r
        (cond b (r.low + min (unit * min left right + 1) (r.high - r.low - (r.high - r.low) / 2))
        (r.high - min (unit * min left right) ((r.high - r.low) / 2)))
    go true = record { above = omega arith; up_to = omega arith }
    go false = record { above = omega arith; up_to = omega arith }

-- the range is not one number yet
pub still-wide : (r : Range) (k below : ℕ) → (ltb r.low r.high && not (eqb below k)) ≡ true → r.low < r.high
still-wide r k below test = ltb-true r.low r.high (and_left (ltb r.low r.high) (not (eqb below k)) test)

-- ---- lists that fit

-- of at most 64 numbers some are left
pub fitting : (n m : ℕ) {b : Bool} → b ≡ misfit n m → b ≡ false → (n ≤ max_cabinets) × (2 * m < n)
fitting n m e f =
    let fits = sym e ∙ f in (
      ltb-false max_cabinets n (or_left (ltb max_cabinets n) (leb n (2 * m)) fits),
      leb-false n (2 * m) (or_right (ltb max_cabinets n) (leb n (2 * m)) fits),
    )
