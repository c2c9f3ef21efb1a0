-- The majority vote of Boyer and Moore: one pass over the copies keeps a candidate c and a counter k, and a value that more than half of
-- the copies hold is the candidate at the end. `holds v t` says whether the copy t holds the value v; a missing copy holds none.
-- Assumes nothing.
use mathlib.Core.Bool.{Bool, true, false}
use mathlib.Core.Logic.{◌⊎◌, ⊎_elim}
use mathlib.Core.Path.{◌≡◌, ap}
use Prim.Native.Nat.{ℕ, ◌+◌, ◌*◌, ◌-◌, ◌≤◌, ◌<◌}
use native.Mathlib.Omega.{arith}
use Rattle.arithmetic.specs.Counting.{bit, count}
use Rattle.arithmetic.proofs.Bools.{not-true-false}
use Rattle.arithmetic.proofs.Counting.{bit-le-one}
use Rattle.loop_laws.proofs.Loops.{count_next}
use Rattle.decisions.specs.Majority.{Candidate}

module _ {A : Type 0} (holds : A → ℕ → Bool) where
  -- the count of a value after one copy more
  passed : (v : A) (i : ℕ) → holds v i ≡ false → count (holds v) (i + 1) ≡ count (holds v) i
  passed v i e =
      let b : bit (holds v i) ≡ 0 = ap bit e in
      let next = count_next (holds v) i in
      omega arith

  at_most : (v : A) (i : ℕ) → count (holds v) (i + 1) ≤ count (holds v) i + 1
  at_most v i =
      let b = bit-le-one (holds v i) in
      let next = count_next (holds v) i in
      omega arith

  -- no copy is passed
  pub candidate_begin : (c : A) → Candidate holds c 0 0
  unfolding count
  candidate_begin c = record { bounded = omega arith; others = λ v d. omega arith; own = omega arith }

  module _ (c : A) (k i : ℕ) (w : Candidate holds c k i) where
    -- a copy that does not hold the candidate, and the counter is above 0
    pub candidate_lower : 0 < k → holds c i ≡ false → Candidate holds c (k - 1) (i + 1)
    candidate_lower h e =
        record {
          bounded = omega (arith, w.bounded);
          others = λ v d. omega (arith, w.others v d, at_most v i);
          own = omega (arith, w.own, passed c i e);
        }

    -- a missing copy, and the counter is 0
    pub candidate_keep : k ≡ 0 → ((v : A) → holds v i ≡ false) → Candidate holds c k (i + 1)
    candidate_keep z f =
        record {
          bounded = omega (arith, w.bounded);
          others = λ v d. omega (arith, w.others v d, passed v i (f v));
          own = omega (arith, w.own, passed c i (f c));
        }

    module _ (unique : (u v : A) (t : ℕ) → holds u t ≡ true → holds v t ≡ true → u ≡ v) where
      other : (u v : A) → (v ≡ u → ⊥) → holds u i ≡ true → holds v i ≡ false
      other u v d e = not-true-false (holds v i) (λ q. d (unique v u i q e))

      -- a copy that holds the candidate
      pub candidate_raise : holds c i ≡ true → Candidate holds c (k + 1) (i + 1)
      candidate_raise e =
          record {
            bounded = omega (arith, w.bounded);
            others = λ v d. omega (arith, w.others v d, passed v i (other c v d e));
            own = omega (arith, w.own, at_most c i);
          }

      module _ (equal : (u v : A) → (u ≡ v) ⊎ (u ≡ v → ⊥)) where
        -- a present copy, and the counter is 0: its value is the candidate
        pub candidate_replace : (u : A) → k ≡ 0 → holds u i ≡ true → Candidate holds u 1 (i + 1)
        candidate_replace u z e =
            record {
              bounded = omega arith;
              others = λ v d. omega (arith, before v, passed v i (other u v d e));
              own = omega (arith, before u, at_most u i);
            }
          where
            before : (v : A) → 2 * count (holds v) i ≤ i
            before v = ⊎_elim (λ q. rw q (omega (arith, w.own))) (λ d. omega (arith, w.others v d)) (equal v c)

    -- a value that more than half of the copies hold is the candidate
    pub majority : ((u v : A) → (u ≡ v) ⊎ (u ≡ v → ⊥)) → (v : A) → i < 2 * count (holds v) i → v ≡ c
    majority equal v h = ⊎_elim (λ q. q) (λ d. absurd (omega (arith, w.others v d))) (equal v c)
