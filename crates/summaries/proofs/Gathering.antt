-- The pass over the readings, index by index.
--   LowSoFar low t     low is at or below every reading passed, and is one of them, or the highest number
--   HighSoFar high t   high is at or above every reading passed, and is one of them, or 0
--   SoFar              the count, 32 bits of the sum, the lowest and the highest of the readings passed
-- Assumes nothing.
use Rattle.std.proofs.Common.{◌≡◌, ℕ, ◌+◌, ◌-◌, ◌*◌, ◌%◌, ◌<◌, ◌≤◌, min, max, Bool, true, false, cond, leb, ◌⊎◌, List, length, sym, refl, ap, ◌∙◌, inl, inr, ⊎_elim, zero-le, not-suc-le-zero, add-zero, arith, below_more, leb-false, leb-true}
use native.Mathlib.Nat.{mod-add-mod, min-le_left, min-eq_right, le-max_right, max-eq_left}
use Rattle.arithmetic.proofs.Bools.{both_ways, clash}
use Rattle.arithmetic.specs.Counting.{bit}
use Rattle.arithmetic.proofs.Counting.{count-some}
use Rattle.arithmetic.proofs.Sums.{total_ext, total_mono, total_add, total_scale, count-total}
use Rattle.arithmetic.specs.Naturals.{total}
use Rattle.arithmetic.specs.Words.{two_to32}
use Rattle.loop_laws.proofs.Loops.{Counts, count_none, count-one, count-all, total-next}
use Rattle.held.specs.Held.{present_in, value_at}
use Rattle.summaries.specs.Summaries.{present_count, used_at, distance_at, Taken, OnePass}

module _ (marks values : List ℕ) where
  abbrev pub AtMost : ℕ → ℕ → Type 0
  AtMost low j = present_in marks j ≡ true → low ≤ value_at values j

  abbrev pub AtLeast : ℕ → ℕ → Type 0
  AtLeast high j = present_in marks j ≡ true → value_at values j ≤ high

  pub record LowSoFar (low t : ℕ) : Type 0 where
    pub most : (j : ℕ) → j < t → AtMost low j
    pub at : (low ≡ two_to32 - 1) ⊎ Taken marks values low

  least-none : LowSoFar (two_to32 - 1) 0
  least-none = record { most = λ j l. absurd (not-suc-le-zero l); at = inl refl }

  module _ (low t : ℕ) (so_far : LowSoFar low t) where
    least-keep : present_in marks t ≡ false → LowSoFar low (t + 1)
    least-keep m = record { most = below_more (AtMost low) t so_far.most (λ p. clash p m); at = so_far.at }

    least-next : t < length marks → present_in marks t ≡ true → LowSoFar (min (value_at values t) low) (t + 1)
    least-next room p =
        let v = value_at values t in
        record {
          most =
              below_more (AtMost (min v low)) t (λ j k q. omega (arith, so_far.most j k q))
              (λ _. min-le_left v low);
          at =
              ⊎_elim
              (λ e. let l = leb-true v low e in inr (t, room, p, omega arith))
              (λ e. let l = leb-false v low e in rw (min-eq_right {n = low} {m = v} (omega arith)) so_far.at)
              (both_ways (leb v low));
        }

  pub record HighSoFar (high t : ℕ) : Type 0 where
    pub most : (j : ℕ) → j < t → AtLeast high j
    pub at : (high ≡ 0) ⊎ Taken marks values high

  greatest-none : HighSoFar 0 0
  greatest-none = record { most = λ j l. absurd (not-suc-le-zero l); at = inl refl }

  module _ (high t : ℕ) (so_far : HighSoFar high t) where
    greatest-keep : present_in marks t ≡ false → HighSoFar high (t + 1)
    greatest-keep m = record { most = below_more (AtLeast high) t so_far.most (λ p. clash p m); at = so_far.at }

    greatest-next : t < length marks → present_in marks t ≡ true → HighSoFar (max high (value_at values t)) (t + 1)
    greatest-next room p =
        let v = value_at values t in
        record {
          most =
              below_more (AtLeast (max high v)) t (λ j k q. omega (arith, so_far.most j k q))
              (λ _. le-max_right high v);
          at =
              ⊎_elim
              (λ e. let l = leb-true high v e in inr (t, room, p, omega arith))
              (λ e. let l = leb-false high v e in rw (max-eq_left {n = high} {m = v} (omega arith)) so_far.at)
              (both_ways (leb high v));
        }

  pub record SoFar (n a low high t : ℕ) : Type 0 where
    pub counts : Counts (present_in marks) (length marks) n t
    pub sums : a ≡ total (used_at marks values 0) t % two_to32
    pub least : LowSoFar low t
    pub greatest : HighSoFar high t

  pub gather_none : SoFar 0 0 (two_to32 - 1) 0 0
  unfolding total
  gather_none =
      record {
        counts = count_none (present_in marks) (length marks);
        sums = refl;
        least = least-none;
        greatest = greatest-none;
      }

  module _ (n a low high t : ℕ) (so_far : SoFar n a low high t) where
    module _ (room : t < length marks) where
      pub gather_present :
          present_in marks t ≡ true
          → (s x y : ℕ)
          → s ≡ (a + value_at values t) % two_to32
          → x ≡ min (value_at values t) low
          → y ≡ max high (value_at values t)
          → SoFar (n + 1) s x y (t + 1)
      gather_present p s x y d e f =
          record {
            counts = rw p at (count-one (present_in marks) (length marks) so_far.counts room);
            sums =
                d
                ∙ ap (λ (k : ℕ). (k + value_at values t) % two_to32) so_far.sums
                ∙ mod-add-mod (total (used_at marks values 0) t) two_to32 (value_at values t)
                ∙ ap (λ (k : ℕ). k % two_to32) (sym (next (value_at values t) (rw p)));
            least = rw e (least-next low t so_far.least room p);
            greatest = rw f (greatest-next high t so_far.greatest room p);
          }
        where
          next :
              (v : ℕ) → used_at marks values 0 t ≡ v
              → total (used_at marks values 0) (t + 1) ≡ total (used_at marks values 0) t + v
          next v u = total-next (used_at marks values 0) t ∙ ap (λ (k : ℕ). total (used_at marks values 0) t + k) u

      pub gather_missing : present_in marks t ≡ false → SoFar n a low high (t + 1)
      gather_missing m =
          record {
            counts = rw (m, add-zero n) at (count-one (present_in marks) (length marks) so_far.counts room);
            sums = so_far.sums ∙ ap (λ (k : ℕ). k % two_to32) (sym same);
            least = least-keep low t so_far.least m;
            greatest = greatest-keep high t so_far.greatest m;
          }
        where
          same : total (used_at marks values 0) (t + 1) ≡ total (used_at marks values 0) t
          same = total-next (used_at marks values 0) t ∙ rw (m, add-zero (total (used_at marks values 0) t))

    -- a number of 32 bits stands for each
    module _ (small : (j : ℕ) → value_at values j < two_to32) (ended : length marks ≤ t) where
      low-found : 0 < present_count marks → Taken marks values low
      low-found some = ⊎_elim top_taken (λ w. w) so_far.least.at
        where
          top_taken : low ≡ two_to32 - 1 → Taken marks values low
          top_taken e =
              let one = count-some (present_in marks) (length marks) some in
              let m = so_far.least.most one.0 (omega (arith, one.1)) one.2 in
              (one.0, one.1, one.2, omega (arith, small one.0))

      high-found : 0 < present_count marks → Taken marks values high
      high-found some = ⊎_elim zero-taken (λ w. w) so_far.greatest.at
        where
          zero-taken : high ≡ 0 → Taken marks values high
          zero-taken e =
              let one = count-some (present_in marks) (length marks) some in
              let m = so_far.greatest.most one.0 (omega (arith, one.1)) one.2 in
              (one.0, one.1, one.2, omega arith)

      pub gather_all : OnePass (record { count = n; total = a; low = low; high = high }) marks values
      gather_all =
          let all : t ≡ length marks = omega (arith, so_far.counts.up_to) in
          record {
            counted = count-all (present_in marks) (length marks) so_far.counts ended;
            added = so_far.sums ∙ ap (λ (k : ℕ). total (used_at marks values 0) k % two_to32) all;
            least = λ j l. so_far.least.most j (omega arith);
            greatest = λ j l. so_far.greatest.most j (omega arith);
            low-taken = low-found;
            high_taken = high-found;
          }

  -- ---- the distances from the lowest

  module _ (low high : ℕ)
      (least : (j : ℕ) → j < length marks → present_in marks j ≡ true → low ≤ value_at values j)
      (greatest : (j : ℕ) → j < length marks → present_in marks j ≡ true → value_at values j ≤ high) where
    scaled : (k : ℕ) → total (λ i. bit (present_in marks i) * k) (length marks) ≡ present_count marks * k
    scaled k =
        total_scale (λ i. bit (present_in marks i)) k (length marks)
        ∙ ap (λ (c : ℕ). c * k) (sym (count-total (present_in marks) (length marks)))

    -- each is at most the widest
    pub distances_small : total (distance_at marks values low) (length marks) ≤ present_count marks * (high - low)
    distances_small =
        omega (
          arith,
          total_mono (distance_at marks values low) (λ i. bit (present_in marks i) * (high - low)) (length marks)
              (λ i l. one (present_in marks i) (value_at values i) (greatest i l)),
          scaled (high - low),
        )
      where
        one : (b : Bool) (v : ℕ) → (b ≡ true → v ≤ high) → cond b (v - low) 0 ≤ bit b * (high - low)
        one true v h = omega (arith, h refl)
        one false v h = zero-le

    -- the numbers of the present readings add up to their distances, and the lowest for each
    pub numbers-sum :
        total (used_at marks values 0) (length marks)
        ≡ total (distance_at marks values low) (length marks) + present_count marks * low
    numbers-sum =
        total_ext (used_at marks values 0) (λ i. distance_at marks values low i + bit (present_in marks i) * low)
        (length marks)
        (λ i l. one (present_in marks i) (value_at values i) (least i l))
        ∙ total_add (distance_at marks values low) (λ i. bit (present_in marks i) * low) (length marks)
        ∙ ap (λ (k : ℕ). total (distance_at marks values low) (length marks) + k) (scaled low)
      where
        one : (b : Bool) (v : ℕ) → (b ≡ true → low ≤ v) → cond b v 0 ≡ cond b (v - low) 0 + bit b * low
        one true v h = omega (arith, h refl)
        one false v h = omega arith
