-- Readings are struck out by their ranks, and their numbers are summed: all that are left, and the lowest and the highest
-- of them. These sums are those that the rules ask for.
-- Assumes nothing.
use mathlib.Core.Bool.{Bool, true, false, cond, ◌&&◌}
use mathlib.Core.List.{List}
use mathlib.Core.Path.{◌≡◌, ap, ap₂, ◌∙◌}
use Prim.Native.Nat.{ℕ, ◌+◌, ◌*◌, ◌-◌, ◌≤◌, ◌<◌}
use native.Mathlib.Omega.{arith}
use borrow.Author.Tests.{le-ltb}
use lib.Dec.{leb, ltb, eqb}
use lib.ListN.{length, get_or, set}
use Rattle.arithmetic.specs.Naturals.{total}
use Rattle.arithmetic.specs.Words.{two_to32}
use Rattle.arithmetic.specs.Writing.{table}
use Rattle.arithmetic.proofs.Sums.{total_ext, total_add}
use Rattle.arithmetic.proofs.Writing.{length-table, get_d_table, overwrite-whole}
use Rattle.model.specs.Ensemble.{max_cabinets}
use Rattle.model.specs.RoundSheet.{trimmed_midpoint}
use Rattle.round_laws.specs.Naturals.{rank_nat, kept_nat, ranked_nat, kept-total}
use Rattle.held.specs.Held.{value_at, kept_mark}
use Rattle.ranks.specs.Ranks.{rank_at, ranks_of}
use Rattle.dropping.specs.Dropping.{trimmed_sum}
use Rattle.dropping.proofs.Loops.{Striking, strike_none, strike_one, Summing, summing_none, summing_one}
use Rattle.rank_trimming.specs.Trimming.{between, Ranked}

-- ---- the loop, r of n passed

-- what is added of a number, by its rank
abbrev pub kept_at : List ℕ → List ℕ → ℕ → ℕ → ℕ → ℕ
kept_at ranks numbers low high r = cond (between ranks low high r) (value_at numbers r) 0

abbrev pub end_at : List ℕ → List ℕ → ℕ → ℕ → ℕ → ℕ
end_at ranks numbers low high r =
    cond (eqb (get_or ranks r 0) low) (value_at numbers r) 0 + cond (eqb (get_or ranks r 0) high) (value_at numbers r) 0

pub record Dropping (ranks numbers marks₀ : List ℕ) (m : ℕ) (marks : List ℕ) (sum ends r : ℕ) : Type 0 where
  pub strikes : Striking (between ranks m (length marks₀ - m)) marks₀ marks r
  pub sums : Summing (kept_at ranks numbers m (length marks₀ - m)) (two_to32 - 1) (length marks₀) sum r
  pub sums_ends : Summing (end_at ranks numbers m (length marks₀ - m - 1)) (2 * (two_to32 - 1)) (length marks₀) ends r

module _ {ranks numbers marks₀ : List ℕ} {m : ℕ} where
  pub dropping_none : Dropping ranks numbers marks₀ m marks₀ 0 0 0
  dropping_none = record { strikes = strike_none; sums = summing_none; sums_ends = summing_none }

  module _ {marks : List ℕ} {sum ends r : ℕ} (k : Dropping ranks numbers marks₀ m marks sum ends r)
      (here : r < length marks₀) where
    -- one more
    pub dropping_one :
        {x y z v : ℕ} → x ≡ kept_mark (between ranks m (length marks₀ - m) r) (get_or marks r 0)
        → (y ≡ kept_at ranks numbers m (length marks₀ - m) r) × (y < two_to32)
        → (z ≡ cond (eqb (get_or ranks r 0) m) (value_at numbers r) 0) × (z < two_to32)
        → (v ≡ cond (eqb (get_or ranks r 0) (length marks₀ - m - 1)) (value_at numbers r) 0) × (v < two_to32)
        → Dropping ranks numbers marks₀ m (set marks r x) (sum + y) (ends + (z + v)) (r + 1)
    dropping_one ex ey ez ev =
        record {
          strikes = strike_one k.strikes here ex;
          sums = summing_one k.sums here ey.0 (omega (arith, ey.1));
          sums_ends =
              summing_one k.sums_ends here (ap₂ (λ (i j : ℕ). i + j) ez.0 ev.0) (omega (arith, ez.1, ev.1));
        }

-- ---- the sums, of n numbers

module _ (numbers ranks : List ℕ) (n m : ℕ) (even : length numbers ≡ n) (ranked : Ranked numbers ranks) where
  abbrev x : ℕ → ℕ
  x = value_at numbers

  rank_is : (r : ℕ) → r < n → get_or ranks r 0 ≡ rank_nat n x r
  rank_is r l = ranked r (omega arith) ∙ ap (λ (k : ℕ). rank_nat k x r) even

  pub between-kept : (r : ℕ) → r < n → between ranks m (n - m) r ≡ kept_nat n m x r
  unfolding kept_nat
  between-kept r l = ap (λ (k : ℕ). leb m k && ltb k (n - m)) (rank_is r l)

  sum-of_ranks : (low high : ℕ) → total (end_at ranks numbers low high) n ≡ ranked_nat n x low + ranked_nat n x high
  unfolding ranked_nat
  sum-of_ranks low high =
      total_ext (end_at ranks numbers low high)
      (λ r. cond (eqb (rank_nat n x r) low) (x r) 0 + cond (eqb (rank_nat n x r) high) (x r) 0)
      n
      (λ r l. ap (λ (k : ℕ). cond (eqb k low) (x r) 0 + cond (eqb k high) (x r) 0) (rank_is r l))
      ∙ total_add (λ r. cond (eqb (rank_nat n x r) low) (x r) 0) (λ r. cond (eqb (rank_nat n x r) high) (x r) 0) n

  -- by the one rule the lowest and the highest left, by the other all
  pub ends-are :
      (rule ends : ℕ) → eqb rule trimmed_midpoint ≡ true → ends ≡ total (end_at ranks numbers m (n - m - 1)) n
      → ends ≡ trimmed_sum rule n m x
  ends-are rule ends e f = f ∙ sum-of_ranks m (n - m - 1) ∙ rw e

  pub sum_is :
      (rule sum : ℕ) → eqb rule trimmed_midpoint ≡ false → sum ≡ total (kept_at ranks numbers m (n - m)) n
      → sum ≡ trimmed_sum rule n m x
  unfolding kept-total
  sum_is rule sum e f =
      f
      ∙ total_ext (kept_at ranks numbers m (n - m)) (λ r. cond (kept_nat n m x r) (x r) 0) n
      (λ r l. ap (λ (b : Bool). cond b (x r) 0) (between-kept r l))
      ∙ rw e

-- ---- the ranks that `ranks::rank` leaves in a list as long

module _ (numbers ranks₀ ranks : List ℕ) (few : length numbers ≤ max_cabinets) (even : length ranks₀ ≡ length numbers)
    (ordered : ranks ≡ ranks_of numbers ranks₀) where
  ranks_are : ranks ≡ table (rank_at numbers) (length numbers)
  unfolding ranks_of
  ranks_are =
      ordered
      ∙ rw (le-ltb max_cabinets (length numbers) few, le-ltb (length ranks₀) (length numbers) (omega arith))
      (overwrite-whole (table (rank_at numbers) (length numbers)) ranks₀
      (omega (arith, length-table (rank_at numbers) (length numbers))))

  pub ranks_long : length ranks ≡ length numbers
  ranks_long = ap length ranks_are ∙ length-table (rank_at numbers) (length numbers)

  pub ranks_fit : Ranked numbers ranks
  ranks_fit r l =
      ap (λ (xs : List ℕ). get_or xs r 0) ranks_are ∙ get_d_table (rank_at numbers) (length numbers) r 0 l
