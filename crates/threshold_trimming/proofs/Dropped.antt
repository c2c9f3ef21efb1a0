-- What is between two thresholds is what is left when the m lowest and the m highest of n numbers are dropped.
-- Assumes nothing.
use mathlib.Core.Bool.{Bool, true, false, not, cond, ◌&&◌, ◌||◌}
use mathlib.Core.List.{List}
use mathlib.Core.Logic.{⊎_elim}
use mathlib.Core.Path.{◌≡◌, refl, sym, ap, ap₂, ◌∙◌}
use Prim.Native.Nat.{ℕ, ◌+◌, ◌*◌, ◌-◌, ◌≤◌, ◌<◌}
use Rattle.std.specs.Prelude.{Some}
use native.Mathlib.Omega.{arith}
use borrow.Author.Tests.{le-leb, lt-leb, eq-eqb, ne_eqb, ltb-true, ltb-false}
use lib.Dec.{leb, ltb, eqb}
use lib.ListN.{length, get_or}
use Rattle.arithmetic.specs.Words.{two_to32}
use Rattle.arithmetic.specs.Writing.{table}
use Rattle.arithmetic.proofs.Bools.{both_ways, or_inl, or_inr}
use Rattle.model.specs.Ensemble.{max_cabinets}
use Rattle.model.specs.RoundSheet.{trimmed_midpoint}
use Rattle.round_laws.specs.Naturals.{rank_nat, kept_nat, ranked_nat, kept-total}
use Rattle.held.specs.Held.{value_at, kept_mark}
use Rattle.thresholds.specs.declared.Thresholds.{Thresholds}
use Rattle.thresholds.specs.Thresholds.{Split, SplitsBoth, misfit}
use Rattle.dropping.specs.Dropping.{unfit_for, trimmed_sum, dropped_sum, dropped_marks}
use Rattle.dropping.proofs.Dropped.{some_left, sum-some, marks-some, marks-left}
use Rattle.threshold_trimming.specs.declared.Left.{Left}
use Rattle.threshold_trimming.specs.Trimming.{EndOf, least_from, greatest_to, left_at, between_total}
use Rattle.threshold_trimming.proofs.Splitting.{before-rank, least-ranked, greatest-ranked}
use Rattle.threshold_trimming.proofs.Totals.{kept-between}

-- ---- n numbers, of which some are left, between thresholds

not-below : (k r : ℕ) → not (ltb r k) ≡ leb k r
not-below k r =
    ⊎_elim (λ t. ap not t ∙ sym (lt-leb k r (ltb-true r k t))) (λ f. ap not f ∙ sym (le-leb k r (ltb-false r k f)))
    (both_ways (ltb r k))

module _ (x : ℕ → ℕ) (n m : ℕ) (rest : 2 * m < n) (t : Thresholds) (lowest : Split x n m t.low)
    (highest : Split x n (n - m) t.high) where
  pub left-kept :
      (l : Left) → EndOf x n t.low l.low → EndOf x n t.high l.high → (r : ℕ) → r < n → left_at x l r ≡ kept_nat n m x r
  unfolding kept_nat
  left-kept l start end r h =
      ap₂ (λ (a b : Bool). not a && b)
      (before-rank x n m t.low lowest (omega arith) l.low start r h)
      (before-rank x n (n - m) t.high highest (omega arith) l.high end r h)
      ∙ ap (λ (b : Bool). b && ltb (rank_nat n x r) (n - m)) (not-below m (rank_nat n x r))

  ends-are :
      ((j : ℕ) → x j < two_to32)
      → least_from x t.low.at n + greatest_to x (cond (eqb t.high.ties 0) (t.high.at - 1) t.high.at) n
      ≡ ranked_nat n x m + ranked_nat n x (n - m - 1)
  ends-are small =
      ap₂ (λ (a b : ℕ). a + b) (least-ranked x n m t.low lowest small (omega arith))
      (greatest-ranked x n (n - m) t.high highest (omega arith) (omega arith))

-- ---- lists that fit

module _ (m : ℕ) (marks numbers : List ℕ) where
  pub uneven : (length marks ≡ length numbers → ⊥) → unfit_for (length marks) (length numbers) m ≡ true
  uneven ne =
      or_inl (leb (length marks) (2 * m))
      (or_inr (ltb max_cabinets (length marks)) (ap not (ne_eqb (length numbers) (length marks) (λ e. ne (sym e)))))

  pub same-test : length marks ≡ length numbers → misfit (length numbers) m ≡ unfit_for (length marks) (length numbers) m
  same-test even = rw (even, eq-eqb (length numbers) (length numbers) refl) (go (ltb max_cabinets (length numbers)))
    where
      go : (a : Bool) → (a || leb (length numbers) (2 * m)) ≡ ((a || false) || leb (length numbers) (2 * m))
      go true = refl
      go false = refl

module _ (m : ℕ) (marks numbers : List ℕ) (t : Thresholds) (even : length marks ≡ length numbers)
    (both : SplitsBoth numbers m t) where
  fit : unfit_for (length marks) (length numbers) m ≡ false
  fit = sym (same-test m marks numbers even) ∙ both.fits

  abbrev n : ℕ
  n = length marks

  abbrev x : ℕ → ℕ
  x = value_at numbers

  rest : 2 * m < n
  rest = some_left m marks numbers fit

  from : Split x n m t.low
  from = rw even both.lowest

  to : Split x n (n - m) t.high
  to = rw even both.highest

  -- by the one rule the least and the greatest that are left
  pub by-ends :
      (rule : ℕ) → eqb rule trimmed_midpoint ≡ true → ((j : ℕ) → x j < two_to32)
      → (last : ℕ) → last ≡ cond (eqb t.high.ties 0) (t.high.at - 1) t.high.at
      → Some (least_from x t.low.at (length numbers) + greatest_to x last (length numbers)) ≡ dropped_sum rule m marks numbers
  by-ends rule e small last is =
      ap Some (rw (← even, is) (ends-are x n m rest t from to small) ∙ ends) ∙ sum-some m marks numbers fit rule
    where
      ends : ranked_nat n x m + ranked_nat n x (n - m - 1) ≡ trimmed_sum rule n m x
      ends = rw e

  -- by the other all: the sum between the thresholds is what is left and what is dropped at the lower one
  abbrev between : ℕ
  between = between_total x t.low.at t.high.at (length numbers)

  all-sums : kept-total n m x + t.low.ties * t.low.at ≡ between + t.high.ties * t.high.at
  all-sums = rw (← even) (kept-between x n m rest t from to)

  pub dropped-fits : t.low.ties * t.low.at ≤ between + t.high.ties * t.high.at
  dropped-fits = omega (arith, all-sums)

  pub by_all :
      (rule : ℕ) → eqb rule trimmed_midpoint ≡ false
      → Some (between + t.high.ties * t.high.at - t.low.ties * t.low.at) ≡ dropped_sum rule m marks numbers
  by_all rule e = ap Some (omega (arith, all-sums) ∙ all) ∙ sum-some m marks numbers fit rule
    where
      all : kept-total n m x ≡ trimmed_sum rule n m x
      all = rw e

  pub marks-are :
      (l : Left) → EndOf x (length numbers) t.low l.low → EndOf x (length numbers) t.high l.high
      → table (λ r. kept_mark (left_at x l r) (get_or marks r 0)) n ≡ dropped_marks m marks numbers
  marks-are l start end =
      marks-left m marks numbers (left_at x l) (left-kept x n m rest t from to l (rw even start) (rw even end))
      ∙ marks-some m marks numbers fit
