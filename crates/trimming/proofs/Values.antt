-- The new value of numbers of which the ends are dropped is that of the rules; and what `trim` gives of readings that two
-- lists hold.
-- Assumes nothing.
use mathlib.Core.Bool.{Bool, true, false, cond}
use mathlib.Core.List.{List}
use mathlib.Core.Path.{◌≡◌, refl, sym, ap, ap₂, ◌∙◌}
use Prim.Native.Nat.{ℕ, ◌*◌, ◌-◌, ◌≤◌, ◌<◌}
use Rattle.std.specs.Prelude.{Option, Some, IsSome}
use native.Mathlib.Omega.{arith}
use borrow.Author.Tests.{lt-leb}
use lib.Dec.{eqb}
use lib.ListN.{length, get_or}
use Rattle.arithmetic.specs.Naturals.{down, up}
use Rattle.arithmetic.specs.Words.{two_to31, two_to32}
use Rattle.arithmetic.specs.Writing.{table, overwrite}
use Rattle.arithmetic.proofs.Bools.{or_false}
use Rattle.arithmetic.proofs.Shift.{pos-down, down_cong, up-down}
use Rattle.arithmetic.proofs.Writing.{length-table, get_d_table, table_ext, overwrite-whole}
use Rattle.model.specs.Ensemble.{ticks, max_cabinets}
use Rattle.model.specs.RoundSheet.{trimmed_midpoint}
use Rattle.model.specs.Steps.{is_kept}
use Rattle.round_laws.proofs.Shifted.{even_31}
use Rattle.round_laws.specs.Naturals.{shift, kept_nat, ranked_nat, mean_nat, trimmed_nat}
use Rattle.value_laws.proofs.Estimates.{Between}
use Rattle.value_laws.proofs.Trimmed.{kept-down, trimmed-down, kept-total-within, ranked-within}
use Rattle.held.specs.Held.{present_in, value_at, kept_mark, readings_in}
use Rattle.held.proofs.Held.{moved_back, mark-kept, fit_intro}
use Rattle.estimates.specs.Values.{nothing}
use Rattle.estimates.specs.declared.Estimated.{Estimated}
use Rattle.dropping.specs.Dropping.{unfit_for, trimmed_sum, dropped_sum, dropped_mark, dropped_marks}
use Rattle.dropping.proofs.Dropped.{sum-some}
use Rattle.dropping.proofs.Dropped as Dropped
use Rattle.trimming.specs.Values.{trimmed_in, trimmed_of, mark_at, trimmed_marks, number_in, summed_by}

some-same : {a b : ℕ} → Some a ≡ Some b → a ≡ b
some-same e = cc

-- ---- readings that two lists hold

module _ (marks values : List ℕ) where
  -- their ticks are their numbers moved down by 2^31
  number-ticks : (r : ℕ) → ticks (readings_in marks values r) ≡ down two_to31 (number_in marks values r)
  number-ticks r = go (present_in marks r)
    where
      go : (b : Bool) → ticks (shift two_to31 b (value_at values r)) ≡ down two_to31 (cond b (value_at values r) two_to31)
      go true = refl
      go false = pos-down 0 ∙ down_cong 0 0 two_to31 two_to31 refl

  -- the new value, moved up and down again, is what it was
  pub value-back :
      (rule m : ℕ) → 2 * m < length marks
      → down two_to31 (up two_to31 (trimmed_in rule m marks values).value) ≡ (trimmed_in rule m marks values).value
  value-back rule m left =
      moved_back (trimmed_in rule m marks values).value (trimmed_nat rule (length marks) m (number_in marks values))
      (trimmed-down two_to31 (length marks) (readings_in marks values) (number_in marks values) (λ r _. number-ticks r) m left
      even_31 rule)

-- at most 64 readings, of which some are left, and their numbers
pub record Numbered (m : ℕ) (marks values numbers : List ℕ) : Type 0 where
  pub few : length marks ≤ max_cabinets
  pub rest : 2 * m < length marks
  pub are : numbers ≡ table (number_in marks values) (length marks)

pub numbered :
    (m : ℕ) (marks values numbers₀ numbers : List ℕ) → length marks ≤ max_cabinets → 2 * m < length marks
    → length numbers₀ ≡ length marks → numbers ≡ overwrite (table (number_in marks values) (length marks)) numbers₀
    → Numbered m marks values numbers
numbered m marks values numbers₀ numbers few rest even filled =
    record {
      few = few;
      rest = rest;
      are =
          filled
          ∙ overwrite-whole (table (number_in marks values) (length marks)) numbers₀
          (omega (arith, length-table (number_in marks values) (length marks)));
    }

module _ {m : ℕ} {marks values numbers : List ℕ} (k : Numbered m marks values numbers) where
  numbers-long : length numbers ≡ length marks
  numbers-long = ap length k.are ∙ length-table (number_in marks values) (length marks)

  number_at : (r : ℕ) → r < length marks → value_at numbers r ≡ number_in marks values r
  number_at r l =
      ap (λ (xs : List ℕ). get_or xs r 0) k.are ∙ get_d_table (number_in marks values) (length marks) r 0 l

  moved : (r : ℕ) → r < length marks → ticks (readings_in marks values r) ≡ down two_to31 (value_at numbers r)
  moved r l = number-ticks marks values r ∙ ap (down two_to31) (sym (number_at r l))

  fit : unfit_for (length marks) (length numbers) m ≡ false
  fit = or_false (fit_intro (length marks) (length numbers) k.few numbers-long) (lt-leb (length marks) (2 * m) k.rest)

  -- the lists fit, so there is a sum
  summed : (rule : ℕ) → Some (trimmed_sum rule (length marks) m (value_at numbers)) ≡ dropped_sum rule m marks numbers
  summed rule = sum-some m marks numbers fit rule

  pub is-summed : (rule : ℕ) {sum : Option ℕ} → sum ≡ dropped_sum rule m marks numbers → IsSome sum
  is-summed rule e = rw (e ∙ sym (summed rule)) refl

  -- the mean of the sum is the new value
  pub value_is :
      (rule : ℕ) {sum : ℕ} → Some sum ≡ dropped_sum rule m marks numbers
      → mean_nat (summed_by rule (length marks - 2 * m)) sum ≡ up two_to31 (trimmed_in rule m marks values).value
  unfolding trimmed_nat
  value_is rule s =
      ap (mean_nat (summed_by rule (length marks - 2 * m))) (some-same (s ∙ sym (summed rule)))
      ∙ mean-by (eqb rule trimmed_midpoint) refl
      ∙ sym (up-down two_to31 (trimmed_nat rule (length marks) m (value_at numbers)))
      ∙ ap (up two_to31)
      (sym (trimmed-down two_to31 (length marks) (readings_in marks values) (value_at numbers) moved m k.rest even_31 rule))
    where
      mean-by :
          (b : Bool) → eqb rule trimmed_midpoint ≡ b
          → mean_nat (summed_by rule (length marks - 2 * m)) (trimmed_sum rule (length marks) m (value_at numbers))
          ≡ trimmed_nat rule (length marks) m (value_at numbers)
      mean-by true q = rw q
      mean-by false q = rw q

  -- a number is a value of 32 bits, or 0 ticks
  number-small :
      ((i : ℕ) → value_at values i < two_to32) → (r : ℕ) → r < length marks → value_at numbers r < two_to32
  number-small small r l = rw (number_at r l) (go (present_in marks r))
    where
      go : (b : Bool) → cond b (value_at values r) two_to31 < two_to32
      go true = small r
      go false = omega arith

  -- the sum is of so many numbers of 32 bits
  pub sum-small :
      ((i : ℕ) → value_at values i < two_to32) → (rule : ℕ) {sum : ℕ} → Some sum ≡ dropped_sum rule m marks numbers
      → sum ≤ summed_by rule (length marks - 2 * m) * (two_to32 - 1)
  sum-small small rule s =
      rw (some-same (s ∙ sym (summed rule))) (by (eqb rule trimmed_midpoint) refl)
    where
      each : (r : ℕ) → r < length marks → kept_nat (length marks) m (value_at numbers) r ≡ true → Between 0 (two_to32 - 1) (value_at numbers r)
      each r l _ = record { low = omega arith; high = omega (arith, number-small small r l) }

      ranked-small : (h : ℕ) → m ≤ h → h < length marks - m → ranked_nat (length marks) (value_at numbers) h ≤ two_to32 - 1
      ranked-small h low high = (ranked-within (length marks) m k.rest (value_at numbers) 0 (two_to32 - 1) each h low high).high

      by :
          (b : Bool) → eqb rule trimmed_midpoint ≡ b
          → trimmed_sum rule (length marks) m (value_at numbers)
          ≤ summed_by rule (length marks - 2 * m) * (two_to32 - 1)
      by true q =
          rw q
          (omega (
            arith,
            ranked-small m (omega arith) (omega arith),
            ranked-small (length marks - m - 1) (omega arith) (omega arith),
          ))
      by false q = rw q (kept-total-within (length marks) m k.rest (value_at numbers) 0 (two_to32 - 1) each).high

  -- the mark of a reading, by whether it is kept
  mark_is : (r : ℕ) → r < length marks → dropped_mark m marks numbers r ≡ mark_at m marks values r
  mark_is r l =
      ap (λ (b : Bool). kept_mark b (get_or marks r 0))
      (sym (kept-down two_to31 (length marks) (readings_in marks values) (value_at numbers) moved m r l))
      ∙ mark-kept (is_kept (length marks) m (readings_in marks values) r) (get_or marks r 0) (value_at values r)

  pub marks-are :
      (left : List ℕ) → left ≡ dropped_marks m marks numbers → left ≡ table (mark_at m marks values) (length marks)
  marks-are left e =
      e
      ∙ sym (Dropped.marks-some m marks numbers fit)
      ∙ table_ext (dropped_mark m marks numbers) (mark_at m marks values) (length marks) mark_is

-- ---- what `trim` answers, by whether the lists fit

-- the sum that the rule takes the mean of, and the marks
pub record Summed (rule m : ℕ) (marks values : List ℕ) (sum : ℕ) (left : List ℕ) : Type 0 where
  pub mean : mean_nat (summed_by rule (length marks - 2 * m)) sum ≡ up two_to31 (trimmed_in rule m marks values).value
  pub bound : sum ≤ summed_by rule (length marks - 2 * m) * (two_to32 - 1)
  pub struck : left ≡ table (mark_at m marks values) (length marks)

module _ (rule m : ℕ) (marks values : List ℕ) where
  pub trimmed-none : unfit_for (length marks) (length values) m ≡ true → nothing ≡ trimmed_of rule m marks values
  unfolding trimmed_of
  trimmed-none e = rw e

  pub marks-none : unfit_for (length marks) (length values) m ≡ true → marks ≡ trimmed_marks m marks values
  unfolding trimmed_marks
  marks-none e = rw e

  module _ (fit : unfit_for (length marks) (length values) m ≡ false) where
    pub trimmed-some :
        (n v : ℕ) → n ≡ length marks → v ≡ up two_to31 (trimmed_in rule m marks values).value
        → ◌≡◌ {A = Estimated} (record { count = n - 2 * m; estimate = v; value = v }) (trimmed_of rule m marks values)
    unfolding trimmed_of
    trimmed-some n v all e =
        ap₂ (λ (k x : ℕ). record { count = k - 2 * m; estimate = x; value = x }) all e ∙ rw fit

    pub marks-some :
        (left : List ℕ) → left ≡ table (mark_at m marks values) (length marks) → left ≡ trimmed_marks m marks values
    unfolding trimmed_marks
    marks-some left e = e ∙ rw fit
