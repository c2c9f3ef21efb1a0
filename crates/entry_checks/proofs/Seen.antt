-- What a survey of all marks says of checks 8 and 9.
-- Assumes nothing.
use mathlib.Core.Bool.{cond}
use mathlib.Core.List.{List}
use mathlib.Core.Option.{none}
use mathlib.Core.Path.{◌≡◌, sym, ap, ◌∙◌}
use Prim.Native.Nat.{ℕ}
use native.Mathlib.Omega.{arith}
use borrow.Author.Tests.{ne_eqb}
use lib.Dec.{ltb}
use lib.ListN.{length}
use Rattle.arithmetic.proofs.Counting.{lowest-none}
use Rattle.model.specs.RoundSheet.{byte}
use Rattle.model.specs.Refusals.{Check, or_next}
use Rattle.mark_checks.specs.Marks.{surveyed, marks_in}
use Rattle.mark_checks.proofs.Marks.{none-zero, none-refused, seen_all}
use Rattle.missing_search.specs.Missing.{missing_in}
use Rattle.missing_search.proofs.Missing.{fault, none_found}

module _ (marks : List ℕ) (seen : ℕ) (all : seen ≡ surveyed marks (length marks)) where
  -- where every mark is 1 neither check has anything to find
  pub all-present : (readings : List ℕ) → seen ≡ 0 → none ≡ or_next (marks_in marks) (missing_in marks readings)
  all-present readings nothing =
      let zero_seen : surveyed marks (length marks) ≡ 0 = sym all ∙ nothing in
      none_found marks readings
      (lowest-none (fault marks readings) (length marks)
      (λ e l. rw (ne_eqb (byte marks e) 0 (none-zero marks (length marks) zero_seen e l))))
      ∙ ap (λ (k : Check). or_next k (missing_in marks readings)) (sym (none-refused marks (omega arith)))

  -- what check 8 says, made only where what was seen is above 1
  pub eighth : cond (ltb 1 seen) (marks_in marks) none ≡ marks_in marks
  eighth = ap (λ (k : ℕ). cond (ltb 1 k) (marks_in marks) none) all ∙ seen_all marks
