-- What a survey of the marks tells, and check 8 by the tests that the code makes.
-- Assumes nothing.
use mathlib.Core.Bool.{Bool, true, false, cond}
use mathlib.Core.List.{List}
use mathlib.Core.Option.{none}
use mathlib.Core.Path.{◌≡◌, refl, sym, ap, ◌∙◌}
use Prim.Native.Nat.{ℕ, zero, suc, ◌+◌, ◌*◌, ◌/◌, ◌%◌, ◌≤◌, ◌<◌}
use native.Mathlib.Nat.{div-add-mod', mod-lt, not-suc-le-zero}
use native.Mathlib.Numerals.{add-one}
use native.Mathlib.Omega.{arith}
use borrow.Author.Tests.{le-ltb, lt-ltb, ltb-false}
use lib.Bits.{bit_or, bit_xor, differ, xor_step, xor_zero_r, or_add_and, and_le_l, and_le_r}
use lib.Dec.{ltb, lit<}
use lib.ListN.{length}
use Rattle.arithmetic.proofs.Counting.{lowest-none}
use Rattle.model.specs.RoundSheet.{byte}
use Rattle.model.specs.Refusals.{Check, bad_mark}
use Rattle.sheet_laws.proofs.Searching.{first_or_next}
use Rattle.sheet_sizes.specs.Bounds.{most_entries}
use Rattle.mark_checks.specs.Marks.{surveyed, marks_in}

-- ---- one mark: how it differs from 1

turned : (m : ℕ) → bit_xor m 1 ≡ m / 2 * 2 + differ (m % 2) 1
turned m = xor_step m 1 ∙ ap (λ (h : ℕ). h * 2 + differ (m % 2) 1) (xor_zero_r (m / 2))

turned-small : (m : ℕ) → bit_xor m 1 ≤ 1 → m ≤ 1
turned-small m h =
    let t = turned m in
    let d = div-add-mod' m 2 in
    let l : m % 2 < 2 = mod-lt m (lit< tt) in
    omega arith

turned_none : (m : ℕ) → bit_xor m 1 ≡ 0 → m ≡ 0 → ⊥
turned_none m h z = let one : bit_xor m 1 ≡ 1 = ap (λ (k : ℕ). bit_xor k 1) z in omega arith

-- ---- the marks that were passed

passed-both : (b : Bool) → Path Check (cond b none none) none
passed-both true = refl
passed-both false = refl

module _ (marks : List ℕ) where
  pub survey_none : 0 ≡ surveyed marks 0
  unfolding surveyed
  survey_none = refl

  pub survey_next :
      (n seen : ℕ) → seen ≡ surveyed marks n → bit_or seen (bit_xor (byte marks n) 1) ≡ surveyed marks (n + 1)
  unfolding surveyed
  survey_next n seen e =
      ap (λ (s : ℕ). bit_or s (bit_xor (byte marks n) 1)) e ∙ ap (surveyed marks) (sym (add-one n))

  -- no mark differs from 1 by more than what was seen
  seen_most : (n e : ℕ) → e < n → bit_xor (byte marks e) 1 ≤ surveyed marks n
  unfolding surveyed
  seen_most zero e l = absurd (not-suc-le-zero l)
  seen_most (suc n) e l =
      let s = surveyed marks n in
      let b = bit_xor (byte marks n) 1 in
      let sums = or_add_and s b in
      let below-l = and_le_l s b in
      let below-r = and_le_r s b in
      first_or_next (λ i. bit_xor (byte marks i) 1 ≤ bit_or s b) n
      (λ i h. let before = seen_most n i h in omega arith)
      (omega arith) e (rw (add-one n) l)

  pub none_above : (n : ℕ) → surveyed marks n ≤ 1 → (e : ℕ) → e < n → byte marks e ≤ 1
  none_above n small e l = turned-small (byte marks e) (let s = seen_most n e l in omega arith)

  pub none-zero : (n : ℕ) → surveyed marks n ≡ 0 → (e : ℕ) → e < n → byte marks e ≡ 0 → ⊥
  none-zero n nothing e l = turned_none (byte marks e) (let s = seen_most n e l in omega arith)

  -- ---- the whole check

  pub none-refused : surveyed marks (length marks) ≤ 1 → marks_in marks ≡ none
  unfolding marks_in bad_mark
  none-refused small =
      rw
      (lowest-none (λ e. ltb 1 (byte marks e)) (length marks)
      (λ e l. le-ltb 1 (byte marks e) (none_above (length marks) small e l)))
      (passed-both (ltb most_entries (length marks)))

  pub marks-searched : length marks ≤ most_entries → marks_in marks ≡ bad_mark (byte marks) (length marks)
  unfolding marks_in
  marks-searched few = rw (le-ltb most_entries (length marks) few)

  module _ (seen : ℕ) where
    pub seen-small : seen ≤ 1 → none ≡ cond (ltb 1 seen) (marks_in marks) none
    seen-small h = rw (le-ltb 1 seen h)

    module _ (above : 1 < seen) where
      pub too_many : most_entries < length marks → none ≡ cond (ltb 1 seen) (marks_in marks) none
      unfolding marks_in
      too_many h = rw (lt-ltb 1 seen above, lt-ltb most_entries (length marks) h)

      pub seen-searched :
          length marks ≤ most_entries
          → bad_mark (byte marks) (length marks) ≡ cond (ltb 1 seen) (marks_in marks) none
      seen-searched few = rw (lt-ltb 1 seen above) (sym (marks-searched few))

  -- a search that is left out where what was seen of all marks is small is the whole check
  pub seen_all : cond (ltb 1 (surveyed marks (length marks))) (marks_in marks) none ≡ marks_in marks
  seen_all = go (ltb 1 (surveyed marks (length marks))) refl
    where
      go : (b : Bool) → ltb 1 (surveyed marks (length marks)) ≡ b → cond b (marks_in marks) none ≡ marks_in marks
      go true e = refl
      go false e = sym (none-refused (ltb-false 1 (surveyed marks (length marks)) e))
