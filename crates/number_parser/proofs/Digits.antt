-- One more digit: where the test does not stop, the number is of 32 bits and the character a digit, so nothing wraps.
-- Assumes nothing.
use mathlib.Core.Bool.{Bool, true, false, cond, ◌||◌}
use mathlib.Core.List.{List}
use mathlib.Core.Path.{◌≡◌, refl, ap, ◌∙◌}
use Prim.Native.Nat.{ℕ, ◌+◌, ◌*◌, ◌-◌, ◌≤◌, ◌<◌, zero-le}
use native.Mathlib.Numerals.{add-one}
use native.Mathlib.Omega.{arith}
use borrow.Author.Tests.{leb-false, ltb-false, ne_eqb}
use lib.Dec.{leb, ltb}
use lib.ListN.{length, get_or}
use Rattle.arithmetic.proofs.Bools.{or_left, or_right}
use Rattle.arithmetic.specs.Words.{two_to32}
use Rattle.number_parser.specs.Numerals.{grown, leading, numeral}

abbrev pub stop : ℕ → ℕ → Bool
stop value digit = leb two_to32 value || (ltb digit 48 || ltb 57 digit)

pub record Digit (value digit : ℕ) : Type 0 where
  pub small : value < two_to32
  pub least : 48 ≤ digit
  pub most : digit ≤ 57

module _ (value digit : ℕ) where
  pub goes_on : stop value digit ≡ false → Digit value digit
  goes_on e =
      let d = or_right (leb two_to32 value) (ltb digit 48 || ltb 57 digit) e in
      record {
        small = leb-false two_to32 value (or_left (leb two_to32 value) (ltb digit 48 || ltb 57 digit) e);
        least = ltb-false digit 48 (or_left (ltb digit 48) (ltb 57 digit) d);
        most = ltb-false 57 digit (or_right (ltb digit 48) (ltb 57 digit) d);
      }

  pub grown-stops : stop value digit ≡ true → two_to32 ≡ grown value digit
  unfolding grown
  grown-stops e = rw e refl

  pub grown-next : stop value digit ≡ false → cond (ltb (10 * value + (digit - 48)) two_to32) (10 * value + (digit - 48)) two_to32 ≡ grown value digit
  unfolding grown
  grown-next e = rw e refl

-- the number of the first i characters
pub record Leads (text : List ℕ) (value i : ℕ) : Type 0 where
  pub up_to : i ≤ length text
  pub exact : value ≡ leading text i

module _ (text : List ℕ) where
  pub leads_none : Leads text 0 0
  unfolding leading
  leads_none = record { up_to = zero-le; exact = refl }

  pub leads_on : {value i next : ℕ} → Leads text value i → i < length text → next ≡ grown value (get_or text i 0) → Leads text next (i + 1)
  unfolding leading
  leads_on {i = i} so_far l e =
      record {
        up_to = omega arith;
        exact = rw (add-one i) (e ∙ ap (λ (v : ℕ). grown v (get_or text i 0)) so_far.exact);
      }

  pub numeral-none : length text ≡ 0 → two_to32 ≡ numeral text
  unfolding numeral
  numeral-none e = rw e refl

  pub numeral-all : {value i : ℕ} → (length text ≡ 0 → ⊥) → Leads text value i → length text ≤ i → value ≡ numeral text
  unfolding numeral
  numeral-all {i = i} some so_far l =
      let e : i ≡ length text = omega (arith, so_far.up_to) in
      rw (ne_eqb (length text) 0 some) (so_far.exact ∙ ap (leading text) e)
