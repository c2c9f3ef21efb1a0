-- One more digit, by the cases of the code; and where no number of 32 bits is left, more digits give none either.
--   Number text value i   the first i characters are a number of 32 bits
-- Assumes nothing.
use Rattle.std.proofs.Common.{◌≡◌, ℕ, zero, suc, ◌+◌, ◌*◌, ◌-◌, ◌≤◌, ◌<◌, List, length, get_or, Option, Some, None, SomeIff, inl, inr, Bool, true, false, cond, refl, sym, ap, ◌∙◌, zero-le, add-one, arith}
use native.Mathlib.Nat.{zero-add, suc-add}
use borrow.Author.Tests.{lt-leb, lt-ltb, le-ltb, le-leb, ltb-true, ltb-false, leb-true, leb-false, eqb-true, eqb-false, ne_eqb}
use lib.Dec.{eqb, leb, ltb}
use lib.ListN.{get_or-eq_default}
use Rattle.std.specs.Char.{IsAsciiDigit, IsNotAsciiDigit}
use Rattle.arithmetic.specs.Words.{two_to32}
use Rattle.arithmetic.proofs.Bools.{or_inr}
use Rattle.number_parser.specs.Numerals.{grown, leading, numeral, number_of}
use Rattle.number_parser.proofs.Digits.{stop, grown-stops, grown-next, Leads, leads_none, leads_on, numeral-none, numeral-all}

-- ---- a number of 32 bits, or none

of_some : (v x : ℕ) → Some x ≡ number_of v → (x ≡ v) × (x < two_to32)
unfolding number_of
of_some v x = go (ltb v two_to32) refl
  where
    go : (small : Bool) → ltb v two_to32 ≡ small → Some x ≡ cond small (Some v) None → (x ≡ v) × (x < two_to32)
    go true t e = let same : x ≡ v = cc in (same, rw same (ltb-true v two_to32 t))
    go false f e = cc

of_none : (v : ℕ) → None ≡ number_of v → two_to32 ≤ v
unfolding number_of
of_none v = go (ltb v two_to32) refl
  where
    go : (small : Bool) → ltb v two_to32 ≡ small → None ≡ cond small (Some v) None → two_to32 ≤ v
    go true t e = cc
    go false f e = ltb-false v two_to32 f

large-none : (v : ℕ) → two_to32 ≤ v → None ≡ number_of v
unfolding number_of
large-none v h = rw (le-ltb v two_to32 h) refl

small-some : (v : ℕ) → v < two_to32 → Some v ≡ number_of v
unfolding number_of
small-some v h = rw (lt-ltb v two_to32 h) refl

-- ---- one more digit

module _ (value digit : ℕ) (small : value < two_to32) where
  stops : IsNotAsciiDigit digit → stop value digit ≡ true
  stops (inl below) = rw (lt-leb two_to32 value small, lt-ltb digit 48 below) refl
  stops (inr above) = rw (lt-leb two_to32 value small, le-ltb digit 48 (omega arith), lt-ltb 57 digit above) refl

  pub none_other : IsNotAsciiDigit digit → None ≡ number_of (grown value digit)
  none_other other = rw (← (grown-stops value digit (stops other))) (large-none two_to32 (omega arith))

  module _ (is : IsAsciiDigit digit) where
    goes : stop value digit ≡ false
    goes = rw (lt-leb two_to32 value small, le-ltb digit 48 is.0, le-ltb 57 digit is.1) refl

    pub none_past : two_to32 ≤ 10 * value + (digit - 48) → None ≡ number_of (grown value digit)
    none_past h =
        let past : two_to32 ≡ grown value digit = rw (le-ltb (10 * value + (digit - 48)) two_to32 h) at (grown-next value digit goes) in
        rw (← past) (large-none two_to32 (omega arith))

    one_more : 10 * value + (digit - 48) < two_to32 → Some (10 * value + (digit - 48)) ≡ number_of (grown value digit)
    one_more h =
        let more : 10 * value + (digit - 48) ≡ grown value digit = rw (lt-ltb (10 * value + (digit - 48)) two_to32 h) at (grown-next value digit goes) in
        rw (← more) (small-some (10 * value + (digit - 48)) h)

    pub grown-some : (tens : ℕ) → tens ≡ value * 10 → (r : Option ℕ) → SomeIff r (tens + (digit - 48) < two_to32) (tens + (digit - 48))
        → r ≡ number_of (grown value digit)
    grown-some tens e None h = none_past (omega arith)
    grown-some tens e (Some x) h = let f : x ≡ 10 * value + (digit - 48) = omega (arith, h.1) in rw f (one_more (omega (arith, h.0)))

-- ---- all digits of a text

module _ (text : List ℕ) where
  -- no digits more make a number of one that is none
  stays-large : (i : ℕ) → two_to32 ≤ leading text i → (d : ℕ) → two_to32 ≤ leading text (d + i)
  unfolding leading grown
  stays-large i h zero = rw (zero-add i) h
  stays-large i h (suc d) =
      rw (suc-add d i) (rw (le-leb two_to32 (leading text (d + i)) (stays-large i h d)) (omega arith))

  pub numeral-empty : true ≡ eqb (length text) 0 → None ≡ number_of (numeral text)
  numeral-empty e = rw (← (numeral-none text (eqb-true (length text) 0 (sym e)))) (large-none two_to32 (omega arith))

  pub record Number (value i : ℕ) : Type 0 where
    pub leads : Leads text value i
    pub small : value < two_to32

  pub number_none : Number 0 0
  number_none = record { leads = leads_none text; small = omega arith }

  -- no number of 32 bits goes past the end of the text
  past-end : (k : ℕ) → length text ≤ k → leading text (suc k) ≡ two_to32
  unfolding leading
  past-end k h =
      let v = leading text k in
      rw (get_or-eq_default text 0 h) (sym (grown-stops v 0 (or_inr (leb two_to32 v) refl)))

  -- so one that the first i characters are reads no more than there is
  pub number_reads : (value i : ℕ) → value ≡ leading text i → value < two_to32 → Number value i
  number_reads value i exact small = record { leads = record { up_to = within i exact; exact = exact }; small = small }
    where
      within : (i : ℕ) → value ≡ leading text i → i ≤ length text
      within zero e = zero-le
      within (suc k) e = go (leb (length text) k) refl
        where
          go : (b : Bool) → leb (length text) k ≡ b → suc k ≤ length text
          go true t = absurd (omega (arith, small, e, past-end k (leb-true (length text) k t)))
          go false f = omega (arith, leb-false (length text) k f)

  module _ {value i : ℕ} (so_far : Number value i) where
    pub number_on : {next : ℕ} → i < length text → Some next ≡ number_of (grown value (get_or text i 0)) → Number next (i + 1)
    number_on {next} l e =
        let number = of_some _ next e in
        record { leads = leads_on text so_far.leads l number.0; small = number.1 }

    -- where one character more makes such a number, there is one more
    pub number_more : {next : ℕ} → Some next ≡ number_of (grown value (get_or text i 0)) → Number next (i + 1)
    unfolding leading
    number_more {next} e =
        let number = of_some _ next e in
        number_reads next (i + 1)
        (rw (add-one i) (number.0 ∙ ap (λ (v : ℕ). grown v (get_or text i 0)) so_far.leads.exact)) number.1

    pub numeral-stops : i < length text → None ≡ number_of (grown value (get_or text i 0)) → None ≡ number_of (numeral text)
    unfolding numeral leading
    numeral-stops l e =
        let here : two_to32 ≤ leading text (suc i) = rw so_far.leads.exact at (of_none _ e) in
        let far : two_to32 ≤ leading text (length text - suc i + suc i) = stays-large (suc i) here (length text - suc i) in
        let whole : length text - suc i + suc i ≡ length text = omega arith in
        rw (ne_eqb (length text) 0 (λ z. omega arith)) (large-none (leading text (length text)) (rw whole at far))

    pub numeral-some : false ≡ eqb (length text) 0 → i ≡ length text → Some value ≡ number_of (numeral text)
    numeral-some some e =
        rw (← (numeral-all text (eqb-false (length text) 0 (sym some)) so_far.leads (omega arith))) (small-some value so_far.small)
