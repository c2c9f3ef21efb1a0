-- What settling answers is got back from its number: a length is below 2^32, and a refusal, whose number is 1 to 12, is
-- not.
-- Assumes nothing.
use mathlib.Core.List.{List}
use mathlib.Core.Option.{none, some}
use mathlib.Core.Path.{◌≡◌, refl, ap, ap₂, ◌∙◌}
use Prim.Native.Nat.{ℕ, ◌≤◌, ◌%◌, ◌<◌}
use native.Mathlib.Omega.{arith}
use borrow.Author.Tests.{lt-ltb, le-ltb}
use lib.ListN.{length}
use Rattle.arithmetic.specs.Words.{two_to32}
use Rattle.model.specs.RoundSheet.{settings_at}
use Rattle.model.specs.AnswerSheet.{answer_length}
use Rattle.model.specs.Refusals.{Check, refusal, first_of, settle_checks}
use Rattle.model.specs.Calls.{Verdict, refused, verdict, Outcome, settle_spread, settle}
use Rattle.refusal_laws.proofs.Tables.{Sound}
use Rattle.sheet_laws.proofs.Tables.{settle-sound, settled-few}
use Rattle.packed_refusals.specs.Answers.{packed_refusal, packed}
use Rattle.packed_refusals.proofs.Halves.{upper_back, lower-back}
use Rattle.packed_settling.specs.Unpacking.{unpacked, Packs}

got_back :
    (check : Check) (size : ℕ) → Sound 12 check → (check ≡ none → size < two_to32)
    → unpacked (packed (verdict check size)) ≡ verdict check size
unfolding unpacked
got_back none size t small = rw (lt-ltb size two_to32 (small refl))
got_back (some r) size t small =
    let told = t.told r refl in
    let first = told.first in
    let last = told.last in
    let low : r.number % 256 ≡ r.number = omega arith in
    rw (le-ltb (packed_refusal r) two_to32 (omega arith))
    (ap₂ (λ (number place : ℕ). refused (refusal number place))
    (ap (λ (x : ℕ). x % 256) (upper_back r.number r.place told.small) ∙ low)
    (lower-back r.number r.place told.small))

module _ (s answer : List ℕ) where
  pub settle-back : unpacked (packed (settle_spread s 0 answer).verdict) ≡ (settle s answer).verdict
  unfolding settle settle_spread
  settle-back =
      got_back (first_of (settle_checks s 0 (length answer))) (answer_length (settings_at s).n)
      (settle-sound s (length answer)) λ pass.
      let cabinets = settled-few s 0 (length answer) pass in
      omega arith

  pub buffer-back : (settle_spread s 0 answer).buffer ≡ (settle s answer).buffer
  unfolding settle
  buffer-back = refl

  -- by what is unpacked, and the buffer as it is left
  pub settled_back :
      (v : Verdict ℕ) (said : ℕ) (left : List ℕ) → v ≡ unpacked said → said ≡ packed (settle_spread s 0 answer).verdict
      → left ≡ (settle_spread s 0 answer).buffer
      → record { verdict = v; buffer = left } ≡ settle s answer
  settled_back v said left is-unpacked is_packed is-left =
      ap₂ outcome (is-unpacked ∙ ap unpacked is_packed ∙ settle-back) (is-left ∙ buffer-back)
    where
      outcome : Verdict ℕ → List ℕ → Outcome
      outcome v buffer = record { verdict = v; buffer = buffer }

-- what settling packs is a length or a listed refusal
packs : (check : Check) (size : ℕ) → Sound 12 check → (check ≡ none → size < two_to32) → Packs (packed (verdict check size))
packs none size t small big = let few = small refl in absurd (omega arith)
packs (some r) size t small big =
    let told = t.told r refl in
    let first = told.first in
    let last = told.last in
    let upper = upper_back r.number r.place told.small in
    (omega arith, omega arith)

pub settle-packs : (s answer : List ℕ) (said : ℕ) → said ≡ packed (settle_spread s 0 answer).verdict → Packs said
unfolding settle_spread
settle-packs s answer said e =
    rw e
    (packs (first_of (settle_checks s 0 (length answer))) (answer_length (settings_at s).n) (settle-sound s (length answer)) λ pass.
    let cabinets = settled-few s 0 (length answer) pass in
    omega arith)
