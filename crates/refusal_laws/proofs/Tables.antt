-- Refusals of the table up to some number, with a place that 32 bits hold; and the checks that give no other.
-- Assumes nothing.
use mathlib.Core.Bool.{Bool, true, ◌&&◌}
use mathlib.Core.List.{List}
use mathlib.Core.Option.{none, some}
use mathlib.Core.Path.{◌≡◌, refl, ap}
use Prim.Native.Nat.{ℕ, ◌≤◌, ◌<◌}
use native.Mathlib.Omega.{arith}
use borrow.Author.Tests.{leb-true}
use lib.Dec.{leb, ltb}
use Rattle.arithmetic.specs.Counting.{lowest}
use Rattle.arithmetic.specs.Words.{two_to32}
use Rattle.arithmetic.proofs.Bools.{and_left, and_right}
use Rattle.arithmetic.proofs.Counting.{lowest-found}
use Rattle.model.specs.Refusals.{Refusal}
use Rattle.model.specs.Refusals.{Check, at_entry, or_next, first_of, bad_mark_number, bad_missing_number}
use Rattle.model.specs.Refusals.{not_zero, bad_mark, bad_missing, array_checks}
use Rattle.refusal_laws.proofs.Numbers.{Says, entry-says, Plain, no_checks, check_more, each}
use Rattle.refusal_laws.proofs.Numbers.{mark-number, missing-number}

pub record InTable (most : ℕ) (r : Refusal) : Type 0 where
  pub first : 1 ≤ r.number
  pub last : r.number ≤ most
  pub small : r.place < two_to32

-- a check that refuses gives such a refusal
pub record Sound (most : ℕ) (check : Check) : Type 0 where
  pub told : (r : Refusal) → check ≡ some r → InTable most r

pub none-sound : {most : ℕ} → Sound most none
none-sound = record { told = λ r e. let clash : ◌≡◌ {A = ℕ} 0 1 = cc in absurd (omega arith) }

-- the first of two, where the second one is asked only if the first does not refuse
pub next-sound : {most : ℕ} (a b : Check) → Sound most a → (a ≡ none → Sound most b) → Sound most (or_next a b)
next-sound none b x y = y refl
next-sound (some r) b x y = x

-- a number of the table
abbrev pub listed : ℕ → ℕ → Bool
listed most number = leb 1 number && leb number most

pub in_table :
    (most number : ℕ) (r : Refusal) → listed most number ≡ true → r.number ≡ number → r.place < two_to32
    → InTable most r
in_table most number r h e small =
    let first = leb-true 1 number (and_left (leb 1 number) (leb number most) h) in
    let last = leb-true number most (and_right (leb 1 number) (leb number most) h) in
    record { first = omega arith; last = omega arith; small = small }

-- checks that have no entry to point at
pub says-sound : {most number : ℕ} {x : Check} → Says number x → listed most number ≡ true → Sound most x
says-sound {most} {number} f h =
    record {
      told = λ r e.
          let place = ap (λ (y : Refusal). y.place) (f r e) in
          in_table most number r h (ap (λ (y : Refusal). y.number) (f r e)) (omega arith);
    }

pub plain_sound :
    {most : ℕ} {numbers : List ℕ} {checks : List Check} → Plain numbers checks → each (listed most) numbers ≡ true
    → Sound most (first_of checks)
unfolding first_of each
plain_sound no_checks h = none-sound
plain_sound {most} (check_more {number} {x} {numbers} {checks} f p) h =
    next-sound x (first_of checks) (says-sound f (and_left (listed most number) (each (listed most) numbers) h)) λ _.
    plain_sound p (and_right (listed most number) (each (listed most) numbers) h)

-- 8 and 9 point at an entry
module _ (most : ℕ) (marks : listed most bad_mark_number ≡ true) (missed : listed most bad_missing_number ≡ true)
    (mark bits : ℕ → ℕ) (E : ℕ) (few : E < two_to32) where
  entry_place : (p : ℕ → Bool) (number : ℕ) (r : Refusal) → at_entry (lowest p E) number ≡ some r → r.place < two_to32
  entry_place p number r h =
      let here = (lowest-found p E r.place (entry-says (lowest p E) number r h).0).in_range in
      omega arith

  mark-sound : Sound most (bad_mark mark E)
  unfolding bad_mark
  mark-sound =
      record {
        told = λ r e.
            in_table most bad_mark_number r marks (mark-number mark bits E r e)
            (entry_place (λ i. ltb 1 (mark i)) bad_mark_number r e);
      }

  missing-sound : Sound most (bad_missing mark bits E)
  unfolding bad_missing
  missing-sound =
      record {
        told = λ r e.
            in_table most bad_missing_number r missed (missing-number mark bits E r e)
            (entry_place (λ i. not_zero (mark i) (bits i)) bad_missing_number r e);
      }

  pub array_sound : Sound most (first_of (array_checks mark bits E))
  unfolding first_of
  array_sound =
      next-sound (bad_mark mark E) _ mark-sound λ _.
      next-sound (bad_missing mark bits E) none missing-sound λ _. none-sound
