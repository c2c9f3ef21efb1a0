-- What check 10 says of a count, and what is left in the buffer then.
-- Assumes nothing.
use mathlib.Core.Bool.{Bool, true, false}
use mathlib.Core.List.{List}
use mathlib.Core.Option.{some, none}
use mathlib.Core.Path.{◌≡◌, refl, sym, ◌∙◌}
use Prim.Native.Nat.{ℕ}
use native.Mathlib.Omega.{arith}
use borrow.Author.Tests.{eq-eqb, ne_eqb, eqb-true}
use lib.Dec.{eqb}
use Rattle.model.specs.Refusals.{Refusal}
use Rattle.model.specs.Refusals.{Check, refusal, too_many_faults, too_many_faults_number}
use Rattle.answer_writer.specs.Answers.{written_of}
use Rattle.outcomes.specs.Outcomes.{concluded}

-- where no reading is accepted
module _ (count : ℕ) (none-accepted : count ≡ 0) where
  pub none-refused : some (refusal too_many_faults_number 0) ≡ too_many_faults count
  unfolding too_many_faults
  none-refused = rw (eq-eqb count 0 none-accepted)

  pub none_written : (e v : ℕ) (marks values old : List ℕ) → old ≡ concluded count e v marks values old
  unfolding concluded
  none_written e v marks values old = rw (eq-eqb count 0 none-accepted)

-- where some is
module _ (count : ℕ) (some-accepted : count ≡ 0 → ⊥) where
  pub some-passed : none ≡ too_many_faults count
  unfolding too_many_faults
  some-passed = rw (ne_eqb count 0 some-accepted)

  pub some_written :
      (e v : ℕ) (marks values old : List ℕ)
      → written_of count e v marks values old ≡ concluded count e v marks values old
  unfolding concluded
  some_written e v marks values old = rw (ne_eqb count 0 some-accepted)

-- ---- what the check says, told back

none_is_some : (r : Refusal) → ◌≡◌ {A = Check} none (some r) → ⊥
none_is_some r e = let z : ◌≡◌ {A = ℕ} 0 1 = cc in omega arith

module _ (count e v : ℕ) (marks values old left : List ℕ) (is-left : left ≡ concluded count e v marks values old) where
  -- a refusal says that none is accepted, and nothing is written
  pub record NoneLeft (r : Refusal) : Type 0 where
    pub count_none : count ≡ 0
    pub number : r ≡ refusal too_many_faults_number 0
    pub kept : left ≡ old

  pub none_left : (r : Refusal) → some r ≡ too_many_faults count → NoneLeft r
  unfolding too_many_faults
  none_left r told = go (eqb count 0) refl
    where
      same : some r ≡ some (refusal too_many_faults_number 0) → r ≡ refusal too_many_faults_number 0
      same q = cc

      go : (b : Bool) → eqb count 0 ≡ b → NoneLeft r
      go true t =
          let z = eqb-true count 0 t in
          record {
            count_none = z;
            number = same (told ∙ rw t);
            kept = is-left ∙ sym (none_written count z e v marks values old);
          }
      go false t = absurd (none_is_some r (sym (told ∙ rw t)))

  -- where it says nothing, some reading is accepted, and the answer sheet is written
  pub record SomeLeft : Type 0 where
    pub count-some : count ≡ 0 → ⊥
    pub put : left ≡ written_of count e v marks values old

  pub some_left : none ≡ too_many_faults count → SomeLeft
  some_left told = record { count-some = d; put = is-left ∙ sym (some_written count d e v marks values old) }
    where
      d : count ≡ 0 → ⊥
      d z = none_is_some (refusal too_many_faults_number 0) (told ∙ sym (none-refused count z))
