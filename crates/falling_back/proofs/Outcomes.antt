-- What falling back gives, by what its calls gave, on plain values: the checks of the pair refuse; the crusaders sheet
-- settles; or it is refused, and what trying the direct sheet gave stands.
-- Assumes nothing.
use Rattle.std.proofs.Common.{Bool, true, false, not, cond, List, ◌≡◌, refl, sym, ap, ◌∙◌, ℕ, length, Ok, Err}
use Rattle.std.proofs.Math.Option.{none, some}
use Rattle.std.proofs.lemmas.Bool.{eqb-true, eqb-false, not-true, not-false}
use borrow.Author.Tests.{ne_eqb}
use native.Mathlib.Omega.{arith}
use lib.Dec.{eqb}
use denote.Enum.Bare.{sameb}
use Rattle.model.specs.Refusals.{Refusal}
use Rattle.model.specs.Refusals.{first_of, too_many_faults_number}
use Rattle.model.specs.Calls.{Verdict, granted, refused, Outcome, settle}
use Rattle.refusals.specs.declared.Refusal as code
use Rattle.refusals.specs.declared.Reason.{Reason}
use Rattle.refusals.specs.declared.Reason.TheVariants.{TooShort, BadCabinets, BadFaults, BadMethod, BadWindow, BadLength, NoRoom, BadMark, BadMissing, TooManyFaults, BadPlan, TargetMissed, BadTrace, BadRoles, RunStopped, BadSpread, BadInterval, NoInterval, BadPair, Other}
use Rattle.refusals.specs.contracts.Reason.{the_type}
use Rattle.refusals.specs.Answers.{number_of, refusal_of, outcome_of}
use Rattle.sheet_pairs.specs.Fallback.{crusaders, pair_checks, Settlement, fallback}
use Rattle.sheet_pairs.specs.Results.{Kept}
use Rattle.sheet_pairs.proofs.Results.{fallback-results, refused-buffer}
use Rattle.falling_back.specs.Trying.{settled_direct, tried_verdict, tried_buffer}

-- ---- trying the direct sheet

-- a reason is "too many faults" where its number is 10
abbrev too_many : Reason → Bool
too_many x = sameb the_type x TooManyFaults

number-ten : (x : Reason) → eqb (number_of x) too_many_faults_number ≡ too_many x
number-ten TooShort = refl
number-ten BadCabinets = refl
number-ten BadFaults = refl
number-ten BadMethod = refl
number-ten BadWindow = refl
number-ten BadLength = refl
number-ten NoRoom = refl
number-ten BadMark = refl
number-ten BadMissing = refl
number-ten TooManyFaults = refl
number-ten BadPlan = refl
number-ten TargetMissed = refl
number-ten BadTrace = refl
number-ten BadRoles = refl
number-ten RunStopped = refl
number-ten BadSpread = refl
number-ten BadInterval = refl
number-ten NoInterval = refl
number-ten BadPair = refl
number-ten (Other u) =
    ne_eqb u.number too_many_faults_number λ same.
    let far = u.none (omega (arith, same)) in
    omega (arith, same, far)

module _ (r : code.Refusal) (b answer : List ℕ) where
  module _ (other : true ≡ not (too_many r.reason)) where
    abbrev is_other : eqb (number_of r.reason) too_many_faults_number ≡ false
    is_other = number-ten r.reason ∙ not-true (too_many r.reason) (sym other)

    pub other_verdict : refused (refusal_of r) ≡ tried_verdict (refusal_of r) b answer
    unfolding tried_verdict
    other_verdict = rw is_other

    pub other_buffer : answer ≡ tried_buffer (refusal_of r) b answer
    unfolding tried_buffer
    other_buffer = rw is_other

  module _ (ten : false ≡ not (too_many r.reason)) where
    abbrev is_ten : eqb (number_of r.reason) too_many_faults_number ≡ true
    is_ten = number-ten r.reason ∙ not-false (too_many r.reason) (sym ten)

    pub ten_verdict : tried_verdict (refusal_of r) b answer ≡ settled_direct (settle b answer).verdict
    unfolding tried_verdict
    ten_verdict = rw is_ten

    pub ten_buffer : tried_buffer (refusal_of r) b answer ≡ (settle b answer).buffer
    unfolding tried_buffer
    ten_buffer = rw is_ten

-- what each way out of trying the direct sheet says
pub ruleset tried_ways = (other_verdict, other_buffer, ten_verdict, ten_buffer)

-- ---- falling back

module _ (a b answer : List ℕ) where
  abbrev Fell : Verdict Settlement → List ℕ → Type 0
  Fell v buffer = (v ≡ (fallback a b answer).verdict) × (buffer ≡ (fallback a b answer).buffer)

  kept : (r : Refusal) → Kept a b answer r → Fell (refused r) answer
  kept r h = (sym h.verdict, sym h.buffer)

  pub turned_away : (r : Refusal) → some r ≡ first_of (pair_checks a b (length answer)) → Fell (refused r) answer
  turned_away r e = kept r ((fallback-results a b answer).turned_away r (sym e))

  module _ (pass : none ≡ first_of (pair_checks a b (length answer))) (left : List ℕ) where
    pub crusaders-settle :
        (size : ℕ) → outcome_of (Ok size) left ≡ settle a answer
        → Fell (granted (record { source = crusaders; size = size })) left
    crusaders-settle size e =
        let h = (fallback-results a b answer).settles (sym pass) size (sym (ap (λ (x : Outcome). x.verdict) e)) in
        (sym h.verdict, ap (λ (x : Outcome). x.buffer) e ∙ sym h.buffer)

    -- trying the direct sheet gave v, and left the buffer so
    module _ (own : code.Refusal) (e : outcome_of (Err own) left ≡ settle a answer) where
      abbrev r : Refusal
      r = refusal_of own

      refuses : (settle a answer).verdict ≡ refused r
      refuses = sym (ap (λ (x : Outcome). x.verdict) e)

      unchanged : left ≡ answer
      unchanged = ap (λ (x : Outcome). x.buffer) e ∙ refused-buffer a answer r refuses

      after : Fell (tried_verdict r b answer) (tried_buffer r b answer)
      unfolding tried_verdict tried_buffer
      after = go (eqb r.number too_many_faults_number) refl
        where
          after_ten :
              r.number ≡ too_many_faults_number → (v : Verdict ℕ) → (settle b answer).verdict ≡ v
              → Fell (settled_direct v) (settle b answer).buffer
          after_ten ten (granted size) q =
              let h = (fallback-results a b answer).falls-back (sym pass) r refuses ten size q in
              (sym h.verdict, sym h.buffer)
          after_ten ten (refused x) q =
              let h = (fallback-results a b answer).refuses (sym pass) r refuses ten x q in
              (sym h.verdict, refused-buffer b answer x q ∙ sym h.buffer)

          go :
              (i : Bool) → eqb r.number too_many_faults_number ≡ i
              → Fell (cond i (settled_direct (settle b answer).verdict) (refused r)) (cond i (settle b answer).buffer answer)
          go true q = after_ten (eqb-true r.number too_many_faults_number q) (settle b answer).verdict refl
          go false q =
              kept r ((fallback-results a b answer).stands (sym pass) r refuses (eqb-false r.number too_many_faults_number q))

      pub after-direct :
          (v : Verdict Settlement) (buffer : List ℕ)
          → v ≡ tried_verdict r b left → buffer ≡ tried_buffer r b left → Fell v buffer
      after-direct v buffer p q =
          (p ∙ ap (tried_verdict r b) unchanged ∙ after.0, q ∙ ap (tried_buffer r b) unchanged ∙ after.1)
