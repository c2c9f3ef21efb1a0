-- A reason is its number: there is one reason for each, and `==` of two reasons, or of two refusals, tells whether they
-- are the same.
-- Assumes nothing.
use Rattle.std.proofs.Common.{◌≡◌, ℕ, ◌-◌, Bool, List, [], ◌∷◌, get_or, IsTrue, ◌↔◌, refl, sym, ap, ap₂, ◌∙◌, arith}
use lib.Dec.{eqb}
use Rattle.std.proofs.lemmas.Bool.{and_parts, and_from}
use borrow.Author.Tests.{eqb-true, eq-eqb, ne_eqb}
use Rattle.refusals.specs.declared.Refusal as code
use Rattle.refusals.specs.declared.unlisted.Unlisted.{Unlisted}
use Rattle.refusals.specs.declared.Reason.{Reason}
use Rattle.refusals.specs.declared.Reason.TheVariants.{TooShort, BadCabinets, BadFaults, BadMethod, BadWindow, BadLength, NoRoom, BadMark, BadMissing, TooManyFaults, BadPlan, TargetMissed, BadTrace, BadRoles, RunStopped, BadSpread, BadInterval, NoInterval, BadPair, Other}
use Rattle.refusals.specs.contracts.unlisted.Unlisted.{the_type}
use Rattle.refusals.specs.contracts.ReasonPartialEq.TheImpl as reasons
use Rattle.refusals.specs.contracts.RefusalPartialEq.TheImpl as refusals
use Rattle.refusals.specs.Answers.{number_of, Listed}

-- ---- a number is that of one reason

unlisted_one : (u v : Unlisted) → u.number ≡ v.number → u ≡ v
unlisted_one u v e = the_type.to_one u v (ap (λ (n : ℕ). (n, tt)) e)

-- no other number is a listed reason's
pub other-apart : {X : Type 0} (u : Unlisted) (a : Reason) → Listed a → u.number ≡ number_of a → X
other-apart u a listed e =
    let far = u.none (omega (arith, e, listed.0)) in
    absurd (omega (arith, e, far, listed.1))

abbrev in_order : List Reason
in_order =
    TooShort ∷ BadCabinets ∷ BadFaults ∷ BadMethod ∷ BadWindow ∷ BadLength ∷ NoRoom ∷ BadMark ∷ BadMissing ∷ TooManyFaults
    ∷ BadPlan ∷ TargetMissed ∷ BadTrace ∷ BadRoles ∷ RunStopped ∷ BadSpread ∷ BadInterval ∷ NoInterval ∷ BadPair ∷ []

abbrev at_number : ℕ → Reason
at_number n = get_or in_order (n - 1) TooShort

-- a reason is one of the 19, or has another number
data Kind : Reason → Type 0 where
  of-table : {a : Reason} → Listed a → at_number (number_of a) ≡ a → Kind a
  of-none : (u : Unlisted) → Kind (Other u)

kind : (a : Reason) → Kind a
kind (Other u) = of-none u
kind a = of-table (omega arith, omega arith) refl

pub number_one : (a b : Reason) → number_of a ≡ number_of b → a ≡ b
number_one a b = go (kind a) (kind b)
  where
    go : {a b : Reason} → Kind a → Kind b → number_of a ≡ number_of b → a ≡ b
    go (of-table l x) (of-table m y) e = sym x ∙ ap at_number e ∙ y
    go (of-table {a} l x) (of-none v) e = other-apart v a l (sym e)
    go (of-none u) (of-table {a = b} m y) e = other-apart u b m e
    go (of-none u) (of-none v) e = ap Other (unlisted_one u v e)

-- ---- what `==` tells

abbrev same_reason : Reason → Reason → Bool
same_reason = (reasons.ghosts).eq

by_number : (a b : Reason) → same_reason a b ≡ eqb (number_of a) (number_of b)
by_number (Other u) (Other v) = refl
by_number (Other u) b = sym (ne_eqb u.number (number_of b) (other-apart u b (omega arith, omega arith)))
by_number a (Other v) = sym (ne_eqb (number_of a) v.number (λ e. other-apart v a (omega arith, omega arith) (sym e)))
by_number a b = refl

pub reason-same : (a b : Reason) → IsTrue (same_reason a b) ↔ (a ≡ b)
reason-same a b = (
  λ t. number_one a b (eqb-true (number_of a) (number_of b) (sym (by_number a b) ∙ t)),
  λ e. by_number a b ∙ eq-eqb (number_of a) (number_of b) (ap number_of e),
)

abbrev same_refusal : code.Refusal → code.Refusal → Bool
same_refusal = (refusals.ghosts).eq

pub refusal-same : (a b : code.Refusal) → IsTrue (same_refusal a b) ↔ (a ≡ b)
refusal-same a b = (
  λ t.
      let both = and_parts (same_reason a.reason b.reason) (eqb a.place b.place) t in
      ap₂ (λ (r : Reason) (p : ℕ). record { reason = r; place = p }) ((reason-same a.reason b.reason).0 both.0)
      (eqb-true a.place b.place both.1),
  λ e.
      and_from (same_reason a.reason b.reason) (eqb a.place b.place)
      ((reason-same a.reason b.reason).1 (ap (λ (r : code.Refusal). r.reason) e))
      (eq-eqb a.place b.place (ap (λ (r : code.Refusal). r.place) e)),
)
