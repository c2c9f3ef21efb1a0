-- The checks of each call refuse under the numbers of the table, in its order, with the place that document 01 says.
--   Plain numbers checks    each of the checks refuses under the number at its place, and with the place 0
-- Assumes nothing.
use mathlib.Core.Bool.{Bool, true, false, not, ◌&&◌}
use mathlib.Core.List.{List, [], ◌∷◌, ◌++◌}
use mathlib.Core.Logic.{◌⊎◌, ⊎_elim}
use mathlib.Core.Option.{none, some}
use mathlib.Core.Path.{◌≡◌, refl, sym, ap, ◌∙◌}
use Prim.Native.Nat.{ℕ, zero, suc, ◌+◌, ◌<◌}
use native.Mathlib.Nat.{not-suc-le-zero, le_of_suc-le-suc}
use native.Mathlib.Omega.{arith}
use borrow.Author.Tests.{ltb-true, lt-ltb, eqb-true, eq-eqb, ne_eqb}
use lib.Dec.{eqb, ltb}
use lib.ListN.{length, get_or}
use Rattle.arithmetic.specs.Counting.{lowest}
use Rattle.arithmetic.proofs.Bools.{clash, and_left, and_right, and_intro}
use Rattle.arithmetic.proofs.Counting.{lowest-found}
use Rattle.model.specs.Refusals.{Refusal}
use Rattle.model.specs.Refusals.{refusal, Check, or_next, first_of}
use Rattle.model.specs.Refusals.{bad_mark, bad_missing}
use Rattle.model.specs.Refusals.{bad_mark_number, bad_missing_number}
use Rattle.refusal_laws.proofs.Numbers.{no_refusal, entry-says, Plain, no_checks, check_more, plain_first}
use Rattle.refusal_laws.proofs.Numbers.{each, each_at, mark-number, missing-number}
use Rattle.sheet_laws.proofs.Checks.{marks-passed}
use Rattle.demand_1_2.specs.Demand1.{FirstThatApplies, InOrder, LowestAtFault, Placed}

-- ---- the first check that applies

pub first-applies : (checks : List Check) (r : Refusal) → first_of checks ≡ some r → FirstThatApplies checks r
unfolding first_of
first-applies [] r h = no_refusal h
first-applies (some x ∷ checks) r h = record { index = 0; applies = h; earlier = λ i l. absurd (not-suc-le-zero l) }
first-applies (none ∷ checks) r h =
    let rest = first-applies checks r h in
    record { index = suc rest.index; applies = rest.applies; earlier = before rest.index rest.earlier }
  where
    before :
        (k : ℕ) → ((i : ℕ) → i < k → get_or checks i none ≡ none) → (i : ℕ) → i < suc k
        → get_or {A = Check} (none ∷ checks) i none ≡ none
    before k f zero l = refl
    before k f (suc i) l = f i (le_of_suc-le-suc l)

-- it is the first of the list
pub applies-first : (checks : List Check) (r : Refusal) → FirstThatApplies checks r → first_of checks ≡ some r
unfolding first_of
applies-first checks r h = go checks h.index h.applies h.earlier
  where
    go :
        (checks : List Check) (k : ℕ) → get_or checks k none ≡ some r → ((i : ℕ) → i < k → get_or checks i none ≡ none)
        → first_of checks ≡ some r
    go [] k a e = a
    go (x ∷ checks) zero a e = ap (λ (y : Check). or_next y (first_of checks)) a
    go (x ∷ checks) (suc k) a e =
        ap (λ (y : Check). or_next y (first_of checks)) (e 0 (omega arith))
        ∙ go checks k a (λ i l. e (suc i) (omega arith))

-- none applies where the first so many pass, which are all
pub all_pass : (checks : List Check) → ((i : ℕ) → i < length checks → get_or checks i none ≡ none) → first_of checks ≡ none
unfolding first_of
all_pass [] h = refl
all_pass (x ∷ checks) h =
    ap (λ (y : Check). or_next y (first_of checks)) (h 0 (omega arith)) ∙ all_pass checks (λ i l. h (suc i) (omega arith))

-- ---- checks that have no entry to point at

no_order : InOrder [] []
no_order = record { as_many = refl; says = λ i r e. no_refusal e }

pub order-more :
    (number : ℕ) (x : Check) (ns : List ℕ) (xs : List Check) → ((r : Refusal) → x ≡ some r → r.number ≡ number)
    → InOrder ns xs → InOrder (number ∷ ns) (x ∷ xs)
order-more number x ns xs f h = record { as_many = ap suc h.as_many; says = at }
  where
    at : (i : ℕ) (r : Refusal) → get_or (x ∷ xs) i none ≡ some r → r.number ≡ get_or (number ∷ ns) i 0
    at zero r e = f r e
    at (suc i) r e = h.says i r e

pub plain_then :
    {ns : List ℕ} {xs : List Check} → Plain ns xs → (ms : List ℕ) (ys : List Check) → InOrder ms ys
    → InOrder (ns ++ ms) (xs ++ ys)
plain_then no_checks ms ys h = h
plain_then (check_more {number} {x} {numbers} {checks} f p) ms ys h =
    order-more number x (numbers ++ ms) (checks ++ ys) (λ r e. ap (λ (y : Refusal). y.number) (f r e))
    (plain_then p ms ys h)

pub plain_order : {ns : List ℕ} {xs : List Check} → Plain ns xs → InOrder ns xs
plain_order no_checks = no_order
plain_order (check_more {number} {x} {numbers} {checks} f p) =
    order-more number x numbers checks (λ r e. ap (λ (y : Refusal). y.number) (f r e)) (plain_order p)

-- ---- checks 8 and 9

-- a number that has no entry to point at
abbrev pub neither : ℕ → Bool
neither k = not (eqb k bad_mark_number) && not (eqb k bad_missing_number)

module _ (mark bits : ℕ → ℕ) (E : ℕ) where
  mark-place : (r : Refusal) → bad_mark mark E ≡ some r → LowestAtFault (λ e. 1 < mark e) E r.place
  unfolding bad_mark
  mark-place r h =
      let test : ℕ → Bool = λ e. ltb 1 (mark e) in
      let found = lowest-found test E r.place (entry-says (lowest test E) bad_mark_number r h).0 in
      record {
        is_entry = found.in_range;
        at_fault = ltb-true 1 (mark r.place) found.passes;
        lower = λ e l fault. clash (lt-ltb 1 (mark e) fault) (found.first e l);
      }

  not-zero : (x : ℕ) → not (eqb x 0) ≡ true → 0 < x
  not-zero zero h = clash h refl
  not-zero (suc x) h = omega arith

  missing-place :
      (r : Refusal) → bad_missing mark bits E ≡ some r → LowestAtFault (λ e. (mark e ≡ 0) × (0 < bits e)) E r.place
  unfolding bad_missing
  missing-place r h =
      let test : ℕ → Bool = λ e. eqb (mark e) 0 && not (eqb (bits e) 0) in
      let found = lowest-found test E r.place (entry-says (lowest test E) bad_missing_number r h).0 in
      let e = r.place in
      record {
        is_entry = found.in_range;
        at_fault = (
          eqb-true (mark e) 0 (and_left (eqb (mark e) 0) _ found.passes),
          not-zero (bits e) (and_right (eqb (mark e) 0) _ found.passes),
        );
        lower = λ i l fault.
            let some_bits : eqb (bits i) 0 ≡ false = ne_eqb (bits i) 0 (λ z. let f = fault.1 in omega arith) in
            clash (and_intro (eq-eqb (mark i) 0 fault.0) (ap not some_bits)) (found.first i l);
      }

  -- checks 8 and 9 between plain checks, whose numbers are neither
  module _ {ns ms : List ℕ} {xs ys : List Check} (before : Plain ns xs) (behind : Plain ms ys) where
    pub entry-order : InOrder (ns ++ (bad_mark_number ∷ bad_missing_number ∷ ms)) (xs ++ (bad_mark mark E ∷ bad_missing mark bits E ∷ ys))
    entry-order =
        plain_then before (bad_mark_number ∷ bad_missing_number ∷ ms) (bad_mark mark E ∷ bad_missing mark bits E ∷ ys)
        (order-more bad_mark_number (bad_mark mark E) (bad_missing_number ∷ ms) (bad_missing mark bits E ∷ ys) (mark-number mark bits E)
        (order-more bad_missing_number (bad_missing mark bits E) ms ys (missing-number mark bits E) (plain_order behind)))

    plain_placed : (k : ℕ) (r : Refusal) → neither k ≡ true → r ≡ refusal k 0 → Placed mark bits E r
    plain_placed k r h e =
        record {
          of_mark = λ z. clash (and_left (not (eqb k bad_mark_number)) _ h) (ap not (eq-eqb k bad_mark_number (number z)));
          of_missing = λ z. clash (and_right (not (eqb k bad_mark_number)) _ h) (ap not (eq-eqb k bad_missing_number (number z)));
          marks_first = λ z. clash (and_right (not (eqb k bad_mark_number)) _ h) (ap not (eq-eqb k bad_missing_number (number z)));
          elsewhere = λ _ _. ap (λ (x : Refusal). x.place) e;
        }
      where
        number : {j : ℕ} → r.number ≡ j → k ≡ j
        number z = sym (ap (λ (x : Refusal). x.number) e) ∙ z

    pub entry-placed :
        each neither ns ≡ true → each neither ms ≡ true → (r : Refusal)
        → first_of (xs ++ (bad_mark mark E ∷ bad_missing mark bits E ∷ ys)) ≡ some r → Placed mark bits E r
    unfolding first_of
    entry-placed a b r h =
        ⊎_elim
        (λ w. plain_placed (get_or ns w.0 0) r (each_at neither ns refl a w.0) w.1)
        (λ e. at_mark (bad_mark mark E) refl e)
        (plain_first before (bad_mark mark E ∷ bad_missing mark bits E ∷ ys) r h)
      where
        at-missing :
            bad_mark mark E ≡ none → (x : Check) → bad_missing mark bits E ≡ x → or_next x (first_of ys) ≡ some r
            → Placed mark bits E r
        at-missing pass (some y) p e =
            let is : bad_missing mark bits E ≡ some r = p ∙ e in
            let nine = missing-number mark bits E r is in
            record {
              of_mark = λ z. absurd (omega arith);
              of_missing = λ z. missing-place r is;
              marks_first = λ z. marks-passed mark E pass;
              elsewhere = λ f g. absurd (g nine);
            }
        at-missing pass none p e =
            ⊎_elim
            (λ w. plain_placed (get_or ms w.0 0) r (each_at neither ms refl b w.0) w.1)
            (λ e. no_refusal e)
            (plain_first behind [] r (rw mathlib.Core.List.append-nil e))

        at_mark :
            (x : Check) → bad_mark mark E ≡ x → or_next x (or_next (bad_missing mark bits E) (first_of ys)) ≡ some r
            → Placed mark bits E r
        at_mark (some y) p e =
            let is : bad_mark mark E ≡ some r = p ∙ e in
            let eight = mark-number mark bits E r is in
            record {
              of_mark = λ z. mark-place r is;
              of_missing = λ z. absurd (omega arith);
              marks_first = λ z. absurd (omega arith);
              elsewhere = λ f g. absurd (f eight);
            }
        at_mark none p e = at-missing p (bad_missing mark bits E) refl e
