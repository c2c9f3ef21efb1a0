-- The first refusal of a list of checks: over lists joined, and where none refuses.
-- Assumes nothing.
use mathlib.Core.Bool.{Bool, true, false}
use mathlib.Core.List.{List, [], ◌∷◌, ◌++◌}
use mathlib.Core.Option.{Option, none, some}
use mathlib.Core.Path.{◌≡◌, refl, sym, ap, ◌∙◌}
use Prim.Native.Nat.{ℕ, zero, suc}
use lib.ListN.{get_or}
use Rattle.model.specs.Refusals.{Check, refuse_if, at_entry, or_next, first_of}

-- the first of two lists joined: the first list's, or else the second's
pub first_append : (xs ys : List Check) → first_of (xs ++ ys) ≡ or_next (first_of xs) (first_of ys)
unfolding first_of
first_append [] ys = refl
first_append (none ∷ xs) ys = first_append xs ys
first_append (some r ∷ xs) ys = refl

first_one : (r : Check) → first_of (r ∷ []) ≡ r
unfolding first_of
first_one none = refl
first_one (some r) = refl

-- one check more
pub first_snoc : (xs : List Check) (r : Check) → first_of (xs ++ (r ∷ [])) ≡ or_next (first_of xs) r
first_snoc xs r = first_append xs (r ∷ []) ∙ ap (or_next (first_of xs)) (first_one r)

pub next-none : (a : Check) → or_next a none ≡ a
next-none none = refl
next-none (some r) = refl

-- neither of two checks refuses where the first of them does not
pub next-none-left : (a b : Check) → or_next a b ≡ none → a ≡ none
next-none-left none b h = refl
next-none-left (some r) b h = h

pub next-none-right : (a b : Check) → or_next a b ≡ none → b ≡ none
next-none-right none b h = h
next-none-right (some r) b h = cc

pub none_left : (xs ys : List Check) → first_of (xs ++ ys) ≡ none → first_of xs ≡ none
none_left xs ys h = next-none-left (first_of xs) (first_of ys) (sym (first_append xs ys) ∙ h)

pub none_right : (xs ys : List Check) → first_of (xs ++ ys) ≡ none → first_of ys ≡ none
none_right xs ys h = next-none-right (first_of xs) (first_of ys) (sym (first_append xs ys) ∙ h)

-- where the first of a list does not refuse, no check of it does
pub none-at : (checks : List Check) → first_of checks ≡ none → (i : ℕ) → get_or checks i none ≡ none
unfolding first_of
none-at [] h i = refl
none-at (r ∷ checks) h zero = next-none-left r (first_of checks) h
none-at (r ∷ checks) h (suc i) = none-at checks (next-none-right r (first_of checks) h) i

-- a check by its test
pub when_none : (b : Bool) (number : ℕ) → refuse_if b number ≡ none → b ≡ false
when_none true number h = cc
when_none false number h = refl

-- a check by the lowest entry at fault
pub entry-none : (o : Option ℕ) (number : ℕ) → at_entry o number ≡ none → o ≡ none
entry-none none number h = refl
entry-none (some e) number h = cc
