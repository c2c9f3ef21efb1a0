-- Tests as equations with `true` and `false`: a conjunction or a disjunction taken apart and put together.
-- Assumes nothing.
use mathlib.Core.Bool.{Bool, true, false, cond, ◌&&◌, ◌||◌}
use mathlib.Core.Logic.{◌⊎◌, inl, inr}
use mathlib.Core.Path.{◌≡◌, refl, sym, ap, ap₂, subst}
use lib.Dec.{T}

-- a test either passes or fails
pub both_ways : (b : Bool) → (b ≡ true) ⊎ (b ≡ false)
both_ways true = inl refl
both_ways false = inr refl

pub clash {ℓ} : {X : Type ℓ} {b : Bool} → b ≡ true → b ≡ false → X
clash {b = true} p q = absurd (subst T q tt)
clash {b = false} p q = absurd (subst T (sym p) tt)

pub to-T : {b : Bool} → b ≡ true → T b
to-T p = subst T (sym p) tt

pub of_t : (b : Bool) → T b → b ≡ true
of_t true t = refl
of_t false t = absurd t

pub and_left : (a b : Bool) → (a && b) ≡ true → a ≡ true
and_left true b h = refl
and_left false b h = h

pub and_right : (a b : Bool) → (a && b) ≡ true → b ≡ true
and_right true b h = h
and_right false b h = clash h refl

pub and_intro : {a b : Bool} → a ≡ true → b ≡ true → (a && b) ≡ true
and_intro {a = true} p q = q
and_intro {a = false} p q = p

pub or_cases : (a b : Bool) → (a || b) ≡ true → (a ≡ true) ⊎ (b ≡ true)
or_cases true b h = inl refl
or_cases false b h = inr h

pub or_inl : {a : Bool} (b : Bool) → a ≡ true → (a || b) ≡ true
or_inl {a = true} b p = refl
or_inl {a = false} b p = clash p refl

pub or_inr : (a : Bool) {b : Bool} → b ≡ true → (a || b) ≡ true
or_inr true p = refl
or_inr false p = p

pub or_false : {a b : Bool} → a ≡ false → b ≡ false → (a || b) ≡ false
or_false {a = true} p q = p
or_false {a = false} p q = q

-- a conjunction whose last part fails
pub and_false : (a : Bool) {b : Bool} → b ≡ false → (a && b) ≡ false
and_false true e = e
and_false false e = refl

-- the parts of a disjunction that fails
pub or_left : (a b : Bool) → (a || b) ≡ false → a ≡ false
or_left true b h = h
or_left false b h = refl

pub or_right : (a b : Bool) → (a || b) ≡ false → b ≡ false
or_right true b h = clash refl h
or_right false b h = h

-- two tests that pass together are equal
pub iff_eq : (a b : Bool) → (a ≡ true → b ≡ true) → (b ≡ true → a ≡ true) → a ≡ b
iff_eq true true f g = refl
iff_eq true false f g = sym (f refl)
iff_eq false true f g = g refl
iff_eq false false f g = refl

-- two conjunctions are equal where their first parts are, and their second parts where the first passes
pub and_ext : {a b c d : Bool} → a ≡ b → (a ≡ true → c ≡ d) → (a && c) ≡ (b && d)
and_ext {a = true} e f = ap₂ (λ (p q : Bool). p && q) e (f refl)
and_ext {a = false} {d = d} e f = ap (λ (p : Bool). p && d) e

-- two choices are equal where their tests are, and what they choose where the test passes
pub cond_ext : {A : Type 0} {a b : Bool} {x y z w : A} → a ≡ b → (a ≡ true → x ≡ y) → z ≡ w → cond a x z ≡ cond b y w
cond_ext {a = true} {b} {x} {y} {z} {w} e f g = rw (← e, f refl)
cond_ext {a = false} {b} {x} {y} {z} {w} e f g = rw (← e, g)

-- a test that does not pass fails
pub not-true-false : (b : Bool) → (b ≡ true → ⊥) → b ≡ false
not-true-false true f = absurd (f refl)
not-true-false false f = refl
