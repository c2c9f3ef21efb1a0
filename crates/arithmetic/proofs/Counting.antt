-- Laws of counting and searching over the indices below n.
-- Assumes nothing.
use mathlib.Core.Bool.{Bool, true, false, not, ◌&&◌, ◌||◌}
use mathlib.Core.Logic.{◌⊎◌, inl, inr, ⊎_elim}
use mathlib.Core.Option.{Option, none, some}
use mathlib.Core.Path.{◌≡◌, refl, sym, ap, ap₂, ◌∙◌}
use Prim.Native.Nat.{ℕ, zero, suc, ◌+◌, ◌≤◌, ◌<◌, zero-le}
use native.Mathlib.Nat.{le_refl, add-le-add, lt-suc_self, le_step, not-suc-le-zero}
use native.Mathlib.Omega.{arith}
use Rattle.arithmetic.specs.Counting.{bit, count, any_below, lowest, highest, or_index}
use Rattle.arithmetic.proofs.Bools.{both_ways, clash, and_left, and_right, or_cases, or_inl, or_inr, or_false}

-- ---- the last index and those before it

-- what holds at every index below n + 1 holds below n, and at n
pub initial : {P : ℕ → Type 0} {n : ℕ} → ((i : ℕ) → i < suc n → P i) → (i : ℕ) → i < n → P i
initial f i h = f i (le_step h)

pub last : {P : ℕ → Type 0} {n : ℕ} → ((i : ℕ) → i < suc n → P i) → P n
last {n} f = f n (lt-suc_self n)

-- an index below n + 1 is n or lies below it
pub split-last : (i n : ℕ) → i < suc n → (i < n) ⊎ (i ≡ n)
split-last i n h = ⊎_elim (λ e. inr e) (λ l. inl l) (native.Mathlib.Nat.eq-or-lt_of_le (native.Mathlib.Nat.le_of_suc-le-suc h))

-- ---- bits

pub bit_le : (a b : Bool) → (a ≡ true → b ≡ true) → bit a ≤ bit b
bit_le false b f = zero-le
bit_le true true f = le_refl 1
bit_le true false f = clash (f refl) refl

pub bit-le-one : (a : Bool) → bit a ≤ 1
bit-le-one false = zero-le
bit-le-one true = le_refl 1

-- ---- count

pub count_ext : (p q : ℕ → Bool) (n : ℕ) → ((i : ℕ) → i < n → p i ≡ q i) → count p n ≡ count q n
unfolding count
count_ext p q zero h = refl
count_ext p q (suc n) h = ap₂ (λ (a b : ℕ). a + b) (count_ext p q n (initial h)) (ap bit (last h))

pub count_mono : (p q : ℕ → Bool) (n : ℕ) → ((i : ℕ) → i < n → p i ≡ true → q i ≡ true) → count p n ≤ count q n
unfolding count
count_mono p q zero h = zero-le
count_mono p q (suc n) h = add-le-add (count_mono p q n (initial h)) (bit_le (p n) (q n) (last h))

pub count-le : (p : ℕ → Bool) (n : ℕ) → count p n ≤ n
unfolding count
count-le p zero = zero-le
count-le p (suc n) =
    let ih = count-le p n in
    let b = bit-le-one (p n) in
    omega arith

bit-both : (a b : Bool) → bit a + bit b ≡ bit (a && b) + bit (a || b)
bit-both true b = omega arith
bit-both false b = refl

-- the counts of two tests add up to those of both and of either
pub count-both : (p q : ℕ → Bool) (n : ℕ) → count p n + count q n ≡ count (λ i. p i && q i) n + count (λ i. p i || q i) n
unfolding count
count-both p q zero = refl
count-both p q (suc n) =
    let ih = count-both p q n in
    let b = bit-both (p n) (q n) in
    omega arith

bit_not : (a : Bool) → bit a + bit (not a) ≡ 1
bit_not true = refl
bit_not false = refl

pub count-not : (p : ℕ → Bool) (n : ℕ) → count p n + count (λ i. not (p i)) n ≡ n
unfolding count
count-not p zero = refl
count-not p (suc n) =
    let ih = count-not p n in
    let b = bit_not (p n) in
    omega arith

-- where something is counted, some index passes
pub count-some : (p : ℕ → Bool) (n : ℕ) → 0 < count p n → (i : ℕ) × (i < n) × (p i ≡ true)
unfolding count
count-some p zero h = absurd (not-suc-le-zero h)
count-some p (suc n) h = go (p n) refl (count-some p n) h
  where
    go : (b : Bool) → p n ≡ b → (0 < count p n → (i : ℕ) × (i < n) × (p i ≡ true)) → 0 < count p n + bit b → (i : ℕ) × (i < suc n) × (p i ≡ true)
    go true e ih k = (n, lt-suc_self n, e)
    go false e ih k = let s = ih (omega arith) in (s.0, le_step s.1, s.2)

pub count-pos : (p : ℕ → Bool) (n i : ℕ) → i < n → p i ≡ true → 0 < count p n
unfolding count
count-pos p zero i h e = absurd (not-suc-le-zero h)
count-pos p (suc n) i h e =
    ⊎_elim
    (λ l. let c = count-pos p n i l e in omega arith)
    (λ s. let b : bit (p n) ≡ 1 = ap bit (ap p (sym s) ∙ e) in omega arith)
    (split-last i n h)

-- two tests that together pass more often than there are indices pass together
pub share : (p q u : ℕ → Bool) (n : ℕ) → ((i : ℕ) → i < n → p i ≡ true → u i ≡ true) → ((i : ℕ) → i < n → q i ≡ true → u i ≡ true) → count u n < count p n + count q n → (i : ℕ) × (i < n) × (p i ≡ true) × (q i ≡ true)
share p q u n hp hq h =
    let both = count-both p q n in
    let either = count_mono (λ i. p i || q i) u n (λ i l e. ⊎_elim (hp i l) (hq i l) (or_cases (p i) (q i) e)) in
    let s = count-some (λ i. p i && q i) n (omega arith) in
    (s.0, s.1, and_left (p s.0) (q s.0) s.2, and_right (p s.0) (q s.0) s.2)

-- ---- any

pub any_some : (p : ℕ → Bool) (n : ℕ) → any_below p n ≡ true → (i : ℕ) × (i < n) × (p i ≡ true)
unfolding any_below
any_some p zero h = clash h refl
any_some p (suc n) h =
    ⊎_elim
    (λ l. let s = any_some p n l in (s.0, le_step s.1, s.2))
    (λ e. (n, lt-suc_self n, e))
    (or_cases (any_below p n) (p n) h)

pub any-true : (p : ℕ → Bool) (n i : ℕ) → i < n → p i ≡ true → any_below p n ≡ true
unfolding any_below
any-true p zero i h e = absurd (not-suc-le-zero h)
any-true p (suc n) i h e =
    ⊎_elim
    (λ l. or_inl (p n) (any-true p n i l e))
    (λ s. or_inr (any_below p n) (ap p (sym s) ∙ e))
    (split-last i n h)

pub any_false : (p : ℕ → Bool) (n : ℕ) → ((i : ℕ) → i < n → p i ≡ false) → any_below p n ≡ false
unfolding any_below
any_false p zero h = refl
any_false p (suc n) h = or_false (any_false p n (initial h)) (last h)

pub any_ext : (p q : ℕ → Bool) (n : ℕ) → ((i : ℕ) → i < n → p i ≡ q i) → any_below p n ≡ any_below q n
unfolding any_below
any_ext p q zero h = refl
any_ext p q (suc n) h = ap₂ (λ (a b : Bool). a || b) (any_ext p q n (initial h)) (last h)

-- ---- lowest

pub lowest-none : (p : ℕ → Bool) (n : ℕ) → ((i : ℕ) → i < n → p i ≡ false) → lowest p n ≡ none
unfolding lowest
lowest-none p zero h = refl
lowest-none p (suc n) h = ap₂ (λ (o : Option ℕ) (b : Bool). or_index o b n) (lowest-none p n (initial h)) (last h)

pub lowest-some : (p : ℕ → Bool) (n i : ℕ) → i < n → p i ≡ true → ((j : ℕ) → j < i → p j ≡ false) → lowest p n ≡ some i
unfolding lowest
lowest-some p zero i h e f = absurd (not-suc-le-zero h)
lowest-some p (suc n) i h e f =
    ⊎_elim
    (λ l. ap (λ (o : Option ℕ). or_index o (p n) n) (lowest-some p n i l e f))
    (λ s.
    ap₂ (λ (o : Option ℕ) (b : Bool). or_index o b n) (lowest-none p n (λ j l. f j (rw s l))) (ap p (sym s) ∙ e)
    ∙ ap {B = Option ℕ} some (sym s))
    (split-last i n h)

pub lowest_ext : (p q : ℕ → Bool) (n : ℕ) → ((i : ℕ) → i < n → p i ≡ q i) → lowest p n ≡ lowest q n
unfolding lowest
lowest_ext p q zero h = refl
lowest_ext p q (suc n) h = ap₂ (λ (o : Option ℕ) (b : Bool). or_index o b n) (lowest_ext p q n (initial h)) (last h)

-- what a search found passes, and nothing below it does
pub record Lowest (p : ℕ → Bool) (n i : ℕ) : Type 0 where
  pub in_range : i < n
  pub passes : p i ≡ true
  pub first : (j : ℕ) → j < i → p j ≡ false

-- a search either finds the lowest index that passes, or none passes
pub lowest-cases : (p : ℕ → Bool) (n : ℕ) → ((i : ℕ) × (lowest p n ≡ some i) × Lowest p n i) ⊎ ((lowest p n ≡ none) × ((i : ℕ) → i < n → p i ≡ false))
unfolding lowest
lowest-cases p zero = inr (refl, λ i h. absurd (not-suc-le-zero h))
lowest-cases p (suc n) = ⊎_elim found (λ w. ⊎_elim (here w) (nowhere w) (both_ways (p n))) (lowest-cases p n)
  where
    Out : Type 0
    Out =
        ((i : ℕ) × (or_index (lowest p n) (p n) n ≡ some i) × Lowest p (suc n) i)
        ⊎ ((or_index (lowest p n) (p n) n ≡ none) × ((i : ℕ) → i < suc n → p i ≡ false))

    found : ((i : ℕ) × (lowest p n ≡ some i) × Lowest p n i) → Out
    found w =
        inl (w.0, ap (λ (o : Option ℕ). or_index o (p n) n) w.1, record { in_range = le_step w.2.in_range; passes = w.2.passes; first = w.2.first })

    here : (lowest p n ≡ none) × ((i : ℕ) → i < n → p i ≡ false) → p n ≡ true → Out
    here w e =
        inl (n, ap₂ (λ (o : Option ℕ) (b : Bool). or_index o b n) w.0 e, record { in_range = lt-suc_self n; passes = e; first = w.1 })

    nowhere : (lowest p n ≡ none) × ((i : ℕ) → i < n → p i ≡ false) → p n ≡ false → Out
    nowhere w e =
        inr (ap₂ (λ (o : Option ℕ) (b : Bool). or_index o b n) w.0 e, λ i h. ⊎_elim (w.1 i) (λ s. ap p s ∙ e) (split-last i n h))

-- what a search answers, read off the answer
pub lowest-found : (p : ℕ → Bool) (n i : ℕ) → lowest p n ≡ some i → Lowest p n i
lowest-found p n i e =
    ⊎_elim
    (λ w. let s : w.0 ≡ i = cc (w.1, e) in rw s at w.2)
    (λ w. let z : ◌≡◌ {A = ℕ} 0 1 = cc (w.0, e) in absurd (impossible z))
    (lowest-cases p n)
  where
    impossible : ◌≡◌ {A = ℕ} 0 1 → ⊥
    impossible z = omega arith

pub lowest-missed : (p : ℕ → Bool) (n : ℕ) → lowest p n ≡ none → (i : ℕ) → i < n → p i ≡ false
lowest-missed p n e =
    ⊎_elim
    (λ w. let z : ◌≡◌ {A = ℕ} 0 1 = cc (w.1, e) in absurd (impossible z))
    (λ w. w.1)
    (lowest-cases p n)
  where
    impossible : ◌≡◌ {A = ℕ} 0 1 → ⊥
    impossible z = omega arith

-- ---- highest

pub highest-some : (p : ℕ → Bool) (n i : ℕ) → i < n → p i ≡ true → ((j : ℕ) → i < j → j < n → p j ≡ false) → highest p n ≡ some i
unfolding highest
highest-some p zero i h e f = absurd (not-suc-le-zero h)
highest-some p (suc n) i h e f =
    ⊎_elim
    (λ l. rw (f n l (lt-suc_self n)) (highest-some p n i l e (λ j k m. f j k (le_step m))))
    (λ (s : i ≡ n). rw (ap p (sym s) ∙ e) (ap {B = Option ℕ} some (sym s)))
    (split-last i n h)
