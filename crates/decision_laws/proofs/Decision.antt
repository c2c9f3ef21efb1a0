-- The crusaders decision of a row, by counting: it is the value that need of the n copies hold, and a row has one such value at most.
-- Assumes nothing.
use mathlib.Core.Bool.{Bool, true, false}
use mathlib.Core.Logic.{◌⊎◌, inl, inr, ⊎_elim}
use mathlib.Core.Option.{Option, none, some}
use mathlib.Core.Path.{◌≡◌, refl, sym, ap, ap₂, ◌∙◌}
use Prim.Native.Nat.{ℕ, ◌+◌, ◌≤◌, ◌<◌}
use native.Mathlib.Omega.{arith}
use borrow.Author.Tests.{leb-true, leb-false}
use lib.Dec.{leb}
use lib.IntN.{ℤ}
use Rattle.arithmetic.specs.Counting.{count, lowest}
use Rattle.arithmetic.proofs.Bools.{clash}
use Rattle.arithmetic.proofs.Counting.{count_ext, count-le, count-some, share, lowest_ext, lowest-found, lowest-cases, Lowest}
use Rattle.model.specs.Ensemble.{Reading, present, Readings, ticks}
use Rattle.model.specs.Steps.{same, Decision, decided, known_faulty, decision_at, decide_row}
use Rattle.decision_laws.proofs.Equality.{same_true, same-present, same_unique}

-- how many of the first n copies are present and hold z
abbrev pub copies_of : Readings → ℤ → ℕ → ℕ
copies_of copy z n = count (λ t. same (present z) (copy t)) n

-- ---- decisions

pub decided_inj : {a b : ℤ} → decided a ≡ decided b → a ≡ b
decided_inj e = cc

pub not-both {ℓ} : {X : Type ℓ} {d : Decision} {z : ℤ} → d ≡ decided z → d ≡ known_faulty → X
not-both {d} {z} p q = absurd (impossible (cc))
  where
    impossible : ◌≡◌ {A = ℕ} 0 1 → ⊥
    impossible e = omega arith

-- ---- counts

-- two values that together hold more than n of the n copies are one
pub copies_unique : (copy : Readings) (n : ℕ) (a b : ℤ) → n < copies_of copy a n + copies_of copy b n → a ≡ b
copies_unique copy n a b h =
    let all : count (λ _. true) n ≤ n = count-le (λ _. true) n in
    let s = share (λ t. same (present a) (copy t)) (λ t. same (present b) (copy t)) (λ _. true) n (λ i l e. refl) (λ i l e. refl) (omega arith) in
    same_unique a b (copy s.0) s.2 s.3

-- where z is counted, some copy holds z
pub copies-some : (copy : Readings) (n : ℕ) (z : ℤ) → 0 < copies_of copy z n → (s : ℕ) × (s < n) × (copy s ≡ present z)
copies-some copy n z h =
    let s = count-some (λ t. same (present z) (copy t)) n h in
    (s.0, s.1, same_true z (copy s.0) s.2)

module _ (need n : ℕ) (copy : Readings) where
  -- whether need copies are as the copy s
  enough : ℕ → Bool
  enough s = leb need (count (λ t. same (copy s) (copy t)) n)

  -- need copies are as s, and need is not 0: s is present, and need copies hold its value
  enough-value : (s : ℕ) → 0 < need → enough s ≡ true → (z : ℤ) × (copy s ≡ present z) × (need ≤ copies_of copy z n)
  unfolding enough
  enough-value s some-need e =
      let least : need ≤ count (λ t. same (copy s) (copy t)) n = leb-true need (count (λ t. same (copy s) (copy t)) n) e in
      let some-copy = count-some (λ t. same (copy s) (copy t)) n (omega arith) in
      let p = same-present (copy s) (copy some-copy.0) some-copy.2 in
      (p.0, p.1, rw p.1 at least)

  -- the decision is a value that need copies hold, or no value has that many
  pub decide_cases : 0 < need → ((z : ℤ) × (decide_row need n copy ≡ decided z) × (need ≤ copies_of copy z n)) ⊎ ((decide_row need n copy ≡ known_faulty) × ((z : ℤ) → copies_of copy z n < need))
  unfolding decide_row enough
  decide_cases some-need = ⊎_elim found nowhere (lowest-cases enough n)
    where
      Out : Type 0
      Out =
          ((z : ℤ) × (decide_row need n copy ≡ decided z) × (need ≤ copies_of copy z n))
          ⊎ ((decide_row need n copy ≡ known_faulty) × ((z : ℤ) → copies_of copy z n < need))

      found : ((s : ℕ) × (lowest enough n ≡ some s) × Lowest enough n s) → Out
      found w =
          let v = enough-value w.0 some-need w.2.passes in
          inl (v.0, ap (decision_at copy) w.1 ∙ ap (λ r. decided (ticks r)) v.1, v.2)

      short : ((s : ℕ) → s < n → enough s ≡ false) → (z : ℤ) → copies_of copy z n < need
      short f z = go (leb need (copies_of copy z n)) refl
        where
          go : (b : Bool) → leb need (copies_of copy z n) ≡ b → copies_of copy z n < need
          go false e = leb-false need (copies_of copy z n) e
          go true e =
              let least = leb-true need (copies_of copy z n) e in
              let s = copies-some copy n z (omega arith) in
              let no : leb need (count (λ t. same (copy s.0) (copy t)) n) ≡ false = f s.0 s.1 in
              clash e (rw s.2 at no)

      nowhere : ((lowest enough n ≡ none) × ((s : ℕ) → s < n → enough s ≡ false)) → Out
      nowhere w = inr (ap (decision_at copy) w.0, short w.1)

  -- a decided value has need copies
  pub decided-need : (z : ℤ) → decide_row need n copy ≡ decided z → 0 < need → need ≤ copies_of copy z n
  decided-need z e some-need =
      ⊎_elim
      (λ w. let q : w.0 ≡ z = decided_inj (sym w.1 ∙ e) in rw q at w.2)
      (λ w. not-both e w.0)
      (decide_cases some-need)

  pub decide_value : (z : ℤ) → n < need + need → need ≤ copies_of copy z n → decide_row need n copy ≡ decided z
  decide_value z most h =
      ⊎_elim
      (λ w. let q : w.0 ≡ z = copies_unique copy n w.0 z (omega (arith, w.2)) in rw q at w.1)
      (λ w. absurd (omega (arith, w.1 z)))
      (decide_cases (omega arith))

  pub decide_none : 0 < need → ((z : ℤ) → copies_of copy z n < need) → decide_row need n copy ≡ known_faulty
  decide_none some-need f = ⊎_elim (λ w. absurd (omega (arith, f w.0, w.2))) (λ w. w.0) (decide_cases some-need)

  -- a value that is short of need, and leaves fewer than need copies for all others: no value has that many
  pub decide_spent : (z : ℤ) → copies_of copy z n < need → n < need + copies_of copy z n → decide_row need n copy ≡ known_faulty
  decide_spent z short spent = decide_none (omega arith) (λ y. go y (leb need (copies_of copy y n)) refl)
    where
      go : (y : ℤ) (b : Bool) → leb need (copies_of copy y n) ≡ b → copies_of copy y n < need
      go y false e = leb-false need (copies_of copy y n) e
      go y true e =
          let least = leb-true need (copies_of copy y n) e in
          let one : y ≡ z = copies_unique copy n y z (omega arith) in
          absurd (omega (arith, ap (λ (x : ℤ). copies_of copy x n) one))

  -- a row's decision is unique: two values that have need copies each are one
  pub need_unique : (a b : ℤ) → n < need + need → need ≤ copies_of copy a n → need ≤ copies_of copy b n → a ≡ b
  need_unique a b most p q = copies_unique copy n a b (omega arith)

  -- the decided value is one of the copies
  pub decided-copy : (z : ℤ) → decide_row need n copy ≡ decided z → 0 < need → (s : ℕ) × (s < n) × (copy s ≡ present z)
  decided-copy z e some-need = copies-some copy n z (omega (arith, decided-need z e some-need))

  -- what holds of every present copy holds of the decided value
  pub decided-all {ℓ} : (P : ℤ → Type ℓ) (z : ℤ) → decide_row need n copy ≡ decided z → 0 < need → ((s : ℕ) (a : ℤ) → s < n → copy s ≡ present a → P a) → P z
  decided-all P z e some-need f = let s = decided-copy z e some-need in f s.0 z s.1 s.2

-- the decision looks at the first n copies only
pub decide_ext : (need n : ℕ) (p q : Readings) → ((t : ℕ) → t < n → p t ≡ q t) → decide_row need n p ≡ decide_row need n q
unfolding decide_row
decide_ext need n p q h = ap (decision_at p) alike ∙ at (lowest passes n) refl
  where
    passes : ℕ → Bool
    passes s = leb need (count (λ t. same (q s) (q t)) n)

    alike : lowest (λ s. leb need (count (λ t. same (p s) (p t)) n)) n ≡ lowest passes n
    alike =
        lowest_ext (λ s. leb need (count (λ t. same (p s) (p t)) n)) passes n
        (λ s l.
        ap (leb need)
        (count_ext (λ t. same (p s) (p t)) (λ t. same (q s) (q t)) n (λ t k. ap₂ (λ (a b : Reading). same a b) (h s l) (h t k))))

    at : (o : Option ℕ) → lowest passes n ≡ o → decision_at p o ≡ decision_at q o
    at none e = refl
    at (some s) e = ap (λ (r : Reading). decided (ticks r)) (h s (lowest-found passes n s e).in_range)
