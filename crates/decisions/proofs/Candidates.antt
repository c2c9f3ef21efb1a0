-- The majority vote decides a row of copies that are natural numbers, each standing for a value. A step of the vote is a law for each kind of
-- copy; at the end one count of the candidate decides.
-- Assumes nothing.
use mathlib.Core.Bool.{Bool, true, false, cond, ◌&&◌}
use mathlib.Core.Logic.{◌⊎◌, inl, inr, ⊎_elim}
use mathlib.Core.Path.{◌≡◌, refl, sym, ap, ◌∙◌}
use Prim.Native.Nat.{ℕ, ◌+◌, ◌≤◌, ◌<◌}
use native.Mathlib.Nat.{le_of_eq}
use native.Mathlib.Omega.{arith}
use borrow.Author.Tests.{leb-true, leb-false, eq-eqb, eqb-true, eqb-false}
use lib.Dec.{leb, eqb}
use lib.IntN.{ℤ}
use mir.Syntax.{w32}
use mir.Val.{to_z}
use mir.Facts.{to_z_inj}
use Rattle.arithmetic.specs.Counting.{count}
use Rattle.arithmetic.proofs.Bools.{both_ways, and_left, and_right, and_intro, iff_eq}
use Rattle.arithmetic.proofs.Counting.{count_ext, count_mono}
use Rattle.arithmetic.specs.Words.{two_to32}
use Rattle.model.specs.Ensemble.{missing, present, Readings}
use Rattle.model.specs.Steps.{same, decided, known_faulty, decide_row}
use Rattle.decision_laws.proofs.Equality.{same_true, eq_same, present_inj, missing-present}
use Rattle.decision_laws.proofs.Decision.{copies_of, copies-some, decide_value, decide_none, decide_spent}
use Rattle.copies.specs.Copies.{holds-bits}
use Rattle.decisions.specs.Majority.{Candidate}
use Rattle.decisions.proofs.Majority.{candidate_begin, candidate_raise, candidate_replace, candidate_keep, majority}

-- a test that passes where c has need copies, and fails only where no value has, decides the row
decide_test : (need n : ℕ) (copy : Readings) (c : ℤ) (b : Bool) → n < need + need → (b ≡ true → need ≤ copies_of copy c n) → (b ≡ false → (z : ℤ) → need ≤ copies_of copy z n → ⊥) → decide_row need n copy ≡ cond b (decided c) known_faulty
decide_test need n copy c true most f g = decide_value need n copy c most (f refl)
decide_test need n copy c false most f g = decide_none need n copy (omega arith) (λ z. omega (arith, g refl z))

-- the candidate's count decides, where `holds v` counts the copies of `value v` and every copy is counted for some v
module _ {A : Type 0} (holds : A → ℕ → Bool) (equal : (u v : A) → (u ≡ v) ⊎ (u ≡ v → ⊥)) (value : A → ℤ) (copy : Readings) (n : ℕ) where
  pub decide_candidate : ((v : A) → count (holds v) n ≤ copies_of copy (value v) n) → ((s : ℕ) (z : ℤ) → s < n → copy s ≡ present z → (v : A) × (copies_of copy z n ≤ count (holds v) n)) → (c : A) (k : ℕ) → Candidate holds c k n → (need : ℕ) → n < need + need → decide_row need n copy ≡ cond (leb need (count (holds c) n)) (decided (value c)) known_faulty
  decide_candidate counted found c k w need most =
      decide_test need n copy (value c) (leb need (count (holds c) n)) most
      (λ e. omega (arith, leb-true need (count (holds c) n) e, counted c))
      none
    where
      none : leb need (count (holds c) n) ≡ false → (z : ℤ) → need ≤ copies_of copy z n → ⊥
      none e z h =
          let s = copies-some copy n z (omega arith) in
          let v = found s.0 z s.1 s.2 in
          let voted : v.0 ≡ c = majority holds c k n w equal v.0 (omega (arith, v.1)) in
          let most-c : copies_of copy z n ≤ count (holds c) n = rw voted at v.1 in
          omega (arith, leb-false need (count (holds c) n) e)

-- ---- copies that are natural numbers

-- the copies: the value of the number bits t where pres t passes, else missing
abbrev pub encoded : (ℕ → ℤ) → (ℕ → Bool) → (ℕ → ℕ) → Readings
encoded value pres bits t = cond (pres t) (present (value (bits t))) missing

-- two naturals are equal or they are not
pub equal-bits : (a b : ℕ) → (a ≡ b) ⊎ (a ≡ b → ⊥)
equal-bits a b = ⊎_elim (λ e. inl (eqb-true a b e)) (λ e. inr (eqb-false a b e)) (both_ways (eqb a b))

-- numbers of 32 bits in two's complement stand for one value each
pub to_z_one : (a b : ℕ) → a < two_to32 → b < two_to32 → to_z w32 a ≡ to_z w32 b → a ≡ b
to_z_one a b h l e = to_z_inj {w = w32} (record { fits = h }) (record { fits = l }) e

module _ (pres : ℕ → Bool) (bits : ℕ → ℕ) where
  holds-bits-true : (v t : ℕ) → holds-bits pres bits v t ≡ true → (pres t ≡ true) × (v ≡ bits t)
  holds-bits-true v t e = (and_left (pres t) (eqb v (bits t)) e, eqb-true v (bits t) (and_right (pres t) (eqb v (bits t)) e))

  holds-bits_unique : (u v t : ℕ) → holds-bits pres bits u t ≡ true → holds-bits pres bits v t ≡ true → u ≡ v
  holds-bits_unique u v t p q = (holds-bits-true u t p).1 ∙ sym (holds-bits-true v t q).1

  absent : (i v : ℕ) → pres i ≡ false → holds-bits pres bits v i ≡ false
  absent i v e = ap (λ (b : Bool). b && eqb v (bits i)) e

  pub bits-begin : (c : ℕ) → Candidate (holds-bits pres bits) c 0 0
  bits-begin c = candidate_begin (holds-bits pres bits) c

  module _ (c k i : ℕ) (w : Candidate (holds-bits pres bits) c k i) where
    pub bits-agree : pres i ≡ true → bits i ≡ c → Candidate (holds-bits pres bits) c (k + 1) (i + 1)
    bits-agree p e = candidate_raise (holds-bits pres bits) c k i w holds-bits_unique (and_intro p (eq-eqb c (bits i) (sym e)))

    pub bits_replace : k ≡ 0 → pres i ≡ true → Candidate (holds-bits pres bits) (bits i) 1 (i + 1)
    bits_replace z p =
        candidate_replace (holds-bits pres bits) c k i w holds-bits_unique equal-bits (bits i) z (and_intro p (eq-eqb (bits i) (bits i) refl))

    pub bits-missing : k ≡ 0 → pres i ≡ false → Candidate (holds-bits pres bits) c k (i + 1)
    bits-missing z e = candidate_keep (holds-bits pres bits) c k i w z (λ v. absent i v e)

-- the numbers below lim stand for one value each
module _ (value : ℕ → ℤ) (lim : ℕ) (one : (a b : ℕ) → a < lim → b < lim → value a ≡ value b → a ≡ b) (pres : ℕ → Bool) (bits : ℕ → ℕ) where
  encoded-true : (v t : ℕ) → holds-bits pres bits v t ≡ true → encoded value pres bits t ≡ present (value v)
  encoded-true v t e =
      let p = holds-bits-true pres bits v t e in
      rw (p.0, ← p.1)

  encoded-present : (t : ℕ) (z : ℤ) → encoded value pres bits t ≡ present z → (pres t ≡ true) × (value (bits t) ≡ z)
  encoded-present t z e = go (pres t) refl e
    where
      go : (b : Bool) → pres t ≡ b → cond b (present (value (bits t))) missing ≡ present z → (pres t ≡ true) × (value (bits t) ≡ z)
      go true q e = (q, present_inj e)
      go false q e = missing-present e

  -- the test of two numbers is the test of their values
  pub same-encoded : (v t : ℕ) → v < lim → bits t < lim → same (present (value v)) (encoded value pres bits t) ≡ holds-bits pres bits v t
  same-encoded v t h l =
      iff_eq (same (present (value v)) (encoded value pres bits t)) (holds-bits pres bits v t)
      (λ e.
      let p = encoded-present t (value v) (same_true (value v) (encoded value pres bits t) e) in
      and_intro p.0 (eq-eqb v (bits t) (one v (bits t) h l (sym p.1))))
      (λ e. eq_same (value v) (encoded value pres bits t) (encoded-true v t e))

  module _ (n : ℕ) (low : (t : ℕ) → t < n → bits t < lim) where
    pub copies-encoded : (v : ℕ) → v < lim → copies_of (encoded value pres bits) (value v) n ≡ count (holds-bits pres bits v) n
    copies-encoded v h =
        count_ext (λ t. same (present (value v)) (encoded value pres bits t)) (holds-bits pres bits v) n
        (λ t l. same-encoded v t h (low t l))

    -- one count of any number below lim: it is decided, or no number can be
    module _ (c need : ℕ) (below : c < lim) where
      pub bits-enough : n < need + need → need ≤ count (holds-bits pres bits c) n → decide_row need n (encoded value pres bits) ≡ decided (value c)
      bits-enough most h =
          decide_value need n (encoded value pres bits) (value c) most (omega (arith, copies-encoded c below))

      pub bits_spent : count (holds-bits pres bits c) n < need → n < need + count (holds-bits pres bits c) n → decide_row need n (encoded value pres bits) ≡ known_faulty
      bits_spent short spent =
          decide_spent need n (encoded value pres bits) (value c)
          (omega (arith, copies-encoded c below))
          (omega (arith, copies-encoded c below))

    -- the candidate's count decides
    module _ (c k : ℕ) (w : Candidate (holds-bits pres bits) c k n) (need : ℕ) (most : n < need + need) where
      pub bits_decide : decide_row need n (encoded value pres bits) ≡ cond (leb need (count (holds-bits pres bits c) n)) (decided (value c)) known_faulty
      bits_decide =
          decide_candidate (holds-bits pres bits) equal-bits value (encoded value pres bits) n
          (λ v.
          count_mono (holds-bits pres bits v) (λ t. same (present (value v)) (encoded value pres bits t)) n
          (λ t l e. eq_same (value v) (encoded value pres bits t) (encoded-true v t e)))
          found
          c k w need most
        where
          found : (s : ℕ) (z : ℤ) → s < n → encoded value pres bits s ≡ present z → (v : ℕ) × (copies_of (encoded value pres bits) z n ≤ count (holds-bits pres bits v) n)
          found s z l e =
              let p = encoded-present s z e in
              let counted = copies-encoded (bits s) (low s l) in
              (bits s, rw p.1 at (le_of_eq counted))
