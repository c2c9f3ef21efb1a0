-- The crusaders rows of a run. A sound relay hands on what the transmitter sent it, to every receiver alike; of the n relays f are faulty,
-- and n-m copies decide. Each law is given for the decision and for the reading that the decision leaves.
-- Assumes nothing.
use mathlib.Core.Bool.{Bool, true, false, not, ◌&&◌, ◌||◌}
use mathlib.Core.Logic.{◌⊎◌, inl, inr, ⊎_elim}
use mathlib.Core.Path.{◌≡◌, refl, sym, ap, ◌∙◌}
use Prim.Native.Nat.{ℕ, ◌+◌, ◌*◌, ◌-◌, ◌≤◌, ◌<◌}
use native.Mathlib.Omega.{arith}
use lib.Dec.{eqb}
use lib.IntN.{ℤ}
use Rattle.arithmetic.specs.Counting.{count}
use Rattle.arithmetic.proofs.Bools.{and_left, and_right}
use Rattle.arithmetic.proofs.Counting.{count-le, count_mono, count-not, count-both, share}
use Rattle.model.specs.declared.Settings.{Settings}
use Rattle.model.specs.Ensemble.{missing, present, Readings, quorum}
use Rattle.model.specs.RoundSheet.{cca}
use Rattle.model.specs.Steps.{same, Decision, decided, known_faulty, decided_reading, decide_row, readings_of}
use Rattle.decision_laws.proofs.Equality.{present_inj, missing-present, equal_or_not, same_true, eq_same, same_unique}
use Rattle.decision_laws.proofs.Decision.{copies_of, decided-need, decided-all, decide_cases, decide_value}

-- how many of the first n relays are not sound
abbrev pub faults : (ℕ → Bool) → ℕ → ℕ
faults sound n = count (λ s. not (sound s)) n

-- a sound relay hands on what it heard
abbrev pub Relayed : (ℕ → Bool) → ℕ → Readings → Readings → Type 0
Relayed sound n heard copy = (s : ℕ) → s < n → sound s ≡ true → copy s ≡ heard s

-- ---- the reading that a decision leaves

pub reading-decided : (d : Decision) (z : ℤ) → decided_reading d ≡ present z → d ≡ decided z
reading-decided (decided a) z e = ap decided (present_inj e)
reading-decided known_faulty z e = missing-present e

-- ---- what sound relays hand on

module _ (sound : ℕ → Bool) (n : ℕ) where
  -- a value that every sound relay hands on has a copy from each
  handed_on : (copy : Readings) (x : ℤ) → Relayed sound n (λ _. present x) copy → n ≤ copies_of copy x n + faults sound n
  handed_on copy x h =
      let all = count-not sound n in
      let some = count_mono sound (λ t. same (present x) (copy t)) n (λ s l e. eq_same x (copy s) (h s l e)) in
      omega arith

  -- a value that no sound relay hands on has copies from faulty ones only
  not-handed_on : (copy : Readings) (z : ℤ) → ((s : ℕ) → s < n → sound s ≡ true → copy s ≡ present z → ⊥) → copies_of copy z n ≤ faults sound n
  not-handed_on copy z h = count_mono (λ t. same (present z) (copy t)) (λ s. not (sound s)) n (λ s l e. go (sound s) s refl l e)
    where
      go : (b : Bool) (s : ℕ) → sound s ≡ b → s < n → same (present z) (copy s) ≡ true → not b ≡ true
      go true s q l e = absurd (h s l q (same_true z (copy s) e))
      go false s q l e = refl

  -- of the copies of a value all but f come from sound relays
  from-sound : (copy : Readings) (z : ℤ) → copies_of copy z n ≤ count (λ t. sound t && same (present z) (copy t)) n + faults sound n
  from-sound copy z =
      let all = count-not sound n in
      let both = count-both sound (λ t. same (present z) (copy t)) n in
      let either = count-le (λ t. sound t || same (present z) (copy t)) n in
      omega arith

  -- two values are one where their copies from sound relays, at two receivers, are together more than the sound relays
  sound_unique : (p q : Readings) (a b : ℤ) → Relayed sound n q p → count sound n < count (λ t. sound t && same (present a) (p t)) n + count (λ t. sound t && same (present b) (q t)) n → a ≡ b
  sound_unique p q a b h more = go (share at_p at-q sound n (λ t l e. and_left (sound t) _ e) (λ t l e. and_left (sound t) _ e) more)
    where
      at_p : ℕ → Bool
      at_p t = sound t && same (present a) (p t)

      at-q : ℕ → Bool
      at-q t = sound t && same (present b) (q t)

      go : (t : ℕ) × (t < n) × (at_p t ≡ true) × (at-q t ≡ true) → a ≡ b
      go w =
          let alike = h w.0 w.1 (and_left (sound w.0) (same (present a) (p w.0)) w.2) in
          let held-p = and_right (sound w.0) (same (present a) (p w.0)) w.2 in
          let held-q = and_right (sound w.0) (same (present b) (q w.0)) w.3 in
          same_unique a b (q w.0) (rw alike at held-p) held-q

-- ---- decisions

module _ (sound : ℕ → Bool) (n m : ℕ) (planned : 3 * m < n) where
  -- a sound transmitter that holds x, at most m faults: x is decided
  pub held-decided : (copy : Readings) (x : ℤ) → Relayed sound n (λ _. present x) copy → faults sound n ≤ m → decide_row (n - m) n copy ≡ decided x
  held-decided copy x h few =
      let most = handed_on sound n copy x h in
      decide_value (n - m) n copy x (omega arith) (omega arith)

  -- a sound transmitter that holds x, fewer than n-m faults: x is decided, or nothing
  pub held-decided_or_not : (copy : Readings) (x : ℤ) → Relayed sound n (λ _. present x) copy → faults sound n < n - m → (decide_row (n - m) n copy ≡ decided x) ⊎ (decide_row (n - m) n copy ≡ known_faulty)
  held-decided_or_not copy x h few =
      ⊎_elim
      (λ w.
      ⊎_elim
      (λ q. inl (rw q at w.1))
      (λ d. absurd (omega (arith, w.2, others w.0 d)))
      (equal_or_not w.0 x))
      (λ w. inr w.0)
      (decide_cases (n - m) n copy (omega arith))
    where
      others : (z : ℤ) → (z ≡ x → ⊥) → copies_of copy z n ≤ faults sound n
      others z d = not-handed_on sound n copy z (λ s l e q. d (present_inj (sym q ∙ h s l e)))

  -- any transmitter, at most m faults: what two receivers decide is one value
  pub decided-alike : (p q : Readings) (a b : ℤ) → Relayed sound n q p → faults sound n ≤ m → decide_row (n - m) n p ≡ decided a → decide_row (n - m) n q ≡ decided b → a ≡ b
  decided-alike p q a b h few da db =
      let all = count-not sound n in
      let needs-a = decided-need (n - m) n p a da (omega arith) in
      let needs-b = decided-need (n - m) n q b db (omega arith) in
      let sound-a = from-sound sound n p a in
      let sound-b = from-sound sound n q b in
      sound_unique sound n p q a b h (omega arith)

  -- ---- the same of readings

  pub held-read : (copy : Readings) (x : ℤ) → Relayed sound n (λ _. present x) copy → faults sound n ≤ m → decided_reading (decide_row (n - m) n copy) ≡ present x
  held-read copy x h few = ap decided_reading (held-decided copy x h few)

  pub held-read_or_not : (copy : Readings) (x : ℤ) → Relayed sound n (λ _. present x) copy → faults sound n < n - m → (decided_reading (decide_row (n - m) n copy) ≡ present x) ⊎ (decided_reading (decide_row (n - m) n copy) ≡ missing)
  held-read_or_not copy x h few =
      ⊎_elim (λ e. inl (ap decided_reading e)) (λ e. inr (ap decided_reading e)) (held-decided_or_not copy x h few)

  pub read_alike : (p q : Readings) (a b : ℤ) → Relayed sound n q p → faults sound n ≤ m → decided_reading (decide_row (n - m) n p) ≡ present a → decided_reading (decide_row (n - m) n q) ≡ present b → a ≡ b
  read_alike p q a b h few ra rb =
      decided-alike p q a b h few (reading-decided (decide_row (n - m) n p) a ra) (reading-decided (decide_row (n - m) n q) b rb)

-- ---- rows of a sheet

module _ (c : Settings) (entry : Readings) (r : ℕ) where
  pub read-direct : eqb c.rule cca ≡ false → readings_of c entry r ≡ entry r
  unfolding readings_of
  read-direct e = rw e

  pub read-decided : eqb c.rule cca ≡ true → readings_of c entry r ≡ decided_reading (decide_row (quorum c) c.n (λ s. entry (r * c.n + s)))
  unfolding readings_of
  read-decided e = rw e

-- what holds of every present copy holds of the reading
pub read_all {ℓ} : (P : ℤ → Type ℓ) (need n : ℕ) (copy : Readings) (z : ℤ) → 0 < need → ((s : ℕ) (a : ℤ) → s < n → copy s ≡ present a → P a) → decided_reading (decide_row need n copy) ≡ present z → P z
read_all P need n copy z h f e = decided-all need n copy P z (reading-decided (decide_row need n copy) z e) h f
