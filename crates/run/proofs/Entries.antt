-- What a sound cabinet reads in a round: the readings that its sheet's entries make. A sound sender that holds z is
-- read as z, by FCA always, by CCA where at most m are faulty; where fewer than N-m are, it is read as z or not at
-- all. Two sound cabinets that both decide a row decide it alike. All readings are of 32 bits.
-- Assumes nothing.
use mathlib.Core.Bool.{Bool, true, false, cond}
use mathlib.Core.Logic.{◌⊎◌, inl, inr, ⊎_elim}
use mathlib.Core.Path.{◌≡◌, refl, sym, ap, ◌∙◌, subst, subst⁻¹}
use Prim.Native.Nat.{ℕ, ◌+◌, ◌*◌, ◌-◌, ◌/◌, ◌%◌, ◌≤◌, ◌<◌}
use native.Mathlib.Nat.{div-lt_iff_lt-mul}
use native.Mathlib.Omega.{arith}
use lib.Arith.{digits_div, digits_mod}
use lib.Dec.{eqb}
use lib.IntN.{ℤ}
use mir.Syntax.{w32}
use mir.Val.{SFits}
use Rattle.arithmetic.proofs.Bools.{both_ways}
use Rattle.decision_laws.proofs.Decision.{decide_ext}
use Rattle.decision_laws.proofs.Rows.{faults, held-read, held-read_or_not, read_alike, read-direct, read-decided, read_all}
use Rattle.model.specs.declared.Settings.{Settings}
use Rattle.model.specs.Ensemble.{Reading, missing, present, Readings, ticks}
use Rattle.model.specs.RoundSheet.{cca, entry_count}
use Rattle.model.specs.Planner.{with_window}
use Rattle.model.specs.Steps.{decide_row, decided_reading, readings_of}
use Rattle.run.specs.Run.{IsReading, Station, N, m, Sends, Allowed, State}
use Rattle.run.specs.Run.{heard, copy, entry_of}

pub reading-fits : (y : Reading) → IsReading y → SFits w32 (ticks y)
reading-fits missing i = record { sfits = omega arith }
reading-fits (present z) i = i

module _ (st : Station) (now : State) (x : Sends) where
  pub heard-sound : (r s : ℕ) → st.sound r ≡ true → heard st now x r s ≡ now.held r
  unfolding heard
  heard-sound r s e = rw e

  -- what p is told of r's value by the relay s
  abbrev pub copies_to : ℕ → ℕ → Readings
  copies_to p r s = copy st now x r s p

  direct-entry : (p e : ℕ) → eqb st.settings.rule cca ≡ false → entry_of st now x p e ≡ heard st now x e p
  unfolding entry_of
  direct-entry p e b = rw b

  relayed-entry :
      (p r s : ℕ) → s < N st → eqb st.settings.rule cca ≡ true
      → entry_of st now x p (r * N st + s) ≡ copies_to p r s
  unfolding entry_of
  relayed-entry p r s l b = rw (b, digits_div r l, digits_mod r l)

  -- a relay that is sound hands on what a sound sender holds, and hands everybody the same
  copies-held : (p r s : ℕ) → st.sound r ≡ true → st.sound s ≡ true → copies_to p r s ≡ now.held r
  copies-held p r s sr ss = ap (λ (b : Bool). cond b (heard st now x r s) (x.relayed r s p)) ss ∙ heard-sound r s sr

  copies-alike : (p q r s : ℕ) → st.sound s ≡ true → copies_to p r s ≡ copies_to q r s
  copies-alike p q r s ss = rw ss

  -- ---- what p reads of each cabinet

  module _ (w : ℕ) where
    -- the settings of the round
    abbrev c : Settings
    c = with_window st.settings w

    unfoldable pub seen : ℕ → Readings
    seen p = readings_of c (entry_of st now x p)

    pub seen_direct : (p r : ℕ) → eqb st.settings.rule cca ≡ false → seen p r ≡ heard st now x r p
    unfolding seen
    seen_direct p r b = read-direct c (entry_of st now x p) r b ∙ direct-entry p r b

    pub seen-decided :
        (p r : ℕ) → eqb st.settings.rule cca ≡ true
        → seen p r ≡ decided_reading (decide_row (N st - m st) (N st) (copies_to p r))
    unfolding seen
    seen-decided p r b =
        read-decided c (entry_of st now x p) r b
        ∙ ap decided_reading
        (decide_ext (N st - m st) (N st) (λ s. entry_of st now x p (r * N st + s)) (copies_to p r)
        (λ s l. relayed-entry p r s l b))

    module _ (planned : 3 * m st < N st) where
      -- a sound sender that holds z is read as z
      pub seen-held :
          (p r : ℕ) (z : ℤ) → st.sound r ≡ true → now.held r ≡ present z → faults st.sound (N st) ≤ m st
          → seen p r ≡ present z
      seen-held p r z sr h few =
          ⊎_elim
          (λ b. seen-decided p r b ∙ held-read st.sound (N st) (m st) planned (copies_to p r) z
          (λ s l ss. copies-held p r s sr ss ∙ h) few)
          (λ b. seen_direct p r b ∙ heard-sound r p sr ∙ h)
          (both_ways (eqb st.settings.rule cca))

      -- or, where more are faulty, not at all
      pub seen-held_or_not :
          (p r : ℕ) (z : ℤ) → st.sound r ≡ true → now.held r ≡ present z → faults st.sound (N st) < N st - m st
          → (seen p r ≡ present z) ⊎ (seen p r ≡ missing)
      seen-held_or_not p r z sr h few =
          ⊎_elim
          (λ b.
          ⊎_elim (λ e. inl (seen-decided p r b ∙ e)) (λ e. inr (seen-decided p r b ∙ e))
          (held-read_or_not st.sound (N st) (m st) planned (copies_to p r) z
          (λ s l ss. copies-held p r s sr ss ∙ h) few))
          (λ b. inl (seen_direct p r b ∙ heard-sound r p sr ∙ h))
          (both_ways (eqb st.settings.rule cca))

      -- CCA: a row that two cabinets decide they decide alike
      pub seen_alike :
          (p q r : ℕ) (a b : ℤ) → eqb st.settings.rule cca ≡ true → faults st.sound (N st) ≤ m st
          → seen p r ≡ present a → seen q r ≡ present b
          → a ≡ b
      seen_alike p q r a b e few sa sb =
          read_alike st.sound (N st) (m st) planned (copies_to p r) (copies_to q r) a b
          (λ s l ss. copies-alike p q r s ss) few
          (sym (seen-decided p r e) ∙ sa)
          (sym (seen-decided q r e) ∙ sb)

  -- ---- readings are of 32 bits

  is_reading-present : (z : ℤ) (y : Reading) → y ≡ present z → IsReading y → SFits w32 z
  is_reading-present z y e i = subst IsReading e i

  is_reading-cond :
      (b : Bool) (y z : Reading) → (b ≡ true → IsReading y) → (b ≡ false → IsReading z)
      → IsReading (cond b y z)
  is_reading-cond true y z f g = f refl
  is_reading-cond false y z f g = g refl

  module _ (allowed : Allowed st x) (held : (r : ℕ) → r < N st → st.sound r ≡ true → IsReading (now.held r)) where
    pub heard-reading : (r s : ℕ) → r < N st → IsReading (heard st now x r s)
    unfolding heard
    heard-reading r s l = is_reading-cond (st.sound r) (now.held r) (x.sent r s) (held r l) (λ e. allowed.sent r s)

    copies-reading : (p r s : ℕ) → r < N st → IsReading (copies_to p r s)
    copies-reading p r s l =
        is_reading-cond (st.sound s) (heard st now x r s) (x.relayed r s p) (λ e. heard-reading r s l)
        (λ e. allowed.relayed r s p)

    pub seen-reading : (w p r : ℕ) → r < N st → m st < N st → IsReading (seen w p r)
    seen-reading w p r l few =
        ⊎_elim
        (λ b. subst⁻¹ IsReading (seen-decided w p r b)
        (decided-reading (decided_reading (decide_row (N st - m st) (N st) (copies_to p r))) refl))
        (λ b. subst⁻¹ IsReading (seen_direct w p r b) (heard-reading r p l))
        (both_ways (eqb st.settings.rule cca))
      where
        decided-reading :
            (y : Reading) → decided_reading (decide_row (N st - m st) (N st) (copies_to p r)) ≡ y
            → IsReading y
        decided-reading missing e = tt
        decided-reading (present z) e =
            read_all (SFits w32) (N st - m st) (N st) (copies_to p r) z (omega arith)
            (λ s a k q. is_reading-present a (copies_to p r s) q (copies-reading p r s l))
            e

    -- the entries of p's sheet
    entry-reading : (p e : ℕ) → e < entry_count st.settings → 0 < N st → IsReading (entry_of st now x p e)
    unfolding entry_of entry_count
    entry-reading p e l some =
        is_reading-cond (eqb st.settings.rule cca)
        (copies_to p (e / N st) (e % N st))
        (heard st now x e p)
        (λ b. copies-reading p (e / N st) (e % N st) ((div-lt_iff_lt-mul some).1 (rw b at l)))
        (λ b. heard-reading e p (rw b at l))

    pub entry-fits : (p e : ℕ) → e < entry_count st.settings → 0 < N st → SFits w32 (ticks (entry_of st now x p e))
    entry-fits p e l some = reading-fits (entry_of st now x p e) (entry-reading p e l some)
