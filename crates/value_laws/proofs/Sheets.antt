-- The numbers of a round that a sheet settles are numbers of 32 bits: each entry is one, so each reading is, as sent or
-- as decided.
-- Assumes nothing.
use mathlib.Core.Bool.{Bool, true, false, cond}
use mathlib.Core.List.{List}
use mathlib.Core.Option.{Option, none, some}
use mathlib.Core.Path.{◌≡◌, sym, ◌∙◌}
use Prim.Native.Nat.{ℕ, ◌+◌, ◌*◌, ◌≤◌, ◌<◌}
use native.Mathlib.Nat.{pos_of_ne-zero}
use native.Mathlib.Omega.{arith}
use borrow.Author.Tests.{eq-eqb}
use lib.Dec.{leb, eqb}
use lib.IntN.{pos}
use lib.ListN.{length}
use mir.Facts.{Fits-of_lt, sfits_to_z}
use mir.Syntax.{w32}
use mir.Val.{SFits, to_z}
use Rattle.arithmetic.specs.Counting.{count, lowest}
use Rattle.arithmetic.proofs.Bools.{clash}
use Rattle.model.specs.declared.Settings.{Settings}
use Rattle.model.specs.Ensemble.{Reading, missing, present, Readings, ticks, quorum, max_spread}
use Rattle.model.specs.RoundSheet.{cca, byte, settings_at, entry_count, mark_at, bits_at, entry_at, header_size}
use Rattle.model.specs.Steps.{same, decision_at, decided_reading, decide_row, readings_of, round_at}
use Rattle.model.specs.AnswerSheet.{answer_length}
use Rattle.model.specs.Refusals.{Check, or_next, first_of, spread_checks, entry_checks, settle_checks, no_room, too_many_faults, bad_spread}
use Rattle.model.specs.Refusals.{too_many_faults_number}
use Rattle.sheet_laws.proofs.Words.{word_fits}
use Rattle.refusal_laws.proofs.Checks.{next-none-left, next-none-right, when_none}
use Rattle.sheet_laws.proofs.Orders.{settle-checks, spread-passed}
use Rattle.refusal_laws.proofs.Limits.{Limits, limits, spread-most}
use Rattle.sheet_laws.proofs.Checks.{settings-passed}
use Rattle.value_laws.proofs.Fits.{NumbersFit, round-fits}

-- 32 bits hold the ticks of a reading
abbrev Holds : Reading → Type 0
Holds v = SFits w32 (ticks v)

none-fits : SFits w32 (pos 0)
none-fits = record { sfits = omega arith }

one_of : (b : Bool) (v u : Reading) → Holds v → Holds u → Holds (cond b v u)
one_of true v u hv hu = hv
one_of false v u hv hu = hu

decided-fits :
    (need n : ℕ) (copy : Readings) → ((s : ℕ) → Holds (copy s)) → Holds (decided_reading (decide_row need n copy))
unfolding decide_row
decided-fits need n copy fits = go (lowest (λ s. leb need (count (λ t. same (copy s) (copy t)) n)) n)
  where
    go : (o : Option ℕ) → Holds (decided_reading (decision_at copy o))
    go none = none-fits
    go (some s) = fits s

reading-fits : (c : Settings) (entry : Readings) → ((e : ℕ) → Holds (entry e)) → (r : ℕ) → Holds (readings_of c entry r)
unfolding readings_of
reading-fits c entry fits r =
    one_of (eqb c.rule cca) (decided_reading (decide_row (quorum c) c.n (λ s. entry (r * c.n + s)))) (entry r)
    (decided-fits (quorum c) c.n (λ s. entry (r * c.n + s)) (λ s. fits (r * c.n + s)))
    (fits r)

-- ---- what settling granted

module _ (s : List ℕ) (D : ℕ) (answer : List ℕ) (granted : first_of (settle_checks s D (length answer)) ≡ none) where
  abbrev room : Check
  room = no_room (length answer) (answer_length (settings_at s).n)

  abbrev faults : Check
  faults = too_many_faults (round_at s D).count

  checks : or_next (first_of (spread_checks s D)) (or_next room (or_next (first_of (entry_checks s)) faults)) ≡ none
  checks = sym (settle-checks s D (length answer)) ∙ granted

  passed : first_of (spread_checks s D) ≡ none
  passed = next-none-left (first_of (spread_checks s D)) (or_next room (or_next (first_of (entry_checks s)) faults)) checks

  pub settled-limits : Limits (settings_at s)
  settled-limits = limits (settings_at s) (settings-passed s (spread-passed s D passed).1)

  -- check 16
  pub settled-fit : bad_spread (settings_at s) D ≡ none
  settled-fit = (spread-passed s D passed).0

  pub settled-spread : D ≤ max_spread
  settled-spread = spread-most (settings_at s) D settled-fit

  few-faults : faults ≡ none
  few-faults =
      next-none-right (first_of (entry_checks s)) faults
      (next-none-right room (or_next (first_of (entry_checks s)) faults)
      (next-none-right (first_of (spread_checks s D)) (or_next room (or_next (first_of (entry_checks s)) faults)) checks))

  pub settled-some : 0 < (round_at s D).count
  unfolding too_many_faults
  settled-some =
      let count = (round_at s D).count in
      pos_of_ne-zero (λ z. clash (eq-eqb count 0 z) (when_none (eqb count 0) too_many_faults_number few-faults))

-- ---- the numbers of its round

module _ (s : List ℕ) (small : (j : ℕ) → byte s j < 256) where
  entry-fits : (E e : ℕ) → Holds (entry_at s E e)
  unfolding entry_at
  entry-fits E e =
      one_of (eqb (mark_at s e) 1) (present (to_z w32 (bits_at s E e))) missing
      (sfits_to_z {w = w32} (Fits-of_lt (word_fits s (header_size + E + 4 * e) small)))
      none-fits

  abbrev pub readings : Readings
  readings = readings_of (settings_at s) (entry_at s (entry_count (settings_at s)))

  pub readings-fit : (r : ℕ) → r < (settings_at s).n → Holds (readings r)
  readings-fit r h =
      reading-fits (settings_at s) (entry_at s (entry_count (settings_at s))) (entry-fits (entry_count (settings_at s))) r

  module _ (D : ℕ) (answer : List ℕ) (granted : first_of (settle_checks s D (length answer)) ≡ none) where
    some-here : 0 < (round_at s D).count
    some-here = settled-some s D answer granted

    here : NumbersFit (settings_at s).n (round_at s D)
    unfolding round_at
    here =
        round-fits (settings_at s) D readings readings-fit (omega (arith, (settled-limits s D answer granted).faults)) some-here

    pub settled-estimate : SFits w32 (round_at s D).estimate
    settled-estimate = here.estimate

    pub settled-value : SFits w32 (round_at s D).value
    settled-value = here.value

    pub settled-used : (r : ℕ) → r < (settings_at s).n → SFits w32 ((round_at s D).used r)
    settled-used = here.used
