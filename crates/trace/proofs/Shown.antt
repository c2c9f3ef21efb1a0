-- What a replay shows: where the checks of a trace pass, the values after each of its rounds are numbers of 32 bits, so
-- that they are read back from the bytes that a replay leaves.
-- Assumes nothing.
use mathlib.Core.Bool.{Bool, true, false, cond, not, ◌||◌}
use mathlib.Core.List.{List, [], ◌∷◌}
use mathlib.Core.Option.{none, some}
use mathlib.Core.Path.{◌≡◌, refl, sym, ap, ◌∙◌}
use Prim.Native.Nat.{ℕ, ◌*◌, ◌≤◌, ◌<◌}
use native.Mathlib.Nat.{le_trans}
use native.Mathlib.Omega.{arith}
use borrow.Author.Tests.{ltb-false, eqb-true, not-false}
use lib.Dec.{ltb, eqb, lit≤}
use lib.IntN.{ℤ, pos}
use lib.ListN.{length, drop}
use mir.Syntax.{w32}
use mir.Val.{SFits, to_z}
use Rattle.arithmetic.specs.Writing.{table, overwrite}
use Rattle.arithmetic.proofs.Bools.{or_left, or_right}
use Rattle.arithmetic.proofs.Writing.{length-table, get_d_table}
use Rattle.model.specs.Refusals.{Refusal}
use Rattle.model.specs.Ensemble.{ticks}
use Rattle.model.specs.RoundSheet.{fca, byte, word, settings_at, reading_bytes}
use Rattle.model.specs.Planner.{max_rounds}
use Rattle.model.specs.Refusals.{Check, first_of, settings_checks, too_short, bad_trace_number}
use Rattle.model.specs.Calls.{granted, refused, lent, Outcome}
use Rattle.refusal_laws.proofs.Checks.{next-none-right, none_left, none-at, when_none}
use Rattle.sheet_laws.proofs.Outcomes.{granted-none, refused-some}
use Rattle.sheet_laws.proofs.Readings.{bits_again, word-readings}
use Rattle.trace.specs.Trace.{rounds_at, trace_length, sound_at}
use Rattle.trace.specs.Replay.{bad_trace, run_stopped, trace_checks, replay_checks, state_to, shown_after}
use Rattle.trace.specs.Replay.{values_to, replay_to}
use Rattle.run.proofs.Entries.{reading-fits}
use Rattle.trace.proofs.Traced.{Recorded, traced_ready}

-- what the checks before 15 leave of a trace: settings that pass, FCA, at most 32 rounds
module _ (s : List ℕ) (room : ℕ) (passes : first_of (trace_checks s room) ≡ none) where
  shape :
      (not (eqb (settings_at s).rule fca)
      || (ltb max_rounds (rounds_at s) || not (eqb (length s) (trace_length (settings_at s).n (rounds_at s)))))
      ≡ false
  unfolding trace_checks settings_checks bad_trace
  shape = when_none _ bad_trace_number (none-at (trace_checks s room) passes 5)

  pub few-rounds : rounds_at s ≤ max_rounds
  few-rounds =
      ltb-false max_rounds (rounds_at s)
      (or_left (ltb max_rounds (rounds_at s)) _ (or_right (not (eqb (settings_at s).rule fca)) _ shape))

  pub recorded : ((j : ℕ) → byte s j < 256) → Recorded s
  unfolding trace_checks first_of
  recorded small =
      record {
        bytes = small;
        passes =
            next-none-right (too_short s) (first_of (settings_checks (settings_at s)))
            (none_left (too_short s ∷ settings_checks (settings_at s)) _ passes);
        direct = eqb-true (settings_at s).rule fca (not-false _ (or_left _ _ shape));
      }

  module _ (k : ℕ) (small : (j : ℕ) → byte s j < 256) (early : k ≤ rounds_at s) (p : ℕ)
      (inside : p < (settings_at s).n) where
    shown-fits : SFits w32 (shown_after s k p)
    shown-fits = go (sound_at s p) refl
      where
        go : (b : Bool) → sound_at s p ≡ b → SFits w32 (cond b (ticks ((state_to s k).held p)) (pos 0))
        go true e =
            reading-fits ((state_to s k).held p)
            ((traced_ready s (recorded small) 0 (lit≤ tt) k (le_trans early few-rounds)).readings p (inside, e))
        go false e = record { sfits = omega arith }

    -- read back
    shown_again :
        (values : List ℕ)
        → to_z w32 (word (overwrite (reading_bytes (values_to s k)) values) (4 * p)) ≡ shown_after s k p
    unfolding overwrite values_to
    shown_again values =
        ap (to_z w32)
        (word-readings shown (drop (length (reading_bytes shown)) values) p
        (rw (length-table (shown_after s k) (settings_at s).n) inside)
        (rw (get_d_table (shown_after s k) (settings_at s).n p (pos 0) inside) shown-fits))
        ∙ ap (λ (z : ℤ). to_z w32 (mir.Val.of_z w32 z)) (get_d_table (shown_after s k) (settings_at s).n p (pos 0) inside)
        ∙ bits_again (shown_after s k p) shown-fits.sfits
      where
        shown : List ℤ
        shown = table (shown_after s k) (settings_at s).n

-- ---- the bytes that a replay leaves

module _ (s values left : List ℕ) (k : ℕ) where
  pub replay-refused :
      (r : Refusal) → record { verdict = refused r; buffer = left } ≡ replay_to s k values
      → first_of (replay_checks s k (length values)) ≡ some r
  unfolding replay_to
  replay-refused r e =
      refused-some (first_of (replay_checks s k (length values))) (4 * (settings_at s).n) r
      (sym (ap (λ (w : Outcome). w.verdict) e))

  module _ (size : ℕ) (e : record { verdict = granted size; buffer = left } ≡ replay_to s k values) where
    pub replay-granted : first_of (replay_checks s k (length values)) ≡ none
    unfolding replay_to
    replay-granted =
        granted-none (first_of (replay_checks s k (length values))) (4 * (settings_at s).n) size
        (sym (ap (λ (w : Outcome). w.verdict) e))

    left-written : left ≡ overwrite (reading_bytes (values_to s k)) values
    unfolding replay_to
    left-written =
        ap (λ (w : Outcome). w.buffer) e
        ∙ ap (λ (x : Check). lent x (overwrite (reading_bytes (values_to s k)) values) values) replay-granted

    -- they show what the run shows
    pub replay-shows :
        ((j : ℕ) → byte s j < 256) → k ≤ rounds_at s → (p : ℕ) → p < (settings_at s).n
        → to_z w32 (word left (4 * p)) ≡ shown_after s k p
    unfolding replay_checks
    replay-shows small early p inside =
        ap (λ (l : List ℕ). to_z w32 (word l (4 * p))) left-written
        ∙ shown_again s (length values) (none_left (trace_checks s (length values)) (run_stopped s k ∷ []) replay-granted) k
        small early p inside values
