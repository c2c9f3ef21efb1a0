-- The run that a trace records, where its settings pass checks 2 to 5 and its rule is FCA: it starts as demand 3 asks,
-- what is sent is allowed, and every round is ready, for any accuracy that the planner grants. What a sound cabinet
-- reads is what it hears, so that its round decides whether it meets too many faults, and else what it holds next.
-- Assumes nothing.
use mathlib.Core.Bool.{Bool, true, false, cond, ◌&&◌}
use mathlib.Core.List.{List}
use mathlib.Core.Option.{none}
use mathlib.Core.Path.{◌≡◌, refl, sym, ap, ◌∙◌}
use Prim.Native.Nat.{ℕ, zero, suc, ◌+◌, ◌*◌, ◌≤◌, ◌<◌}
use native.Mathlib.Nat.{le_refl}
use lib.Dec.{lit≤}
use native.Mathlib.Omega.{arith}
use borrow.Author.Tests.{ne_eqb}
use lib.Dec.{eqb}
use lib.ListN.{length-replicate}
use mir.Syntax.{w32}
use mir.Val.{SFits, to_z}
use mir.ValLaws.{to_z-Fits}
use Rattle.arithmetic.specs.Words.{two_to32}
use Rattle.model.specs.declared.Settings.{Settings}
use Rattle.model.specs.Ensemble.{Reading, missing, present}
use Rattle.model.specs.RoundSheet.{fca, cca, trims, byte, word, settings_at}
use Rattle.model.specs.AnswerSheet.{answer_length}
use Rattle.model.specs.Planner.{with_window, max_accuracy, max_rounds}
use Rattle.model.specs.Refusals.{refusal, first_of, settings_checks, too_many_faults_number}
use Rattle.model.specs.Calls.{Verdict}
use Rattle.model.specs.Steps.{Round}
use Rattle.refusal_laws.proofs.Limits.{limits, limits-planned}
use Rattle.planner_laws.proofs.Checks.{may-start-none}
use Rattle.sheet_laws.proofs.Words.{word_fits}
use Rattle.run.specs.Run.{IsReading, Station, Start, Sends, Allowed, State, start, heard, settled, next, state_after}
use Rattle.trace.specs.Trace.{trace_header_size, rounds_at, trace_entries, sound_at, entry_number, traced_mark, traced_entry}
use Rattle.trace.specs.Trace.{traced_station, traced_sends}
use Rattle.trace.specs.Replay.{state_to, too_many, refused_in}
use Rattle.run.proofs.Entries.{seen, seen_direct}
use Rattle.run.proofs.Link.{found}
use Rattle.run.proofs.Ready.{Ready, ready_start, ready_next, refuses, grants, holds-value}

-- the bytes of a word are a reading of 32 bits
pub bits_fit : (s : List ℕ) (i : ℕ) → ((j : ℕ) → byte s j < 256) → SFits w32 (to_z w32 (word s i))
bits_fit s i small = to_z-Fits w32 (word s i) (record { fits = word_fits s i small })

-- what checks 1 to 5 and 13 leave of a trace
pub record Recorded (s : List ℕ) : Type 0 where
  pub bytes : (j : ℕ) → byte s j < 256
  pub passes : first_of (settings_checks (settings_at s)) ≡ none
  pub direct : (settings_at s).rule ≡ fca

module _ (s : List ℕ) (recorded : Recorded s) (κ : ℕ) (small : κ ≤ max_accuracy) where
  abbrev st : Station
  st = traced_station s κ

  abbrev n : ℕ
  n = (settings_at s).n

  pub traced-start : Start st
  traced-start =
      record {
        grants =
            may-start-none (settings_at s) κ 0
            (record {
              passes =
                  limits-planned (settings_at s) (limits (settings_at s) recorded.passes)
                  (ap (λ (rule : ℕ). trims rule) recorded.direct);
              accurate = small;
              few = lit≤ tt;
            });
        readings = λ p. bits_fit s _ recorded.bytes;
      }

  entry-reading : (b : Bool) (i : ℕ) → IsReading (cond b (present (to_z w32 (word s i))) missing)
  entry-reading true i = bits_fit s i recorded.bytes
  entry-reading false i = tt

  entry_is_reading : (e : ℕ) → IsReading (traced_entry s n (rounds_at s) e)
  unfolding traced_entry
  entry_is_reading e =
      entry-reading (eqb (traced_mark s n e) 1) (trace_header_size + 5 * n + trace_entries n (rounds_at s) + 4 * e)

  pub traced-allowed : (k : ℕ) → Allowed st (traced_sends s k)
  traced-allowed k =
      record {
        sent = λ r p. entry_is_reading (entry_number n k r p);
        relayed = λ r q p. tt;
        room = λ p. rw (length-replicate {A = ℕ} (answer_length n) 0) (le_refl (answer_length n));
      }

  pub traced_ready : (k : ℕ) → k ≤ max_rounds → Ready st k (state_after st (traced_sends s) k)
  unfolding state_after
  traced_ready zero l = ready_start st traced-start
  traced_ready (suc k) l =
      ready_next st traced-start k (state_after st (traced_sends s) k) (traced_ready k (omega arith))
      (traced_sends s k) (traced-allowed k) (omega arith)

  -- the window of round k, and the round of what p reads in it
  abbrev pub window_in : ℕ → ℕ
  window_in k = (state_after st (traced_sends s) k).plan.settings.window

  abbrev pub found_in : ℕ → ℕ → Round
  found_in k p = found st (state_after st (traced_sends s) k) (traced_sends s k) (window_in k) p

  not-crusaders : eqb (settings_at s).rule cca ≡ false
  not-crusaders = rw recorded.direct refl

  -- by FCA p reads what it hears
  pub traced-seen :
      (k p r : ℕ)
      → seen st (state_after st (traced_sends s) k) (traced_sends s k) (window_in k) p r
      ≡ heard st (state_after st (traced_sends s) k) (traced_sends s k) r p
  traced-seen k p r =
      seen_direct st (state_after st (traced_sends s) k) (traced_sends s k) (window_in k) p r not-crusaders

  module _ (k p : ℕ) (early : k < max_rounds) where
    -- it meets too many faults exactly where it accepts nothing
    pub traced-refuses :
        too_many (settled st (state_after st (traced_sends s) k) (traced_sends s k) p).verdict ≡ eqb (found_in k p).count 0
    traced-refuses = go (found_in k p).count refl
      where
        go :
            (c : ℕ) → (found_in k p).count ≡ c
            → too_many (settled st (state_after st (traced_sends s) k) (traced_sends s k) p).verdict ≡ eqb c 0
        go zero e =
            ap too_many
            (refuses st traced-start k (state_after st (traced_sends s) k) (traced_ready k (omega arith))
            (traced_sends s k) (traced-allowed k) p e)
        go (suc c) e =
            ap too_many
            (grants st traced-start k (state_after st (traced_sends s) k) (traced_ready k (omega arith))
            (traced_sends s k) (traced-allowed k) p (omega arith))
            ∙ sym (ne_eqb (suc c) 0 (λ h. omega arith))

    -- and else holds the round's new value
    pub traced-holds :
        0 < (found_in k p).count
        → (state_after st (traced_sends s) (suc k)).held p ≡ present (found_in k p).value
    unfolding state_after
    traced-holds =
        holds-value st traced-start k (state_after st (traced_sends s) k) (traced_ready k (omega arith))
        (traced_sends s k) (traced-allowed k) p

-- ---- the replay, whose station has accuracy 0

module _ (s : List ℕ) (recorded : Recorded s) (k p : ℕ) (early : k < max_rounds) where
  pub replay-refuses : refused_in s k p ≡ (sound_at s p && eqb (found_in s recorded 0 (lit≤ tt) k p).count 0)
  unfolding refused_in
  replay-refuses = ap (λ (b : Bool). sound_at s p && b) (traced-refuses s recorded 0 (lit≤ tt) k p early)
