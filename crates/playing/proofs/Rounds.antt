-- Rounds played one after the other: what is passed did not stop, a round that stops stands for all later ones, and the
-- plan is the run's. What sound cabinets hold before the first round.
-- Assumes nothing.
use mathlib.Core.List.{List}
use mathlib.Core.Logic.{⊎_elim}
use mathlib.Core.Option.{none, some}
use mathlib.Core.Path.{◌≡◌, refl, sym, ap, ap₂, ◌∙◌}
use Prim.Native.Nat.{ℕ, zero, suc, ◌+◌, ◌*◌, ◌≤◌, ◌<◌, zero-le}
use native.Mathlib.Numerals.{add-one}
use native.Mathlib.Omega.{arith}
use lib.ListN.{length, get_or}
use Rattle.arithmetic.specs.Naturals.{down, up}
use Rattle.arithmetic.specs.Words.{two_to31}
use Rattle.arithmetic.specs.Writing.{table}
use Rattle.arithmetic.proofs.Counting.{split-last}
use Rattle.arithmetic.proofs.Shift.{down-up}
use Rattle.arithmetic.proofs.Writing.{get_d_table}
use Rattle.model.specs.declared.Settings.{Settings}
use Rattle.model.specs.Refusals.{Refusal}
use Rattle.model.specs.Ensemble.{present, max_cabinets}
use Rattle.model.specs.RoundSheet.{byte, settings_at}
use Rattle.model.specs.Planner.{Plan, plan_from}
use Rattle.model.specs.Refusals.{Check, refusal, or_next, run_stopped_number}
use Rattle.model.specs.Calls.{step}
use Rattle.run.specs.Run.{stepped, next, state_after}
use Rattle.trace.specs.Trace.{first_at}
use Rattle.trace.specs.Replay.{state_to, at_round, in_round, run_stopped}
use Rattle.trace.proofs.Traced.{bits_fit}
use Rattle.playing.specs.Playing.{HeldTo, RoundPlayed, Played}
use Rattle.playing.proofs.Hearing.{no_some}

-- ---- before the first round

pub first-held :
    (s : List ℕ) → ((j : ℕ) → byte s j < 256) → (n : ℕ) → n ≡ (settings_at s).n
    → (held : List ℕ) → held ≡ table (λ p. up two_to31 (first_at s n p)) n → HeldTo s 0 held
unfolding state_after
first-held s small n same held e r l sound =
    ap present
    (sym
    (ap (λ (x : ℕ). down two_to31 x)
    (ap (λ (xs : List ℕ). get_or xs r 0) e ∙ get_d_table (λ p. up two_to31 (first_at s n p)) n r 0 (rw same l))
    ∙ down-up two_to31 (first_at s n r) (bits_fit s _ small).sfits
    ∙ ap (λ (m : ℕ). first_at s m r) same))

-- ---- a round more

module _ (s : List ℕ) where
  pub plan-first : (c : Settings) → c ≡ settings_at s → plan_from c 0 ≡ (state_to s 0).plan
  unfolding state_after
  plan-first c e = ap (λ (d : Settings). plan_from d 0) e

  pub plan-next :
      (k : ℕ) (p q : Plan) → p ≡ (state_to s k).plan → q ≡ stepped (step p) p → q ≡ (state_to s (k + 1)).plan
  unfolding state_after next
  plan-next k p q e f = f ∙ ap (λ (x : Plan). stepped (step x) x) e ∙ sym (ap (λ (j : ℕ). (state_to s j).plan) (add-one k))

  -- a round in which nobody meets too many faults
  none_passes :
      (k : ℕ) (held : List ℕ) → RoundPlayed s k none held → run_stopped s k ≡ none → run_stopped s (k + 1) ≡ none
  unfolding run_stopped
  none_passes k held played before =
      ap (run_stopped s) (add-one k) ∙ ap₂ or_next before (ap (at_round k) played.first)

  -- a round that stops stands for all later ones
  stops_on :
      (k : ℕ) (x : Refusal) → run_stopped s k ≡ none → in_round s k ≡ some x → (j : ℕ) → k < j → run_stopped s j ≡ some x
  unfolding run_stopped
  stops_on k x before here zero l = absurd (omega arith)
  stops_on k x before here (suc j) l =
      ⊎_elim
      (λ h. ap (λ (c : Check). or_next c (in_round s j)) (stops_on k x before here j h))
      (λ e. ap₂ or_next (ap (run_stopped s) (sym e) ∙ before) (ap (in_round s) (sym e) ∙ here))
      (split-last k j l)

  pub stops-here :
      (k p most : ℕ) (held : List ℕ) → RoundPlayed s k (some p) held → run_stopped s k ≡ none → k < most
      → (x : Refusal) → x ≡ refusal run_stopped_number (max_cabinets * (k + 1) + p) → Played s most (some x) held
  stops-here k p most held played before early x e =
      record {
        stops = sym (stops_on k x before (ap (at_round k) played.first ∙ ap some (sym e)) most early);
        holds = no_some x;
      }

  -- all are played
  pub played-all :
      (k most : ℕ) (held : List ℕ) → run_stopped s k ≡ none → HeldTo s k held → k ≤ most → most ≤ k
      → Played s most none held
  played-all k most held before holds l h =
      let same : k ≡ most = omega arith in
      record {
        stops = sym (ap (run_stopped s) (sym same) ∙ before);
        holds = λ z. rw same at holds;
      }

-- ---- while they are played

pub record Going (s : List ℕ) (most room : ℕ) (plan : Plan) (k : ℕ) (held : List ℕ) : Type 0 where
  pub up_to : k ≤ most
  pub planned : plan ≡ (state_to s k).plan
  pub before : run_stopped s k ≡ none
  pub holds : HeldTo s k held
  pub long : length held ≡ room

pub going_first :
    (s : List ℕ) (most : ℕ) (c : Settings) (held : List ℕ) → c ≡ settings_at s → HeldTo s 0 held
    → Going s most (length held) (plan_from c 0) 0 held
unfolding run_stopped
going_first s most c held own holds =
    record { up_to = zero-le; planned = plan-first s c own; before = refl; holds = holds; long = refl }

pub going_next :
    (s : List ℕ) (most room : ℕ) (p q : Plan) (k : ℕ) (held later : List ℕ) → Going s most room p k held
    → k < most → RoundPlayed s k none later → q ≡ stepped (step p) p → length later ≡ length held
    → Going s most room q (k + 1) later
going_next s most room p q k held later going early played e same =
    record {
      up_to = omega arith;
      planned = plan-next s k p q going.planned e;
      before = none_passes s k later played going.before;
      holds = played.holds refl;
      long = same ∙ going.long;
    }
