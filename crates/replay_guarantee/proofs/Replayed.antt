-- A replay is the run of demand 3, whatever accuracy its plan starts with; a faulty cabinet's first reading and what it
-- receives change nothing; and where at most m are bad the guarantee speaks of the bytes that a replay leaves.
-- Assumes nothing.
use mathlib.Core.Bool.{Bool, true, false, cond, ◌&&◌}
use mathlib.Core.List.{List}
use mathlib.Core.Logic.{⊎_elim}
use mathlib.Core.Option.{Option, none, some}
use mathlib.Core.Path.{◌≡◌, refl, sym, ap, ap₂, ◌∙◌, subst}
use Prim.Native.Nat.{ℕ, zero, suc, ◌*◌, ◌≤◌, ◌<◌}
use native.Mathlib.Nat.{zero-add, le_refl, le_trans, not-suc-le-zero}
use native.Mathlib.Omega.{arith}
use lib.Dec.{eqb, lit≤}
use lib.IntN.{ℤ, pos}
use lib.ListN.{length}
use Rattle.arithmetic.specs.Counting.{lowest}
use Rattle.arithmetic.specs.Writing.{table}
use Rattle.arithmetic.proofs.Bools.{both_ways, and_ext, cond_ext}
use Rattle.arithmetic.proofs.Counting.{split-last, lowest_ext, lowest-none, lowest-missed}
use Rattle.arithmetic.proofs.Writing.{table_ext}
use Rattle.model.specs.declared.Settings.{Settings}
use Rattle.model.specs.Ensemble.{ticks}
use Rattle.model.specs.RoundSheet.{settings_at}
use Rattle.model.specs.Planner.{plan_from, after, max_accuracy, max_rounds}
use Rattle.model.specs.Refusals.{Check, or_next}
use Rattle.model.specs.Calls.{Verdict, granted, verdict, Outcome}
use Rattle.refusal_laws.proofs.Checks.{next-none-left, next-none-right}
use Rattle.sheet_laws.proofs.Outcomes.{granted-none}
use Rattle.run.specs.Run.{Station, Sound, Allowed, state_after}
use Rattle.trace.specs.Trace.{rounds_at, sound_at, traced_station, traced_sends}
use Rattle.trace.specs.Replay.{too_many, refused_in, at_round, in_round, run_stopped, shown_after, values_to, replay}
use Rattle.trace.proofs.Shown.{few-rounds, recorded, replay-shows}
use Rattle.trace.proofs.Traced.{Recorded, traced-start, traced-allowed, traced_ready}
use Rattle.demand_3.specs.Guarantee.{apart, Good, Close}
use Rattle.demand_3.proofs.Guarantee.{guarantee}
use Rattle.replay_guarantee.specs.Replayed.{Bytes, Passes, value_in, meets_too_many, NobodyMeets, IsRun, ReplayIsRun}
use Rattle.replay_guarantee.specs.Replayed.{AlikeForSound, FaultyIgnored, FewBad, Replays, ReplayGuarantee}
use Rattle.replay_guarantee.proofs.TwoRuns.{state_of, held-alike, settled-alike}
use Rattle.replay_guarantee.proofs.Listed.{rounds_from, length-rounds, each-listed, every-listed}
use Rattle.replay_guarantee.proofs.Passed.{replay-passed}

no_accuracy : 0 ≤ max_accuracy
no_accuracy = lit≤ tt

-- ---- a replay is the run

round-none : (k : ℕ) (o : Option ℕ) → at_round k o ≡ none → o ≡ none
round-none k none e = refl
round-none k (some p) e = cc

alike-itself : (s : List ℕ) → AlikeForSound s s
alike-itself s =
    record {
      settings = refl;
      rounds = refl;
      roles = λ p l. refl;
      first = λ p l e. refl;
      sent = λ k r p l lr lp e. refl;
    }

module _ (s values : List ℕ) (small : Bytes s) (pass : Passes s values) where
  rs : Recorded s
  rs = recorded s (length values) pass small

  -- what is granted is not refused under 15
  none_said : (replay s values).verdict ≡ granted (4 * (settings_at s).n) → run_stopped s (rounds_at s) ≡ none
  none_said e =
      granted-none (run_stopped s (rounds_at s)) (4 * (settings_at s).n) (4 * (settings_at s).n)
      (sym (ap (λ (o : Outcome). o.verdict) (replay-passed s values pass)) ∙ e)

  -- and stands in the buffer
  values_stand :
      (replay s values).verdict ≡ granted (4 * (settings_at s).n)
      → (p : ℕ) → p < (settings_at s).n → value_in (replay s values).buffer p ≡ shown_after s (rounds_at s) p
  unfolding replay
  values_stand e =
      replay-shows s values (replay s values).buffer (rounds_at s) (4 * (settings_at s).n)
      (ap (λ (v : Verdict ℕ). record { verdict = v; buffer = (replay s values).buffer }) (sym e)) small
      (le_refl (rounds_at s))

  held :
      (κ : ℕ) → κ ≤ max_accuracy → (p : ℕ) → p < (settings_at s).n → sound_at s p ≡ true
      → (state_of s 0 (rounds_at s)).held p ≡ (state_of s κ (rounds_at s)).held p
  held κ most =
      held-alike s s rs rs (alike-itself s) (few-rounds s (length values) pass) 0 κ no_accuracy most (rounds_at s)
      (le_refl (rounds_at s))

  refused_is :
      (κ : ℕ) → κ ≤ max_accuracy → (k p : ℕ) → k < rounds_at s → p < (settings_at s).n → sound_at s p ≡ true
      → refused_in s k p ≡ meets_too_many s κ k p
  unfolding refused_in
  refused_is κ most k p early l e =
      ap (λ (b : Bool). b && meets_too_many s 0 k p) e
      ∙ ap (λ (o : Outcome). too_many o.verdict)
      (settled-alike s s rs rs (alike-itself s) (few-rounds s (length values) pass) 0 κ no_accuracy most k p early l e)

  module _ (κ : ℕ) (most : κ ≤ max_accuracy) where
    -- ---- 15 is said exactly where a sound cabinet meets too many faults

    not-refused : NobodyMeets s κ → (k p : ℕ) → k < rounds_at s → p < (settings_at s).n → refused_in s k p ≡ false
    unfolding refused_in
    not-refused nobody k p early l =
        ⊎_elim
        (λ e. refused_is κ most k p early l e ∙ nobody k p early l e)
        (λ e. ap (λ (b : Bool). b && meets_too_many s 0 k p) e)
        (both_ways (sound_at s p))

    never-run_stopped : NobodyMeets s κ → (k : ℕ) → k ≤ rounds_at s → run_stopped s k ≡ none
    unfolding run_stopped
    never-run_stopped nobody zero l = refl
    never-run_stopped nobody (suc k) l =
        ap₂ or_next (never-run_stopped nobody k (omega arith))
        (ap (at_round k) (lowest-none (refused_in s k) (settings_at s).n (λ p lp. not-refused nobody k p l lp)))

    none_in_round : (n : ℕ) → run_stopped s n ≡ none → (k : ℕ) → k < n → in_round s k ≡ none
    unfolding run_stopped
    none_in_round zero e k l = absurd (not-suc-le-zero l)
    none_in_round (suc n) e k l =
        ⊎_elim
        (λ h. none_in_round n (next-none-left (run_stopped s n) (in_round s n) e) k h)
        (λ h. ap (in_round s) h ∙ next-none-right (run_stopped s n) (in_round s n) e)
        (split-last k n l)

    nobody-meets : run_stopped s (rounds_at s) ≡ none → NobodyMeets s κ
    nobody-meets e k p early l sound =
        sym (refused_is κ most k p early l sound)
        ∙ lowest-missed (refused_in s k) (settings_at s).n
        (round-none k (lowest (refused_in s k) (settings_at s).n) (none_in_round (rounds_at s) e k early)) p l

  replayed-run : (κ : ℕ) → κ ≤ max_accuracy → IsRun s values κ
  replayed-run κ most =
      record {
        grants = λ nobody.
            ap (λ (o : Outcome). o.verdict) (replay-passed s values pass)
            ∙ ap (λ (c : Check). verdict c (4 * (settings_at s).n))
            (never-run_stopped κ most nobody (rounds_at s) (le_refl (rounds_at s)));
        nobody = λ e. nobody-meets κ most (none_said e);
        shown = λ e p l.
            values_stand e p l
            ∙ cond_ext refl
            (λ q. ap ticks (held κ most p l q))
            refl;
        refuses = refused_is κ most;
      }

pub replay_is_run : ReplayIsRun
replay_is_run = replayed-run

-- ---- what faulty cabinets hold first and receive

module _ (s t : List ℕ) (rs : Recorded s) (rt : Recorded t) (alike : AlikeForSound s t)
    (few : rounds_at s ≤ max_rounds) where
  sound-alike : (p : ℕ) → p < (settings_at s).n → sound_at s p ≡ sound_at t p
  sound-alike p l = ap (λ (x : ℕ). eqb x 1) (alike.roles p l)

  same-cabinets : (settings_at s).n ≡ (settings_at t).n
  same-cabinets = ap (λ (c : Settings). c.n) alike.settings

  refused-alike : (k p : ℕ) → k < rounds_at s → p < (settings_at s).n → refused_in s k p ≡ refused_in t k p
  unfolding refused_in
  refused-alike k p early l =
      and_ext (sound-alike p l)
      (λ e. ap (λ (o : Outcome). too_many o.verdict)
      (settled-alike s t rs rt alike few 0 0 no_accuracy no_accuracy k p early l e))

  run_stopped-alike : (k : ℕ) → k ≤ rounds_at s → run_stopped s k ≡ run_stopped t k
  unfolding run_stopped
  run_stopped-alike zero l = refl
  run_stopped-alike (suc k) l =
      ap₂ or_next (run_stopped-alike k (omega arith))
      (ap (at_round k)
      (lowest_ext (refused_in s k) (refused_in t k) (settings_at s).n (λ p lp. refused-alike k p l lp)
      ∙ ap (lowest (refused_in t k)) same-cabinets))

  values-alike : (k : ℕ) → k ≤ rounds_at s → values_to s k ≡ values_to t k
  unfolding values_to
  values-alike k l =
      table_ext (shown_after s k) (shown_after t k) (settings_at s).n
      (λ p lp.
      cond_ext (sound-alike p lp)
      (λ e. ap ticks (held-alike s t rs rt alike few 0 0 no_accuracy no_accuracy k l p lp e))
      refl)
      ∙ ap (table (shown_after t k)) same-cabinets

pub faulty_ignored : FaultyIgnored
faulty_ignored s t values small-s small-t alike pass-s pass-t =
    replay-passed s values pass-s
    ∙ cc (
      run_stopped-alike s t rs rt alike few (rounds_at s) (le_refl (rounds_at s)),
      values-alike s t rs rt alike few (rounds_at s) (le_refl (rounds_at s)),
      same-cabinets s t rs rt alike few,
      alike.rounds,
    )
    ∙ sym (replay-passed t values pass-t)
  where
    rs : Recorded s
    rs = recorded s (length values) pass-s small-s

    rt : Recorded t
    rt = recorded t (length values) pass-t small-t

    few : rounds_at s ≤ max_rounds
    few = few-rounds s (length values) pass-s

-- ---- at most m bad

module _ (s values : List ℕ) (small : Bytes s) (pass : Passes s values) (κ : ℕ) (most : κ ≤ max_accuracy)
    (good : ℕ → Bool) (true-value : ℤ) (goodness : Good (traced_station s κ) good true-value)
    (few : FewBad s κ good) where
  abbrev st : Station
  st = traced_station s κ

  run : IsRun s values κ
  run = replayed-run s values small pass κ most

  -- the limits of each round
  close_in : (k : ℕ) → k < rounds_at s → Close st true-value (state_of s κ k) (traced_sends s k)
  unfolding state_after
  close_in k l =
      let traced = recorded s (length values) pass small in
      let listed = rounds_from (traced_sends s) 0 (rounds_at s) in
      let short : length listed ≤ max_rounds =
      rw (length-rounds (traced_sends s) 0 (rounds_at s)) (few-rounds s (length values) pass) in
      let each = each-listed (traced_sends s) (Allowed st) (traced-allowed s traced κ most) 0 (rounds_at s) in
      subst (λ (i : ℕ). Close st true-value (state_of s κ i) (traced_sends s i)) (zero-add k)
      (every-listed (traced_sends s) st (Close st true-value) 0 (rounds_at s)
      ((guarantee st (traced-start s traced κ most) listed short each good true-value goodness).few few) k l)

  grants : (replay s values).verdict ≡ granted (4 * (settings_at s).n)
  grants = run.grants (λ k p early l e. ap too_many ((close_in k early).unrefused p (l, e)))

  -- a sound cabinet's place shows what it holds at the end
  shows : (p : ℕ) → Sound st p → value_in (replay s values).buffer p ≡ ticks ((state_of s κ (rounds_at s)).held p)
  shows p (l, e) =
      run.shown grants p l ∙ ap (λ (b : Bool). cond b (ticks ((state_of s κ (rounds_at s)).held p)) (pos 0)) e

  -- after one round or more
  planned : (k : ℕ) → k < rounds_at s → (state_of s κ (suc k)).plan ≡ after (suc k) (plan_from (settings_at s) κ)
  planned k l =
      (traced_ready s (recorded s (length values) pass small) κ most (suc k) (le_trans l (few-rounds s (length values) pass))).plan

  precise-after :
      (k : ℕ) → 0 < k → k ≤ rounds_at s → (p q : ℕ) → Sound st p → Sound st q
      → apart (ticks ((state_of s κ k).held p)) (ticks ((state_of s κ k).held q))
      ≤ (after k (plan_from (settings_at s) κ)).settings.window
  unfolding state_after
  precise-after zero h l p q sp sq = absurd (not-suc-le-zero h)
  precise-after (suc k) h l p q sp sq = rw (← planned k l) ((close_in k l).precise p q sp sq)

  accurate-after :
      (k : ℕ) → 0 < k → k ≤ rounds_at s → (p : ℕ) → Sound st p
      → apart (ticks ((state_of s κ k).held p)) true-value ≤ (after k (plan_from (settings_at s) κ)).accuracy
  unfolding state_after
  accurate-after zero h l p sp = absurd (not-suc-le-zero h)
  accurate-after (suc k) h l p sp = rw (← planned k l) ((close_in k l).accurate p sp)

  replayed-close : Replays s values κ true-value
  replayed-close =
      record {
        grants = grants;
        precise = λ h p q sp sq.
            rw (shows p sp, shows q sq) (precise-after (rounds_at s) h (le_refl (rounds_at s)) p q sp sq);
        accurate = λ h p sp.
            rw (shows p sp) (accurate-after (rounds_at s) h (le_refl (rounds_at s)) p sp);
      }

pub replay_guaranteed : ReplayGuarantee
replay_guaranteed = replayed-close
