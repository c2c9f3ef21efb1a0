-- Two traces alike for sound cabinets, run from any two accuracies: in each round every sound cabinet settles the same
-- sheet, so that it is refused alike and holds the same.
-- Assumes nothing.
use mathlib.Core.Bool.{true}
use mathlib.Core.List.{List}
use mathlib.Core.Path.{◌≡◌, refl, sym, ap, ap₂, ◌∙◌}
use Prim.Native.Nat.{ℕ, zero, suc, ◌≤◌, ◌<◌}
use native.Mathlib.Omega.{arith}
use lib.Dec.{eqb}
use lib.ListN.{replicate}
use Rattle.arithmetic.proofs.Bools.{cond_ext}
use Rattle.model.specs.declared.Settings.{Settings}
use Rattle.model.specs.Ensemble.{present, Readings}
use Rattle.model.specs.RoundSheet.{settings_at}
use Rattle.model.specs.AnswerSheet.{answer_length, answer_bytes}
use Rattle.model.specs.Steps.{round_of}
use Rattle.model.specs.Planner.{Plan, with_window, next_window, plan_from, advance, after, window_after}
use Rattle.model.specs.Planner.{max_accuracy, max_rounds}
use Rattle.model.specs.Refusals.{too_many_faults}
use Rattle.model.specs.Calls.{Outcome, written_after}
use Rattle.round_laws.proofs.Local.{EqualBelow, EqualRounds, round_local, answer_local}
use Rattle.run.specs.Run.{State, holds, heard, settled, next, state_after}
use Rattle.trace.specs.Trace.{rounds_at, sound_at, traced_station, traced_sends}
use Rattle.run.proofs.Entries.{seen}
use Rattle.run.proofs.Ready.{settles}
use Rattle.trace.proofs.Traced.{Recorded, traced-start, traced-allowed, traced_ready, traced-seen}
use Rattle.replay_guarantee.specs.Replayed.{AlikeForSound}

-- windows do not depend on the accuracy
plan-alone : (k : ℕ) (c : Settings) (a b : ℕ) → (after k (plan_from c a)).settings ≡ (after k (plan_from c b)).settings
unfolding after advance
plan-alone zero c a b = refl
plan-alone (suc k) c a b = ap (λ (d : Settings). with_window d (next_window d)) (plan-alone k c a b)

-- what settling gives, by the readings of the cabinets below N
outcome_of : Settings → Readings → Outcome
outcome_of c v =
    written_after (too_many_faults (round_of c 0 v).count) (answer_length c.n) (answer_bytes c.n (round_of c 0 v))
    (replicate (answer_length c.n) 0)

outcome_local : (c : Settings) (v u : Readings) → EqualBelow c.n v u → outcome_of c v ≡ outcome_of c u
unfolding outcome_of
outcome_local c v u same =
    let both : EqualRounds c.n (round_of c 0 v) (round_of c 0 u) = round_local c 0 v u same in
    ap₂
    (λ (count : ℕ) (bytes : List ℕ).
    written_after (too_many_faults count) (answer_length c.n) bytes (replicate (answer_length c.n) 0))
    both.count (answer_local c.n (round_of c 0 v) (round_of c 0 u) both)

-- of the run that starts with accuracy κ: its state after k rounds, the settings of the next, what p reads in that and
-- what settling gives it
abbrev pub state_of : List ℕ → ℕ → ℕ → State
state_of s κ k = state_after (traced_station s κ) (traced_sends s) k

abbrev settings_in : List ℕ → ℕ → ℕ → Settings
settings_in s κ k = with_window (settings_at s) (state_of s κ k).plan.settings.window

abbrev seen_in : List ℕ → ℕ → ℕ → ℕ → Readings
seen_in s κ k p = seen (traced_station s κ) (state_of s κ k) (traced_sends s k) (state_of s κ k).plan.settings.window p

abbrev pub settled_in : List ℕ → ℕ → ℕ → ℕ → Outcome
settled_in s κ k p = settled (traced_station s κ) (state_of s κ k) (traced_sends s k) p

module _ (s : List ℕ) (recorded : Recorded s) (κ : ℕ) (small : κ ≤ max_accuracy) where
  window_is : (k : ℕ) → k ≤ max_rounds → (state_of s κ k).plan.settings.window ≡ window_after k (settings_at s) κ
  window_is k l = ap (λ (p : Plan). p.settings.window) (traced_ready s recorded κ small k l).plan

  settled_in_lem : (k p : ℕ) → k < max_rounds → settled_in s κ k p ≡ outcome_of (settings_in s κ k) (seen_in s κ k p)
  unfolding outcome_of
  settled_in_lem k p l =
      settles (traced_station s κ) (traced-start s recorded κ small) k (state_of s κ k)
      (traced_ready s recorded κ small k (omega arith)) (traced_sends s k) (traced-allowed s recorded κ small k) p

module _ (s t : List ℕ) (rs : Recorded s) (rt : Recorded t) (alike : AlikeForSound s t) (few : rounds_at s ≤ max_rounds)
    (a b : ℕ) (sa : a ≤ max_accuracy) (sb : b ≤ max_accuracy) where
  settings-alike : (k : ℕ) → k ≤ max_rounds → settings_in s a k ≡ settings_in t b k
  settings-alike k l =
      ap₂ with_window alike.settings
      (window_is s rs a sa k l
      ∙ ap (λ (c : Settings). window_after k c a) alike.settings
      ∙ ap (λ (c : Settings). c.window) (plan-alone k (settings_at t) a b)
      ∙ sym (window_is t rt b sb k l))

  -- in round k, of which the state is alike for sound cabinets
  module _ (k : ℕ) (early : k < rounds_at s)
      (hold : (p : ℕ) → p < (settings_at s).n → sound_at s p ≡ true → (state_of s a k).held p ≡ (state_of t b k).held p)
      (p : ℕ) (l : p < (settings_at s).n) (e : sound_at s p ≡ true) where
    heard-alike :
        (r : ℕ) → r < (settings_at s).n
        → heard (traced_station s a) (state_of s a k) (traced_sends s k) r p
        ≡ heard (traced_station t b) (state_of t b k) (traced_sends t k) r p
    unfolding heard
    heard-alike r lr =
        cond_ext (ap (λ (x : ℕ). eqb x 1) (alike.roles r lr)) (λ q. hold r lr q) (alike.sent k r p early lr l e)

    seen_alike : EqualBelow (settings_at s).n (seen_in s a k p) (seen_in t b k p)
    seen_alike r lr = traced-seen s rs a sa k p r ∙ heard-alike r lr ∙ sym (traced-seen t rt b sb k p r)

    settled_as : settled_in s a k p ≡ settled_in t b k p
    settled_as =
        settled_in_lem s rs a sa k p (omega arith)
        ∙ outcome_local (settings_in s a k) (seen_in s a k p) (seen_in t b k p) seen_alike
        ∙ ap (λ (c : Settings). outcome_of c (seen_in t b k p)) (settings-alike k (omega arith))
        ∙ sym (settled_in_lem t rt b sb k p (omega arith))

  -- sound cabinets hold alike after every round
  pub held-alike :
      (k : ℕ) → k ≤ rounds_at s → (p : ℕ) → p < (settings_at s).n → sound_at s p ≡ true
      → (state_of s a k).held p ≡ (state_of t b k).held p
  unfolding state_after next
  held-alike zero l p lp e = ap present (alike.first p lp e)
  held-alike (suc k) l p lp e =
      ap (λ (o : Outcome). holds o.verdict o.buffer) (settled_as k l (held-alike k (omega arith)) p lp e)

  -- so they settle alike in every round
  pub settled-alike :
      (k p : ℕ) → k < rounds_at s → p < (settings_at s).n → sound_at s p ≡ true → settled_in s a k p ≡ settled_in t b k p
  settled-alike k p early = settled_as k early (held-alike k (omega arith)) p
