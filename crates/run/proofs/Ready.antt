-- Every round of every run, however many are bad: before it the plan is the planner's, and what sound cabinets hold
-- are readings of 32 bits (`Ready`). So each sheet passes checks 1 to 9, and is granted or refused under 10; the
-- plan's step is granted; and the next state is ready.
-- Assumes nothing.
use mathlib.Core.Bool.{true, false}
use mathlib.Core.Logic.{◌⊎◌, inl, inr}
use mathlib.Core.Option.{none}
use mathlib.Core.Path.{◌≡◌, refl, ap, ◌∙◌, subst, subst⁻¹}
use Prim.Native.Nat.{ℕ, zero, suc, ◌*◌, ◌<◌}
use native.Mathlib.Omega.{arith}
use mir.Syntax.{w32}
use mir.Val.{SFits}
use Rattle.arithmetic.proofs.Bools.{clash}
use Rattle.model.specs.declared.Settings.{Settings}
use Rattle.model.specs.Ensemble.{missing, present, is_present, ticks}
use Rattle.model.specs.RoundSheet.{entry_count, trims}
use Rattle.model.specs.AnswerSheet.{answer_length, answer_bytes}
use Rattle.model.specs.Planner.{Plan, plan_from, advance, after, with_window, max_rounds}
use Rattle.model.specs.Refusals.{refusal, first_of, settings_checks, too_many_faults, too_many_faults_number}
use Rattle.model.specs.Calls.{Verdict, granted, refused, written_after, step}
use Rattle.refusal_laws.proofs.Limits.{Planned, limits-pass, planned-limits, planned-spans}
use Rattle.planner_laws.proofs.Checks.{none-may-start}
use Rattle.planner_laws.proofs.Rounds.{settings-after}
use Rattle.planner_laws.proofs.Steps.{start-step-granted}
use Rattle.planner_laws.proofs.Windows.{passes-after}
use Rattle.value_laws.proofs.Fits as values
use Rattle.run.specs.Run.{IsReading, Station, N, m, κ, Start, Sends, Allowed, State, start, entry_of}
use Rattle.run.specs.Run.{settled, holds, next, Sound}
use Rattle.run.proofs.Entries.{reading-fits, seen, seen-reading, entry-fits}
use Rattle.run.proofs.Link.{found, settled_is, settled-refused, settled-granted, settled-holds}

-- j rounds are done before
pub record Ready (st : Station) (j : ℕ) (now : State) : Type 0 where
  pub plan : now.plan ≡ after j (plan_from st.settings (κ st))
  pub readings : (r : ℕ) → Sound st r → IsReading (now.held r)

module _ (st : Station) (begins : Start st) (j : ℕ) (now : State) (ready : Ready st j now) where
  -- the window and the settings of the round
  abbrev w : ℕ
  w = now.plan.settings.window

  abbrev c : Settings
  c = with_window st.settings w

  pub plan-settings : now.plan.settings ≡ c
  plan-settings =
      subst⁻¹ (λ (p : Plan). p.settings ≡ with_window st.settings p.settings.window) ready.plan
      (settings-after j (plan_from st.settings (κ st)))

  pub limits_hold : Planned c
  limits_hold =
      subst Planned plan-settings
      (subst⁻¹ (λ (p : Plan). Planned p.settings) ready.plan
      (passes-after j (plan_from st.settings (κ st))
      (none-may-start st.settings (κ st) 0 begins.grants).passes))

  pub some-n : 0 < N st
  some-n = limits_hold.some_cabinet

  pub planned : 3 * m st < N st
  planned = omega (arith, limits_hold.faults)

  pass : first_of (settings_checks c) ≡ none
  pass = limits-pass c (planned-limits c limits_hold)

  spans : trims c.rule ≡ false
  spans = planned-spans c limits_hold

  pub plan-steps : j < max_rounds → step now.plan ≡ granted (advance now.plan)
  unfolding after
  plan-steps early =
      subst⁻¹ (λ (p : Plan). step p ≡ granted (advance p)) ready.plan
      (start-step-granted st.settings (κ st) j begins.grants early)

  module _ (x : Sends) (allowed : Allowed st x) where
    -- ---- what the cabinets read

    held-readings : (r : ℕ) → r < N st → st.sound r ≡ true → IsReading (now.held r)
    held-readings r l s = ready.readings r (l, s)

    pub reads : (p r : ℕ) → r < N st → IsReading (seen st now x w p r)
    reads p r l = seen-reading st now x allowed held-readings w p r l (omega (arith, planned))

    fits : (p e : ℕ) → e < entry_count st.settings → SFits w32 (ticks (entry_of st now x p e))
    fits p e l = entry-fits st now x allowed held-readings p e l some-n

    -- ---- a cabinet's sheet

    module _ (p : ℕ) where
      -- it is settled by the round of what p reads
      pub settles :
          settled st now x p
          ≡ written_after (too_many_faults (found st now x w p).count) (answer_length (N st))
          (answer_bytes (N st) (found st now x w p)) (x.buffer p)
      settles = settled_is st now x w p plan-settings pass spans allowed (fits p)

      pub refuses : (found st now x w p).count ≡ 0 → (settled st now x p).verdict ≡ refused (refusal too_many_faults_number 0)
      refuses = settled-refused st now x w p plan-settings pass spans allowed (fits p)

      pub grants : 0 < (found st now x w p).count → (settled st now x p).verdict ≡ granted (answer_length (N st))
      grants = settled-granted st now x w p plan-settings pass spans allowed (fits p)

      -- where no reading is accepted p holds nothing, and else the round's new value
      pub holds-nothing : (found st now x w p).count ≡ 0 → (next st now x).held p ≡ missing
      unfolding next
      holds-nothing e = ap (λ (v : Verdict ℕ). holds v (settled st now x p).buffer) (refuses e)

      module _ (some-acc : 0 < (found st now x w p).count) where
        value-fits : SFits w32 (found st now x w p).value
        value-fits =
            values.value-fits c 0 (seen st now x w p) (λ r l. reading-fits (seen st now x w p r) (reads p r l))
            some-acc some-n

        pub holds-value : (next st now x).held p ≡ present (found st now x w p).value
        unfolding next
        holds-value = settled-holds st now x w p plan-settings pass spans allowed (fits p) some-acc value-fits

      -- by what p accepts
      either : {A : Type 0} → ((found st now x w p).count ≡ 0 → A) → (0 < (found st now x w p).count → A) → A
      either {A} f g = go (found st now x w p).count refl
        where
          go : (k : ℕ) → (found st now x w p).count ≡ k → A
          go zero e = f e
          go (suc k) e = g (omega arith)

      pub accepts-some : is_present ((next st now x).held p) ≡ true → 0 < (found st now x w p).count
      accepts-some e = either (λ h. clash e (ap is_present (holds-nothing h))) (λ h. h)

      pub passes :
          ((settled st now x p).verdict ≡ granted (answer_length (N st)))
          ⊎ ((settled st now x p).verdict ≡ refused (refusal too_many_faults_number 0))
      passes = either (λ h. inr (refuses h)) (λ h. inl (grants h))

      holds-reading : IsReading ((next st now x).held p)
      holds-reading =
          either
          (λ h. subst⁻¹ IsReading (holds-nothing h) tt)
          (λ h. subst⁻¹ IsReading (holds-value h) (value-fits h))

    -- ---- the round

    module _ (early : j < max_rounds) where
      pub next-plan : (next st now x).plan ≡ advance now.plan
      unfolding next
      next-plan = rw (plan-steps early)

      pub ready_next : Ready st (suc j) (next st now x)
      unfolding after
      ready_next = record { plan = next-plan ∙ ap advance ready.plan; readings = λ p s. holds-reading p }

module _ (st : Station) (begins : Start st) where
  pub ready_start : Ready st 0 (start st)
  unfolding after
  ready_start = record { plan = refl; readings = λ r s. begins.readings r }
