-- Every round of every run is orderly, however many are bad; and a cabinet's new value, as a natural moved down.
-- Assumes nothing.
use mathlib.Core.List.{List, [], ◌∷◌}
use mathlib.Core.Path.{◌≡◌, sym, ap, ◌∙◌}
use Prim.Native.Nat.{ℕ, suc, ◌+◌, ◌≤◌, ◌<◌}
use native.Mathlib.Nat.{add-zero}
use native.Mathlib.Omega.{arith}
use lib.ListN.{length}
use mir.Syntax.{w32}
use mir.Val.{SFits}
use Rattle.arithmetic.specs.Naturals.{down}
use Rattle.arithmetic.specs.Words.{two_to31}
use Rattle.model.specs.declared.Settings.{Settings}
use Rattle.model.specs.Ensemble.{present, ticks}
use Rattle.model.specs.Planner.{with_window, max_rounds}
use Rattle.model.specs.Calls.{granted}
use Rattle.round_laws.specs.Naturals.{Even}
use Rattle.limit_laws.proofs.Settled.{value_by}
use Rattle.run.specs.Run.{Station, N, m, Start, Sends, Allowed, State, next}
use Rattle.run.proofs.Entries.{seen, reading-fits}
use Rattle.run.proofs.Link.{found}
use Rattle.run.proofs.Ready.{Ready, some-n, plan-steps, reads, holds-value, passes, next-plan, ready_next}
use Rattle.demand_3.specs.Guarantee.{Every, Orderly, Each}
use Rattle.demand_3.proofs.Received.{received, received-value}

module _ (st : Station) (begins : Start st) (j : ℕ) (now : State) (ready : Ready st j now) (x : Sends)
    (allowed : Allowed st x) where
  -- the window and the settings of the round
  abbrev w : ℕ
  w = now.plan.settings.window

  abbrev c : Settings
  c = with_window st.settings w

  pub seen-fits : (p r : ℕ) → r < N st → SFits w32 (ticks (seen st now x w p r))
  seen-fits p r l = reading-fits (seen st now x w p r) (reads st begins j now ready x allowed p r l)

  -- p's new value as a natural, moved down by k
  pub new-value :
      (p : ℕ) → 0 < (found st now x w p).count → (k : ℕ) → two_to31 ≤ k → Even k
      → (next st now x).held p
      ≡ present
      (down k (value_by (N st) (m st) w (received c (seen st now x w p) k)))
  new-value p some-acc k h even =
      holds-value st begins j now ready x allowed p some-acc
      ∙ ap present
      (received-value c 0 w (add-zero w) (seen st now x w p) (seen-fits p) k h (some-n st begins j now ready) even some-acc)

  pub orderly : j < max_rounds → Orderly st now x
  orderly early =
      record {
        passes = λ p s. passes st begins j now ready x allowed p;
        steps =
            plan-steps st begins j now ready early
            ∙ ap granted (sym (next-plan st begins j now ready x allowed early));
      }

module _ (st : Station) (begins : Start st) where
  pub every-orderly :
      (rounds : List Sends) (now : State) (j : ℕ) → j + length rounds ≤ max_rounds → Each (Allowed st) rounds
      → Ready st j now → Every st (Orderly st) now rounds
  every-orderly [] now j l each ready = tt
  every-orderly (x ∷ xs) now j l each ready =
      let early : j < max_rounds = omega arith in (
        orderly st begins j now ready x each.0 early,
        every-orderly xs (next st now x) (suc j) (omega arith) each.1
            (ready_next st begins j now ready x each.0 early),
      )
