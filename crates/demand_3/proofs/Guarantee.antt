-- Demand 3 holds: `guarantee` is the theorem that specs/Guarantee.antt states. The good set of the first round is the
-- given one; after it all sound cabinets are good, for the next window and the next accuracy.
-- Assumes nothing.
use mathlib.Core.Bool.{Bool}
use mathlib.Core.List.{List, [], ◌∷◌}
use mathlib.Core.Path.{◌≡◌, sym, ap, ◌∙◌}
use Prim.Native.Nat.{ℕ, suc, ◌+◌, ◌%◌, ◌≤◌, ◌<◌}
use native.Mathlib.Nat.{le_trans, zero-add}
use native.Mathlib.Omega.{arith}
use lib.IntN.{ℤ}
use lib.ListN.{length}
use Rattle.model.specs.declared.Settings.{Settings}
use Rattle.model.specs.Planner.{Plan, advance, window_factor, next_window, growth, with_window, max_rounds}
use Rattle.model.specs.Refusals.{first_of, step_checks}
use Rattle.model.specs.Calls.{granted, step}
use Rattle.planner_laws.proofs.Verdicts.{granted_check}
use Rattle.planner_laws.proofs.Windows.{ceil_next-le}
use Rattle.run.specs.Run.{Station, N, m, Start, Sends, Allowed, State, start, next}
use Rattle.demand_3.specs.Guarantee.{new_value, apart}
use Rattle.demand_3.specs.Guarantee.{Good}
use Rattle.demand_3.specs.Guarantee.{bad, Every, close_gap, close_error, Close, Each, Demand3}
use Rattle.demand_3.specs.Odd.{OddClose}
use Rattle.run.proofs.Ready.{Ready, plan-settings, next-plan, ready_next, ready_start, some-n}
use Rattle.demand_3.proofs.Orderly.{orderly}
use Rattle.demand_3.proofs.Orderly.{every-orderly}
use Rattle.demand_3.proofs.Round.{station_at, faults-bad, round-unrefused, round-precise, round-accurate}
use Rattle.demand_3.proofs.Round.{round-present, round-odd}
use Rattle.demand_3.proofs.Exact.{exact-limits, exact-wide}

-- a step that is granted hands on the plan one round on
pub step-advances : (p q : Plan) → step p ≡ granted q → q ≡ advance p
unfolding step
step-advances p q e = (granted_check (advance p) (first_of (step_checks p)) (sym e)).1

-- the limits of a round where at most m are bad, and those for an odd N
abbrev pub Closes : Station → ℤ → State → Sends → Type 0
Closes st truth now x = Close st truth now x × (N st % 2 ≡ 1 → OddClose st now x)

module _ (st : Station) (truth : ℤ) where
  pub every_first :
      (rounds : List Sends) (now : State) → Every st (Closes st truth) now rounds → Every st (Close st truth) now rounds
  every_first [] now e = tt
  every_first (x ∷ xs) now e = (e.0.0, every_first xs (next st now x) e.1)

  pub every-odd :
      N st % 2 ≡ 1 → (rounds : List Sends) (now : State) → Every st (Closes st truth) now rounds
      → Every st (OddClose st) now rounds
  every-odd odd [] now e = tt
  every-odd odd (x ∷ xs) now e = (e.0.1 odd, every-odd odd xs (next st now x) e.1)

module _ (st : Station) (begins : Start st) (truth : ℤ) where
  module _ (j : ℕ) (now : State) (ready : Ready st j now) (early : j < max_rounds) (x : Sends) (allowed : Allowed st x)
      (good : ℕ → Bool) (stand : Good (station_at st now) good truth) (few : bad st good ≤ m st) where
    advances : (next st now x).plan ≡ advance now.plan
    advances = next-plan st begins j now ready x allowed early

    settings : with_window st.settings now.plan.settings.window ≡ now.plan.settings
    settings = sym (plan-settings st begins j now ready)

    next-window : next_window (with_window st.settings now.plan.settings.window) ≡ close_gap st now x
    unfolding advance
    next-window = ap next_window settings ∙ ap (λ (p : Plan). p.settings.window) (sym advances)

    next-accuracy :
        now.plan.accuracy + growth (with_window st.settings now.plan.settings.window) ≡ close_error st now x
    unfolding advance
    next-accuracy =
        ap (λ (c : Settings). now.plan.accuracy + growth c) settings
        ∙ ap (λ (p : Plan). p.accuracy) (sym advances)

    precise : (p q : ℕ) → apart (new_value st now x p) (new_value st now x q) ≤ close_gap st now x
    precise p q =
        rw next-window at (round-precise st begins j now ready x allowed good truth stand few p q)

    accurate : (p : ℕ) → apart (new_value st now x p) truth ≤ close_error st now x
    accurate p = rw next-accuracy at (round-accurate st begins j now ready x allowed good truth stand few p)

    -- the limits of the round
    closes : Close st truth now x
    closes =
        record {
          unrefused = λ p s. round-unrefused st begins j now ready x allowed good truth stand few p;
          steps = (orderly st begins j now ready x allowed early).steps;
          precise = λ p q sp sq. precise p q;
          accurate = λ p s. accurate p;
        }

    odd-closes : N st % 2 ≡ 1 → OddClose st now x
    unfolding window_factor
    odd-closes odd =
        record {
          precise = λ p q sp sq. round-odd st begins j now ready x allowed good truth stand few odd p q;
          sharper =
              rw next-window at
              (ceil_next-le (with_window st.settings now.plan.settings.window) (some-n st begins j now ready));
        }

    -- "After round one all sound cabinets are good for the new limits"
    stays-good : Good (station_at st (next st now x)) st.sound truth
    stays-good =
        record {
          sound = λ p l s. s;
          present = λ p l s. round-present st begins j now ready x allowed good truth stand few p;
          accurate = λ p l s. accurate p;
          precise = λ p q lp lq sp sq. precise p q;
        }

  -- every round of a list
  pub every :
      (rounds : List Sends) (good : ℕ → Bool) (now : State) (j : ℕ) → j + length rounds ≤ max_rounds → Each (Allowed st) rounds
      → Ready st j now → Good (station_at st now) good truth → bad st good ≤ m st → Every st (Closes st truth) now rounds
  every [] good now j l each ready stand few = tt
  every (x ∷ xs) good now j l each ready stand few =
      let early : j < max_rounds = omega arith in (
        (closes j now ready early x each.0 good stand few, odd-closes j now ready early x each.0 good stand few),
        every xs st.sound (next st now x) (suc j) (omega arith) each.1
            (ready_next st begins j now ready x each.0 early)
            (stays-good j now ready early x each.0 good stand few)
            (le_trans (faults-bad st now good truth stand) few),
      )

pub guarantee : Demand3
guarantee st begins rounds l each good truth g =
    let most : 0 + length rounds ≤ max_rounds = rw (zero-add (length rounds)) l in
    record {
      every-round = every-orderly st begins rounds (start st) 0 most each (ready_start st begins);
      few = λ few.
          every_first st truth rounds (start st)
          (every st begins truth rounds good (start st) 0 most each (ready_start st begins) g few);
      many = λ above many.
          exact-wide st (bad st good) truth rounds (exact-limits st begins rounds l each good truth g above many);
    }
