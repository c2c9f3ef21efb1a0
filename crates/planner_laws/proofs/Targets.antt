-- The count for a target: it is refused as a start for 0 rounds is, and then under 12 exactly where the window after 32
-- rounds is above the target. Windows never grow, so a count that fits shows that the window after 32 rounds fits.
-- Assumes nothing.
use mathlib.Core.Bool.{Bool, true, false, ◌||◌}
use mathlib.Core.List.{[], ◌∷◌, ◌++◌, append_assoc}
use mathlib.Core.Option.{none, some}
use mathlib.Core.Path.{◌≡◌, refl, sym, ap, ◌∙◌}
use Prim.Native.Nat.{ℕ, ◌≤◌, ◌<◌}
use lib.Dec.{ltb}
use borrow.Author.Tests.{lt-ltb, le-ltb}
use native.Mathlib.Nat.{le_trans}
use Rattle.model.specs.declared.Settings.{Settings}
use Rattle.model.specs.Refusals.{Refusal}
use Rattle.model.specs.Planner.{plan_from, window_after, max_accuracy, max_rounds}
use Rattle.model.specs.Refusals.{Check, or_next, refusal, first_of, planner_checks, plan_checks, target_checks}
use Rattle.model.specs.Refusals.{target_missed, target_missed_number}
use Rattle.model.specs.Calls.{granted, refused, Target}
use Rattle.refusal_laws.proofs.Checks.{first_snoc}
use Rattle.planner_laws.proofs.Checks.{none-may-start}
use Rattle.planner_laws.proofs.Windows.{window-after_mono}

or_none : (b : Bool) → (b || false) ≡ b
or_none true = refl
or_none false = refl

module _ (c : Settings) (κ target : ℕ) where
  -- the checks of a start for 0 rounds, and then check 12
  target-checks : plan_checks c κ 0 ++ (target_missed (window_after max_rounds c κ) target ∷ []) ≡ target_checks c κ target
  unfolding plan_checks target_checks
  target-checks = append_assoc (planner_checks c) _ _ ∙ (rw (or_none (ltb max_accuracy κ)))

  by_check : {check : Check} → first_of (plan_checks c κ 0) ≡ check
      → first_of (target_checks c κ target) ≡ or_next check (target_missed (window_after max_rounds c κ) target)
  by_check e =
      ap first_of (sym target-checks)
      ∙ first_snoc (plan_checks c κ 0) _
      ∙ ap (λ (check : Check). or_next check (target_missed (window_after max_rounds c κ) target)) e

  pub start-refuses-target : {r : Refusal} → first_of (plan_checks c κ 0) ≡ some r → Target c κ target (refused r)
  start-refuses-target e = by_check e

  module _ (e : first_of (plan_checks c κ 0) ≡ none) where
    pub target-missed : target < window_after max_rounds c κ → Target c κ target (refused (refusal target_missed_number 0))
    unfolding target_missed
    target-missed l = by_check e ∙ (rw (lt-ltb target (window_after max_rounds c κ) l))

    pub target-reached : (k : ℕ) → k ≤ max_rounds → window_after k c κ ≤ target → Target c κ target (granted k)
    unfolding target_missed
    target-reached k l h =
        let s = none-may-start c κ 0 e in
        let last = le_trans (window-after_mono k max_rounds (plan_from c κ) s.passes l) h in
        (by_check e ∙ (rw (le-ltb target (window_after max_rounds c κ) last)), record { most = l; fits = h })
