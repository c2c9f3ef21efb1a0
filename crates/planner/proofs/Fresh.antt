-- A fresh plan that was granted has the settings and the accuracy asked for, and no round done. Where it is refused, so
-- is the count for a target.
-- Assumes nothing.
use mathlib.Core.Option.{none}
use mathlib.Core.Path.{◌≡◌, ap, subst}
use Prim.Native.Nat.{ℕ}
use Rattle.model.specs.declared.Settings.{Settings}
use Rattle.model.specs.Planner.{Plan, plan_from, after}
use Rattle.model.specs.Refusals.{Refusal, first_of, plan_checks}
use Rattle.model.specs.Calls.{Verdict, granted, refused, plan, Target}
use Rattle.planner_laws.proofs.Steps.{plan-granted_check, plan-refused_check}
use Rattle.planner_laws.proofs.Targets.{start-refuses-target}

module _ (c : Settings) (κ : ℕ) {p : Plan} (e : granted p ≡ plan c κ 0) where
  fresh : p ≡ plan_from c κ
  unfolding after
  fresh = (plan-granted_check c κ 0 e).1

  pub fresh-passes : first_of (plan_checks p.settings p.accuracy 0) ≡ none
  fresh-passes = rw fresh (plan-granted_check c κ 0 e).0

  pub fresh-rounds : p.rounds ≡ 0
  fresh-rounds = ap (λ (q : Plan). q.rounds) fresh

  pub fresh-target : (target : ℕ) (v : Verdict ℕ) → Target p.settings p.accuracy target v → Target c κ target v
  fresh-target target v t = subst (λ (q : Plan). Target q.settings q.accuracy target v) fresh t

pub start_refused : (c : Settings) (κ target : ℕ) {r : Refusal} → refused r ≡ plan c κ 0 → Target c κ target (refused r)
start_refused c κ target e = start-refuses-target c κ target (plan-refused_check c κ 0 e)
