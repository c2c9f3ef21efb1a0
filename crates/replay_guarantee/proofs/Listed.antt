-- The rounds of a run as a list: a claim about every round of the list is one about each round by its number.
-- Assumes nothing.
use mathlib.Core.List.{List, [], ◌∷◌}
use mathlib.Core.Path.{◌≡◌, refl, ap, subst}
use Prim.Native.Nat.{ℕ, zero, suc, ◌+◌, ◌<◌}
use native.Mathlib.Nat.{not-suc-le-zero}
use native.Mathlib.Omega.{arith}
use lib.ListN.{length}
use Rattle.run.specs.Run.{Station, Sends, State, state_after}
use Rattle.demand_3.specs.Guarantee.{Every, Each}

module _ (sends : ℕ → Sends) where
  -- n rounds, from round j on
  abbrev pub rounds_from : ℕ → ℕ → List Sends
  rounds_from j zero = []
  rounds_from j (suc n) = sends j ∷ rounds_from (suc j) n

  pub length-rounds : (j n : ℕ) → length (rounds_from j n) ≡ n
  length-rounds j zero = refl
  length-rounds j (suc n) = ap suc (length-rounds (suc j) n)

  pub each-listed : (Claim : Sends → Type 0) → ((k : ℕ) → Claim (sends k)) → (j n : ℕ) → Each Claim (rounds_from j n)
  each-listed Claim f j zero = tt
  each-listed Claim f j (suc n) = (f j, each-listed Claim f (suc j) n)

  module _ (st : Station) (Claim : State → Sends → Type 0) where
    pub every-listed :
        (j n : ℕ) → Every st Claim (state_after st sends j) (rounds_from j n)
        → (i : ℕ) → i < n → Claim (state_after st sends (j + i)) (sends (j + i))
    unfolding state_after
    every-listed j zero h i l = absurd (not-suc-le-zero l)
    every-listed j (suc n) h zero l = subst (λ (k : ℕ). Claim (state_after st sends k) (sends k)) here h.0
      where
        here : j ≡ j + 0
        here = omega arith
    every-listed j (suc n) h (suc i) l =
        subst (λ (k : ℕ). Claim (state_after st sends k) (sends k)) later (every-listed (suc j) n h.1 i (omega arith))
      where
        later : suc j + i ≡ j + suc i
        later = omega arith
