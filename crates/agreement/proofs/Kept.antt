-- The readings that are not accepted, struck out in their place.
-- Assumes nothing.
use mathlib.Core.Bool.{Bool, false}
use mathlib.Core.List.{List}
use mathlib.Core.Path.{◌≡◌, ap, ◌∙◌}
use Prim.Native.Nat.{ℕ, ◌+◌, ◌≤◌, ◌<◌}
use native.Mathlib.Nat.{le_refl}
use native.Mathlib.Omega.{arith}
use lib.ListN.{length, get_or, set}
use Rattle.arithmetic.specs.Writing.{table, overwrite}
use Rattle.arithmetic.proofs.Writing.{length-table, get_d_table, get_d_overwrite}
use Rattle.arithmetic.proofs.Writing.{overwrite-whole, table_ext}
use Rattle.held.specs.Held.{value_at, kept_mark}
use Rattle.acceptance.specs.Values.{accepted_in}
use Rattle.agreement.specs.Values.{mark_at}
use Rattle.loop_laws.proofs.Loops.{Storing, storing_none, storing_behind, storing_next, storing_all}
use Rattle.held.proofs.Held.{mark-kept}

module _ (flags : List Bool) (marks₀ : List ℕ) where
  abbrev pub struck : ℕ → ℕ
  struck r = kept_mark (get_or flags r false) (get_or marks₀ r 0)

  -- where the readings below r are struck out
  pub record Striking (marks : List ℕ) (r : ℕ) : Type 0 where
    pub room : length marks₀ ≤ length flags
    pub stores : Storing struck (length marks₀) marks₀ marks r

  pub strike_none : length marks₀ ≤ length flags → Striking marks₀ 0
  strike_none s = record { room = s; stores = storing_none struck (length marks₀) marks₀ (le_refl (length marks₀)) }

  module _ (marks : List ℕ) (r : ℕ) (so_far : Striking marks r) where
    pub strike_one :
        r < length marks₀
        → (x : ℕ)
        → x ≡ kept_mark (get_or flags r false) (get_or marks r 0)
        → Striking (set marks r x) (r + 1)
    strike_one h x e =
        let here = storing_behind struck (length marks₀) marks₀ marks r so_far.stores 0 in
        record {
          room = so_far.room;
          stores =
              storing_next struck (length marks₀) marks₀ marks r so_far.stores h x
              (e ∙ ap (kept_mark (get_or flags r false)) here);
        }

    pub all-struck : length marks₀ ≤ r → marks ≡ table struck (length marks₀)
    all-struck h =
        let t = length-table struck (length marks₀) in
        storing_all struck (length marks₀) marks₀ marks r so_far.stores h
        ∙ overwrite-whole (table struck (length marks₀)) marks₀ (omega arith)

-- the readings struck out by the flags of acceptance
module _ (w need : ℕ) (marks values : List ℕ) where
  abbrev pub flags_for : List Bool → List Bool
  flags_for = overwrite (table (accepted_in w need marks values) (length marks))

  pub struck-kept :
      (flags₀ : List Bool)
      → table (struck (flags_for flags₀) marks) (length marks) ≡ table (mark_at w need marks values) (length marks)
  struck-kept flags₀ =
      table_ext (struck (flags_for flags₀) marks) (mark_at w need marks values) (length marks)
      (λ r l.
      ap (λ (b : Bool). kept_mark b (get_or marks r 0)) (at r l)
      ∙ mark-kept (accepted_in w need marks values r) (get_or marks r 0) (value_at values r))
    where
      at : (r : ℕ) → r < length marks → get_or (flags_for flags₀) r false ≡ accepted_in w need marks values r
      at r l =
          let f = accepted_in w need marks values in
          get_d_overwrite (table f (length marks)) flags₀ r false (rw (length-table f (length marks)) l)
          ∙ get_d_table f (length marks) r false l
