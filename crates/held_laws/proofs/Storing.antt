-- Readings stored one after the other in a list of marks and a list of values.
-- Assumes nothing.
use mathlib.Core.List.{List}
use mathlib.Core.Path.{◌≡◌, refl, ◌∙◌}
use Prim.Native.Nat.{ℕ, ◌+◌, ◌≤◌, ◌<◌, zero-le}
use native.Mathlib.Omega.{arith}
use lib.ListN.{length, set, length-set}
use Rattle.model.specs.Ensemble.{Readings}
use Rattle.held.specs.Held.{held_mark, held_value}
use Rattle.loop_laws.proofs.Loops.{store-none, store-next, store-ended}
use Rattle.held_laws.specs.Stored.{Stored}

module _ (v : Readings) (n : ℕ) (marks₀ values₀ : List ℕ) where
  -- where the first t of n readings are stored
  pub record Storing (marks values : List ℕ) (t : ℕ) : Type 0 where
    pub up_to : t ≤ n
    pub stored : Stored v t marks₀ values₀ marks values
    pub mark_room : length marks ≡ length marks₀
    pub value_room : length values ≡ length values₀

  pub begin : Storing marks₀ values₀ 0
  begin =
      record {
        up_to = zero-le;
        stored =
            record {
              marked = store-none (λ r. held_mark (v r)) marks₀;
              valued = store-none (λ r. held_value (v r)) values₀;
            };
        mark_room = refl;
        value_room = refl;
      }

  module _ (marks values : List ℕ) (t : ℕ) (so_far : Storing marks values t) where
    pub store :
        t < n
        → n ≤ length marks₀
        → n ≤ length values₀
        → (mark value : ℕ)
        → mark ≡ held_mark (v t)
        → value ≡ held_value (v t)
        → Storing (set marks t mark) (set values t value) (t + 1)
    store h a b mark value p q =
        record {
          up_to = omega arith;
          stored =
              record {
                marked =
                    store-next (λ r. held_mark (v r)) t marks₀ marks mark so_far.stored.marked p (omega arith);
                valued =
                    store-next (λ r. held_value (v r)) t values₀ values value so_far.stored.valued q (omega arith);
              };
          mark_room = length-set marks t mark ∙ so_far.mark_room;
          value_room = length-set values t value ∙ so_far.value_room;
        }

    pub ended : n ≤ t → Stored v n marks₀ values₀ marks values
    ended h =
        record {
          marked = store-ended (λ r. held_mark (v r)) n t marks₀ marks so_far.up_to h so_far.stored.marked;
          valued = store-ended (λ r. held_value (v r)) n t values₀ values so_far.up_to h so_far.stored.valued;
        }
