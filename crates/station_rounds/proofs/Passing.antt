-- The cabinets of a round settled one after the other: those passed met not too many faults, and hold their next values.
-- Assumes nothing.
use mathlib.Core.Bool.{true, false}
use mathlib.Core.List.{List}
use mathlib.Core.Path.{◌≡◌, refl, sym, ap, ◌∙◌}
use mathlib.Core.Logic.{⊎_elim}
use Prim.Native.Nat.{ℕ, ◌+◌, ◌≤◌, ◌<◌, zero-le}
use native.Mathlib.Numerals.{add-one}
use native.Mathlib.Omega.{arith}
use lib.ListN.{length, set, length-set}
use Rattle.arithmetic.specs.Writing.{table, overwrite}
use Rattle.arithmetic.proofs.Counting.{split-last}
use Rattle.loop_laws.proofs.Loops.{store-none, store-next}
use Rattle.model.specs.declared.Settings.{Settings}
use Rattle.station_rounds.specs.Rounds.{meets_too_many, next_value}
use Rattle.station_rounds.specs.Settling.{Left}
use Rattle.station_rounds.proofs.Settled.{first-refused, none-refused}

module _ (c : Settings) (roles held sent readings next₀ : List ℕ) where
  pub record Passing (next : List ℕ) (p : ℕ) : Type 0 where
    pub up_to : p ≤ length roles
    pub passed : (q : ℕ) → q < p → meets_too_many c roles held sent readings q ≡ false
    pub stored : next ≡ overwrite (table (next_value c roles held sent readings) p) next₀
    pub room : length next ≡ length next₀

  pub begin : Passing next₀ 0
  begin =
      record {
        up_to = zero-le;
        passed = λ q l. absurd (omega arith);
        stored = store-none (next_value c roles held sent readings) next₀;
        room = refl;
      }

  module _ (next : List ℕ) (p : ℕ) (so_far : Passing next p) where
    pub pass :
        p < length roles → length next₀ ≡ length roles
        → meets_too_many c roles held sent readings p ≡ false
        → (value : ℕ) → value ≡ next_value c roles held sent readings p
        → Passing (set next p value) (p + 1)
    pass l long fine value e =
        record {
          up_to = omega arith;
          passed = λ q h. ⊎_elim (so_far.passed q) (λ same. rw same fine) (split-last q p (rw (add-one p) at h));
          stored =
              store-next (next_value c roles held sent readings) p next₀ next value so_far.stored e (omega arith);
          room = length-set next p value ∙ so_far.room;
        }

    pub stopped :
        p < length roles → meets_too_many c roles held sent readings p ≡ true
        → Left c roles held sent readings next₀ p next
    stopped l m =
        record { first = first-refused c roles held sent readings p so_far.passed l m; stored = so_far.stored }

    pub ended : length roles ≤ p → Left c roles held sent readings next₀ (length roles) next
    ended l =
        record {
          first = sym all ∙ none-refused c roles held sent readings p so_far.passed l so_far.up_to;
          stored =
              so_far.stored ∙ ap (λ (k : ℕ). overwrite (table (next_value c roles held sent readings) k) next₀) all;
        }
      where
        all : p ≡ length roles
        all = omega (arith, so_far.up_to)
