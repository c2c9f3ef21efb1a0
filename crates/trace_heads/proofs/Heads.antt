-- The checks before the entries in their order; and what it means that none refuses.
-- Assumes nothing.
use mathlib.Core.Bool.{Bool, false, not, ◌||◌}
use mathlib.Core.List.{List, [], ◌∷◌}
use mathlib.Core.Option.{none}
use mathlib.Core.Path.{◌≡◌, sym, ap, ◌∙◌}
use Prim.Native.Nat.{ℕ, ◌*◌, ◌≤◌}
use borrow.Author.Tests.{ltb-false, eqb-true, not-false}
use lib.Dec.{ltb, eqb}
use lib.ListN.{length}
use Rattle.arithmetic.proofs.Bools.{or_left, or_right}
use Rattle.model.specs.RoundSheet.{fca, header_size, settings_at}
use Rattle.model.specs.Planner.{max_rounds}
use Rattle.model.specs.Refusals.{Check, or_next, first_of, too_short, settings_checks, no_room, bad_trace_number, no_room_number}
use Rattle.model.specs.Refusals.{refuse_if, too_short_number}
use Rattle.refusal_laws.proofs.Checks.{first_append, next-none, next-none-left, next-none-right, when_none}
use Rattle.refusal_laws.proofs.Limits.{Limits, limits}
use Rattle.trace.specs.Trace.{rounds_at, trace_length}
use Rattle.trace.specs.Replay.{bad_trace}
use Rattle.trace_heads.specs.Heads.{head_checks}

module _ (s : List ℕ) (room : ℕ) where
  -- 1, then 2 to 5, then 13, then 7
  pub head-checks :
      first_of (head_checks s room)
      ≡ or_next (too_short s)
      (or_next (first_of (settings_checks (settings_at s))) (or_next (bad_trace s) (no_room room (4 * (settings_at s).n))))
  unfolding head_checks first_of
  head-checks =
      ap (or_next (too_short s))
      (first_append (settings_checks (settings_at s)) (bad_trace s ∷ no_room room (4 * (settings_at s).n) ∷ [])
      ∙ ap (λ (x : Check). or_next (first_of (settings_checks (settings_at s))) (or_next (bad_trace s) x))
      (next-none (no_room room (4 * (settings_at s).n))))

  -- what it means that none refuses
  pub record Headed : Type 0 where
    pub within : Limits (settings_at s)
    pub rule : (settings_at s).rule ≡ fca
    pub rounds : rounds_at s ≤ max_rounds
    pub long : length s ≡ trace_length (settings_at s).n (rounds_at s)
    pub spacious : 4 * (settings_at s).n ≤ room

  pub headed : first_of (head_checks s room) ≡ none → Headed
  unfolding bad_trace no_room
  headed h =
      record {
        within = limits (settings_at s) (next-none-left sizes (or_next (bad_trace s) roomed) settings);
        rule = eqb-true (settings_at s).rule fca (not-false (eqb (settings_at s).rule fca) (or_left other late shape));
        rounds =
            ltb-false max_rounds (rounds_at s) (or_left (ltb max_rounds (rounds_at s)) wrong (or_right other late shape));
        long =
            eqb-true (length s) (trace_length (settings_at s).n (rounds_at s))
            (not-false (eqb (length s) (trace_length (settings_at s).n (rounds_at s)))
            (or_right (ltb max_rounds (rounds_at s)) wrong (or_right other late shape)));
        spacious =
            ltb-false room (4 * (settings_at s).n)
            (when_none (ltb room (4 * (settings_at s).n)) no_room_number (next-none-right (bad_trace s) roomed rest));
      }
    where
      sizes : Check
      sizes = first_of (settings_checks (settings_at s))

      roomed : Check
      roomed = no_room room (4 * (settings_at s).n)

      other : Bool
      other = not (eqb (settings_at s).rule fca)

      wrong : Bool
      wrong = not (eqb (length s) (trace_length (settings_at s).n (rounds_at s)))

      late : Bool
      late = ltb max_rounds (rounds_at s) || wrong

      settings : or_next sizes (or_next (bad_trace s) roomed) ≡ none
      settings = next-none-right (too_short s) (or_next sizes (or_next (bad_trace s) roomed)) (sym head-checks ∙ h)

      rest : or_next (bad_trace s) roomed ≡ none
      rest = next-none-right sizes (or_next (bad_trace s) roomed) settings

      shape : (other || late) ≡ false
      shape = when_none (other || late) bad_trace_number (next-none-left (bad_trace s) roomed rest)

-- 1 to 5, 13 and 7, one after the other
pub in_turn :
    (s : List ℕ) (room : ℕ)
    → first_of (head_checks s room)
    ≡ or_next (refuse_if (ltb (length s) header_size) too_short_number)
    (or_next (first_of (settings_checks (settings_at s)))
    (or_next
    (refuse_if
    (not (eqb (settings_at s).rule fca)
    || (ltb max_rounds (rounds_at s) || not (eqb (length s) (trace_length (settings_at s).n (rounds_at s)))))
    bad_trace_number)
    (refuse_if (ltb room (4 * (settings_at s).n)) no_room_number)))
unfolding too_short bad_trace no_room
in_turn s room = head-checks s room
