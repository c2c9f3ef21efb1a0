-- INNER: no reader needs this page to believe a public promise. The rounds of a trace played one after the other, on
-- lists of what the sound cabinets hold, moved up by 2^31.
--   HeldTo        the list holds what sound cabinets hold after k rounds
--   Playable      what checks 1 to 5 and 13 leave of a trace
--   stopped_of     the cabinet that a round stops at
--   RoundPlayed   what playing a round gives and leaves
--   Played        what playing some rounds gives and leaves
--   played_given   what `play` gives
use Rattle.std.specs.Prelude.{true, cond, List, ◌≡◌, ℕ, ◌+◌, ◌≤◌, ◌<◌, min, ltb, eqb, length, get_or}
use Rattle.std.specs.Prelude as o
use Rattle.std.proofs.Math.Option.{Option, none, some}
use Rattle.arithmetic.specs.Counting.{lowest}
use Rattle.arithmetic.specs.Naturals.{down}
use Rattle.arithmetic.specs.Words.{two_to31}
use Rattle.model.specs.declared.Settings.{Settings}
use Rattle.model.specs.Ensemble.{present, max_cabinets}
use Rattle.model.specs.RoundSheet.{fca, settings_at}
use Rattle.model.specs.Planner.{max_rounds}
use Rattle.model.specs.Refusals.{Check, refusal, first_of, settings_checks, no_room_number}
use Rattle.model.specs.Calls.{Verdict, refused, verdict}
use Rattle.trace.specs.Trace.{rounds_at, sound_at, trace_length}
use Rattle.trace.specs.Replay.{state_to, refused_in, run_stopped, replay_checks}

abbrev pub HeldTo : List ℕ → ℕ → List ℕ → Type 0
HeldTo s k held =
    (r : ℕ) → r < (settings_at s).n → sound_at s r ≡ true → (state_to s k).held r ≡ present (down two_to31 (get_or held r 0))

pub record Playable (s : List ℕ) : Type 0 where
  pub passes : first_of (settings_checks (settings_at s)) ≡ none
  pub direct : (settings_at s).rule ≡ fca
  pub few : rounds_at s ≤ max_rounds
  pub long : length s ≡ trace_length (settings_at s).n (rounds_at s)

-- the cabinet that a round stops at, where it stops
abbrev pub stopped_of : o.Option ℕ → Option ℕ
stopped_of (o.Some p) = some p
stopped_of o.None = none

-- the first cabinet that meets too many faults in round k, and what is held where none does
pub record RoundPlayed (s : List ℕ) (k : ℕ) (stopped : Option ℕ) (held : List ℕ) : Type 0 where
  pub first : lowest (refused_in s k) (settings_at s).n ≡ stopped
  pub holds : stopped ≡ none → HeldTo s (k + 1) held

-- the first k rounds of a trace that passes its other checks
pub record Played (s : List ℕ) (k : ℕ) (check : Check) (held : List ℕ) : Type 0 where
  pub stops : check ≡ run_stopped s k
  pub holds : check ≡ none → HeldTo s k held

-- what `play` gives, lent a list of this length
unfoldable pub played_given : List ℕ → ℕ → ℕ → ℕ → Verdict Settings
played_given s most room held =
    cond (ltb held max_cabinets) (refused (refusal no_room_number 0))
    (verdict (first_of (replay_checks s (min most (rounds_at s)) room)) (settings_at s))
