-- INNER: no reader needs this page to believe a public promise.
-- Checks 8, 9 and 14 of a trace, said of any number of cabinets and rounds.
--   Shaped      the trace has the length of so many cabinets and rounds, and no more entries than a list may have
--   roles_of     14
--   body_of      8, 9 and 14
use Rattle.std.specs.Prelude.{◌&&◌, ◌||◌, List, [], ◌∷◌, ◌++◌, ◌≡◌, ℕ, ◌≤◌, ◌<◌, ltb, eqb, length}
use Rattle.arithmetic.specs.Counting.{any_below}
use Rattle.model.specs.Refusals.{Check, refuse_if, array_checks, bad_roles_number}
use Rattle.trace.specs.Trace.{role_at, sound_at, sender_of, trace_entries, traced_mark, traced_bits, trace_length}
use Rattle.sheet_sizes.specs.Bounds.{most_entries}

pub record Shaped (s : List ℕ) (n rounds : ℕ) : Type 0 where
  pub some_cabinet : 0 < n
  pub long : length s ≡ trace_length n rounds
  pub few : trace_entries n rounds ≤ most_entries

unfoldable pub roles_of : List ℕ → ℕ → ℕ → Check
roles_of s n rounds =
    refuse_if
    (any_below (λ p. ltb 1 (role_at s p)) n
    || any_below (λ e. sound_at s (sender_of n e) && eqb (traced_mark s n e) 1) (trace_entries n rounds))
    bad_roles_number

unfoldable pub body_of : List ℕ → ℕ → ℕ → List Check
body_of s n rounds =
    array_checks (traced_mark s n) (traced_bits s n rounds) (trace_entries n rounds) ++ (roles_of s n rounds ∷ [])
