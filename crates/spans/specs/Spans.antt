-- INNER: no reader needs this page to believe a public promise. Spans of held readings (Rattle.held.specs.Held).
--   in_span    a number lies in the span from a start
--   held_at    a reading is present, and lies in the span from a start
use Rattle.std.specs.Prelude.{ℕ, ◌+◌, Bool, ◌&&◌, List, nat_le}
use Rattle.held.specs.Held.{value_at, present_in}

abbrev pub in_span : ℕ → ℕ → ℕ → Bool
in_span start w v = nat_le start v && nat_le v (start + w)

unfoldable pub held_at : ℕ → ℕ → List ℕ → List ℕ → ℕ → Bool
held_at start w marks values t = present_in marks t && in_span start w (value_at values t)
