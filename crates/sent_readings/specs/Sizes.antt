-- INNER: no reader needs this page to believe a public promise.
--   readings_taken    how many readings are taken of this many marks: all, or none where the bytes or the lent lists
--                    are short
use Rattle.std.specs.Prelude.{cond, ◌&&◌, ℕ, ◌/◌, leb}

unfoldable pub readings_taken : ℕ → ℕ → ℕ → ℕ → ℕ
readings_taken sent row marks values = cond (leb sent (row / 4) && (leb sent marks && leb sent values)) sent 0
