-- What writing the line of the values after some rounds gives, and what it leaves in the lent buffer.
--   after_capacity   bytes that hold any such line
--   after_written    the line of a buffer of values
use Rattle.std.specs.Prelude.{List, ℕ, ◌+◌, ◌*◌}
use Rattle.trace.specs.ReplayText.{after_text}
use Rattle.text.specs.Text.{Text, text_in}
use Rattle.value_lines.specs.Values.{value_at}

-- `after`, a number of three bytes, 255 numbers of eleven, a space before each, a line feed
abbrev pub after_capacity : ℕ
after_capacity = 5 + 4 + 255 * 12 + 1

unfoldable pub after_written : ℕ → ℕ → List ℕ → List ℕ → Text
after_written n k values buffer = text_in after_capacity (after_text n k (value_at values)) buffer
