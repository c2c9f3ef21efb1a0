-- What writing the text of final values gives, and what it leaves in the lent buffer.
--   final_capacity    bytes that hold any such text
--   final_written     the text of a trace's bytes and a buffer of values
use Rattle.std.specs.Prelude.{List, ℕ, ◌+◌, ◌*◌}
use Rattle.model.specs.RoundSheet.{byte}
use Rattle.trace.specs.Trace.{rounds_at, role_at}
use Rattle.trace.specs.ReplayText.{final_text}
use Rattle.value_lines.specs.Values.{value_at}
use Rattle.text.specs.Text.{Text, text_in, cabinet_capacity}

-- `replay`, numbers of three and three bytes, two spaces, a line feed
abbrev pub first_capacity : ℕ
first_capacity = 15

-- the first line and 255 cabinets' lines
abbrev pub final_capacity : ℕ
final_capacity = first_capacity + 255 * cabinet_capacity

unfoldable pub final_written : List ℕ → List ℕ → List ℕ → Text
final_written s values buffer =
    text_in final_capacity (final_text (byte s 0) (rounds_at s) (role_at s) (value_at values)) buffer
