-- What the program's text leaves in the lent buffer: the listing from its start on, and its length; nothing in a buffer
-- below the capacity of final values.
use Rattle.std.specs.Prelude.{List, ℕ}
use Rattle.trace.specs.ReplayText.{replay_listing}
use Rattle.text.specs.Text.{Text, text_in}
use Rattle.replay_text.specs.Final.{final_capacity}

unfoldable pub replay_listed : List ℕ → List ℕ → Text
replay_listed s buffer = text_in final_capacity (replay_listing s) buffer
