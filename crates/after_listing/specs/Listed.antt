-- What the line of the values after k rounds leaves in the lent buffer: the line from its start on, and its length;
-- nothing in a buffer below the capacity.
use Rattle.std.specs.Prelude.{List, ℕ}
use Rattle.trace.specs.ReplayText.{after_listing}
use Rattle.text.specs.Text.{Text, text_in}
use Rattle.after_text.specs.After.{after_capacity}

unfoldable pub after_listed : List ℕ → ℕ → List ℕ → Text
after_listed s k buffer = text_in after_capacity (after_listing s k) buffer
