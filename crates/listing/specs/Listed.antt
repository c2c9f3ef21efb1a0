-- What the program's text leaves in the lent buffer: the listing from its start on, and its length; nothing in a buffer
-- below the capacity of a round's text.
use Rattle.std.specs.Prelude.{List, ℕ}
use Rattle.model.specs.Listing.{listing}
use Rattle.text.specs.Text.{Text, text_in, round_capacity}

unfoldable pub listing_in : List ℕ → List ℕ → Text
listing_in input buffer = text_in round_capacity (listing input) buffer
