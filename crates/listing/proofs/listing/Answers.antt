-- A buffer below the capacity is left as it was, and any other is handed on with an answer buffer of zeros.
use Rattle.model.specs.Listing.{listing}
use Rattle.text.specs.Text.{round_capacity}
use Rattle.text.proofs.Texts.{text_refused}
use Rattle.listing.specs.Listed.{listing_in}
use Rattle.listing.proofs.listing.Goals as goal

pub returns-then-text-lt-ROUND_CAPACITY : goal.returns-then-text-lt-ROUND_CAPACITY
unfolding listing_in
returns-then-text-lt-ROUND_CAPACITY c =
    let a = c.args in
    let left = text_refused round_capacity (listing a.input.now) a.text.now c.if-text-lt-ROUND_CAPACITY.true in
    record { value = left.0; text_after = left.1 }
