-- A buffer below the capacity is left as it was, and any other is handed on with a buffer for the values.
use Rattle.trace.specs.ReplayText.{replay_listing}
use Rattle.text.proofs.Texts.{text_refused}
use Rattle.replay_text.specs.Final.{final_capacity}
use Rattle.replay_listing.specs.Listed.{replay_listed}
use Rattle.replay_listing.proofs.listing.Goals as goal

pub returns-then-text-lt-FINAL_CAPACITY : goal.returns-then-text-lt-FINAL_CAPACITY
unfolding replay_listed
returns-then-text-lt-FINAL_CAPACITY c =
    let a = c.args in
    let left = text_refused final_capacity (replay_listing a.trace.now) a.text.now c.if-text-lt-FINAL_CAPACITY.true in
    record { value = left.0; text_after = left.1 }
