-- A buffer below the capacity is left as it was, and in any other the refusal's line is the text.
use Rattle.std.proofs.Common.{rules}
use Rattle.model.specs.Refusals.{refusal}
use Rattle.model.specs.Listing.{refusal_text}
use Rattle.text.specs.Text.{refusal_capacity, refusal_written}
use Rattle.text.proofs.Lines.{length-refusal}
use Rattle.text.proofs.Texts.{text_refused, text_written}
use Rattle.text.proofs.refusal_text.Goals as goal

pub returns-then-text-lt-REFUSAL_CAPACITY : goal.returns-then-text-lt-REFUSAL_CAPACITY
unfolding refusal_written
returns-then-text-lt-REFUSAL_CAPACITY c =
    let a = c.args in
    let left = text_refused refusal_capacity (refusal_text (refusal a.number a.place)) a.text.now c.if-text-lt-REFUSAL_CAPACITY.true in
    record { value = left.0; text_after = left.1 }

pub returns : goal.returns
unfolding refusal_written refusal_text
returns c =
    let a = c.args in
    let written =
    text_written refusal_capacity (refusal_text (refusal a.number a.place)) a.text.now
    c.if-text-lt-REFUSAL_CAPACITY.false (length-refusal a.number a.place c.ranges.number.fits)
    c.new-writer.ensures.bytes c.new-writer.ensures.at c.put_refusal.ensures in
    record { value = written.0; text_after = search rules }
