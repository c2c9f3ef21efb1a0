-- A buffer below the capacity is left as it was, and in any other the line is the text.
use Rattle.std.proofs.Common.{rules}
use Rattle.trace.specs.ReplayText.{after_text}
use Rattle.text.proofs.Texts.{text_refused, text_written}
use Rattle.value_lines.specs.Values.{value_at}
use Rattle.after_text.specs.After.{after_capacity, after_written}
use Rattle.after_text.proofs.Fields.{length-after}
use Rattle.after_text.proofs.after_text.Goals as goal

pub returns-then-text-lt-AFTER_CAPACITY : goal.returns-then-text-lt-AFTER_CAPACITY
unfolding after_written
returns-then-text-lt-AFTER_CAPACITY c =
    let left =
    text_refused after_capacity (after_text c.args.n c.args.k (value_at c.args.values.now)) c.args.text.now
    c.if-text-lt-AFTER_CAPACITY.true in
    record { value = left.0; text_after = left.1 }

pub returns : goal.returns
unfolding after_written
returns c =
    let a = c.args in
    let values = value_at a.values.now in
    let written =
    text_written after_capacity (after_text a.n a.k values) a.text.now c.if-text-lt-AFTER_CAPACITY.false
    (length-after a.n a.k values c.ranges.n.fits c.ranges.k.fits)
    c.new-writer.ensures.bytes c.new-writer.ensures.at c.put_after.ensures in
    record { value = written.0; text_after = search rules }
