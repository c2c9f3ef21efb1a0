-- A buffer below the capacity is left as it was, and in any other the first line and the cabinets' lines, of the bytes
-- that were read, are the text of the final values.
use Rattle.std.proofs.Common.{List, ℕ, rules}
use Rattle.model.specs.RoundSheet.{byte}
use Rattle.trace.specs.Trace.{rounds_at, role_at}
use Rattle.trace.specs.ReplayText.{final_text}
use Rattle.fields.proofs.Writing.{writes_then}
use Rattle.text.proofs.Texts.{text_refused, text_written}
use Rattle.value_lines.specs.Values.{value_at}
use Rattle.replay_text.specs.Final.{final_capacity, final_written}
use Rattle.replay_text.proofs.Lines.{final_lines, length_final}
use Rattle.replay_text.proofs.final_text.Goals as goal

abbrev text_of : List ℕ → List ℕ → List ℕ
text_of trace values = final_text (byte trace 0) (rounds_at trace) (role_at trace) (value_at values)

pub returns-then-text-lt-FINAL_CAPACITY : goal.returns-then-text-lt-FINAL_CAPACITY
unfolding final_written
returns-then-text-lt-FINAL_CAPACITY c =
    let left =
    text_refused final_capacity (text_of c.args.trace.now c.args.values.now) c.args.text.now
    c.if-text-lt-FINAL_CAPACITY.true in
    record { value = left.0; text_after = left.1 }

pub returns : goal.returns
unfolding final_written
returns c =
    let trace = c.args.trace.now in
    let values = c.args.values.now in
    let lines = writes_then c.put_first.ensures c.put_lines.ensures in
    let same =
    final_lines trace (value_at values) c.byte_at-n.result c.byte_at-rounds.result c.byte_at-n.ensures
    c.byte_at-rounds.ensures in
    let written =
    text_written final_capacity (text_of trace values) c.args.text.now c.if-text-lt-FINAL_CAPACITY.false
    (length_final trace (value_at values) (λ j. (c.type_inv.trace j).fits))
    c.new-writer.ensures.bytes c.new-writer.ensures.at (rw (← same) at lines) in
    record { value = written.0; text_after = search rules }
