-- A buffer below the capacity is left as it was, and in any other the first line and the cabinets' lines, of the bytes
-- that were read, are the answer sheet's text.
use Rattle.std.proofs.Common.{rules}
use Rattle.model.specs.RoundSheet.{byte}
use Rattle.model.specs.Listing.{round_text}
use Rattle.fields.proofs.Writing.{writes_then}
use Rattle.text.specs.Text.{answer_round, round_capacity, round_written}
use Rattle.text.proofs.Texts.{text_refused, text_written}
use Rattle.text.proofs.Answers.{round_lines, length-round}
use Rattle.text.proofs.round_text.Goals as goal

pub returns-then-text-lt-ROUND_CAPACITY : goal.returns-then-text-lt-ROUND_CAPACITY
unfolding round_written
returns-then-text-lt-ROUND_CAPACITY c =
    let answer = c.args.answer.now in
    let left =
    text_refused round_capacity (round_text (byte answer 0) (answer_round answer)) c.args.text.now
    c.if-text-lt-ROUND_CAPACITY.true in
    record { value = left.0; text_after = left.1 }

pub returns : goal.returns
unfolding round_written
returns c =
    let answer = c.args.answer.now in
    let lines = writes_then c.put_round.ensures c.put_cabinets.ensures in
    let same =
    round_lines answer c.byte_at-n.result c.byte_at-count.result c.word_at-estimate.result c.word_at-value.result
    c.byte_at-n.ensures c.byte_at-count.ensures c.word_at-estimate.ensures c.word_at-value.ensures in
    let written =
    text_written round_capacity (round_text (byte answer 0) (answer_round answer)) c.args.text.now
    c.if-text-lt-ROUND_CAPACITY.false (length-round answer (λ j. (c.type_inv.answer j).fits))
    c.new-writer.ensures.bytes c.new-writer.ensures.at (rw (← same) at lines) in
    record { value = written.0; text_after = search rules }
