-- The four bytes of the cabinet's used value.
use Rattle.std.proofs.Common.{ℕ, ◌+◌, ◌*◌, ap, ◌∙◌}
use Rattle.model.specs.RoundSheet.{word}
use Rattle.model.specs.AnswerSheet.{answer_header_size}
use Rattle.answer_fields.proofs.used.Goals as goal

pub returns : goal.returns
returns c =
    c.word_at.ensures
    ∙ ap (λ (n : ℕ). word c.args.answer.now (answer_header_size + n + 4 * c.args.cabinet)) c.byte_at-n.ensures
