-- The two bytes and the two numbers stored are the header.
use Rattle.std.proofs.Common.{List, ℕ, ap, ap₂, ◌∙◌, arith}
use Rattle.sheet_laws.specs.Storing.{put_word}
use Rattle.answer_parts.specs.Parts.{headed}
use Rattle.answer_parts.proofs.Headers.{header-written}
use Rattle.answer_parts.proofs.put_header.Goals as goal

pub returns : goal.returns
returns c =
    let a = c.args in
    c.put_word-2.ensures
    ∙ ap (λ (l : List ℕ). put_word l 6 c.unbias-2.result) c.put_word.ensures
    ∙ header-written a.answer.now a.n a.outcome.count c.unbias.result c.unbias-2.result
    (omega (arith, c.if-answer-lt-ANSWER_HEADER_SIZE.false))
    ∙ ap₂ (λ (e v : ℕ). headed a.n a.outcome.count e v a.answer.now) c.unbias.ensures c.unbias-2.ensures
