-- Where every mark is 1 nothing is refused, and else check 9 is made where check 8 passes.
use Rattle.std.proofs.Common.{sym, ap, ◌∙◌}
use Rattle.model.specs.Refusals.{Check, or_next}
use Rattle.missing_search.specs.Missing.{missing_in}
use Rattle.refusals.specs.Answers.{check_of}
use Rattle.entry_checks.proofs.Seen.{all-present, eighth}
use Rattle.entry_checks.proofs.check_parts.Goals as goal

pub returns-then-seen-eq0 : goal.returns-then-seen-eq0
returns-then-seen-eq0 c =
    all-present c.args.marks.now c.survey-seen.result c.survey-seen.ensures c.args.readings.now c.if-seen-eq0.true

pub returns : goal.returns
returns c =
    let a = c.args in
    c.search-2.ensures
    ∙ ap (λ (k : Check). or_next k (missing_in a.marks.now a.readings.now))
    (c.in_ok-search.ensures ∙ eighth a.marks.now c.survey-seen.result c.survey-seen.ensures)
