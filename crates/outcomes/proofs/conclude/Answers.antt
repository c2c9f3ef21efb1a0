-- `outcomes::conclude` meets its contract: it refuses and writes nothing where the count is 0, and else writes the
-- answer sheet.
use Rattle.std.proofs.Common.{ap, ◌∙◌}
use mathlib.Core.Option.{some}
use Rattle.outcomes.proofs.Outcomes.{none-refused, none_written, some-passed, some_written}
use Rattle.outcomes.proofs.conclude.Goals as goal

pub returns-then-outcome-eq0-clause-check_10 : goal.returns-then-outcome-eq0-clause-check_10
returns-then-outcome-eq0-clause-check_10 c = ap some c.into.ensures ∙ none-refused c.args.outcome.count c.if-outcome-eq0.true

pub returns-then-outcome-eq0-clause-answer_after : goal.returns-then-outcome-eq0-clause-answer_after
returns-then-outcome-eq0-clause-answer_after c =
    let a = c.args in
    none_written a.outcome.count c.if-outcome-eq0.true a.outcome.estimate a.outcome.value a.marks.now a.values.now a.answer.now

pub returns-clause-check_10 : goal.returns-clause-check_10
returns-clause-check_10 c = some-passed c.args.outcome.count c.if-outcome-eq0.false

pub returns-clause-answer_after : goal.returns-clause-answer_after
returns-clause-answer_after c =
    let a = c.args in
    c.put_answer.ensures.answer_after
    ∙ some_written a.outcome.count c.if-outcome-eq0.false a.outcome.estimate a.outcome.value a.marks.now a.values.now a.answer.now
