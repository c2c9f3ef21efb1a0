-- One mark more is the definition's next step; at the end every mark is passed.
use Rattle.std.proofs.Common.{◌∙◌, arith}
use Rattle.mark_checks.proofs.Marks.{survey_none, survey_next}
use Rattle.mark_checks.proofs.survey.Goals as goal

pub entries-init : goal.entries-init
entries-init c = survey_none c.args.marks.now

pub entries-preserved : goal.entries-preserved
entries-preserved c =
    let m = c.entries in
    c.with_mark-seen.ensures ∙ survey_next c.args.marks.now m.mark-index m.seen m.invariant
