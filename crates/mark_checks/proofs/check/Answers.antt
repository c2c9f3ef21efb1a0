-- A search that the survey of all marks allows to leave out finds nothing.
use Rattle.std.proofs.Common.{ℕ, cond, ltb, ap, ◌∙◌}
use Rattle.std.proofs.Math.Option.{none}
use Rattle.mark_checks.specs.Marks.{marks_in}
use Rattle.mark_checks.proofs.Marks.{seen_all}
use Rattle.mark_checks.proofs.check.Goals as goal

pub returns : goal.returns
returns c =
    let marks = c.args.marks.now in
    c.search.ensures ∙ ap (λ (k : ℕ). cond (ltb 1 k) (marks_in marks) none) c.survey.ensures ∙ seen_all marks
