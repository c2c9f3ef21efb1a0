-- The part returned is where the row lies, and it is empty where `validate` refuses.
use Rattle.std.proofs.Common.{sym, ap, ◌∙◌}
use Rattle.model.specs.RoundSheet.{settings_at}
use Rattle.model.specs.Refusals.{first_of, row_checks}
use Rattle.refusals.specs.Answers.{refusal_of, verdict_of}
use Rattle.sheet_laws.proofs.Outcomes.{refused-some, row-refused}
use Rattle.sheet_laws.proofs.Inspection.{validated}
use Rattle.rows.proofs.Parts.{part-shown}
use Rattle.row_reader.proofs.row.Goals as goal

pub returns-in_default : goal.returns-in_default
returns-in_default c =
    let s = c.args.sheet.now in
    let r = refusal_of c.in_default.field-0 in
    sym
    (row-refused s c.args.r r
    (refused-some (first_of (row_checks s)) (settings_at s) r
    (sym c.validate.ensures ∙ ap verdict_of c.in_default.is)))

pub returns : goal.returns
returns c =
    let s = c.args.sheet.now in
    let settings = c.in-Ok.settings in
    c.row_part.ensures
    ∙ part-shown s settings (validated s settings (sym c.validate.ensures ∙ ap verdict_of c.in-Ok.is)) c.args.r
