-- What was seen of the marks, and their number, say whether they are searched.
use Rattle.std.proofs.Common.{◌∙◌}
use Rattle.mark_checks.proofs.Marks.{too_many, seen-searched}
use Rattle.mark_checks.proofs.search.Goals as goal

pub returns-then-marks-gt-MAX_ENTRIES : goal.returns-then-marks-gt-MAX_ENTRIES
returns-then-marks-gt-MAX_ENTRIES c =
    too_many c.args.marks.now c.args.seen c.if-seen-le1.false c.if-marks-gt-MAX_ENTRIES.true

pub returns : goal.returns
returns c =
    c.search_each.ensures
    ∙ seen-searched c.args.marks.now c.args.seen c.if-seen-le1.false c.if-marks-gt-MAX_ENTRIES.false
