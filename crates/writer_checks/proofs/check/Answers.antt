-- Checks 2 to 7 refuse, or else what is found in the entries decides.
use Rattle.std.proofs.Common.{length, refl, sym, ap, ◌∙◌}
use Rattle.model.specs.Refusals.{Check, or_next}
use Rattle.refusals.specs.Answers.{check_of}
use Rattle.writer_checks.proofs.Writing.{writable, few-marks, entries_decide}
use Rattle.writer_checks.proofs.check.Goals as goal

pub check_missing-requires : goal.check_missing-requires
check_missing-requires c =
    let a = c.args in
    let w =
    writable a.settings (length a.marks.now) (length a.readings.now) a.room
    (sym c.in_ok-check_lengths.ensures) in
    (w.readings_long ∙ sym w.marks_long, few-marks a.settings a.marks.now a.readings.now a.room w)

pub returns : goal.returns
returns c =
    let a = c.args in
    let passed = sym c.in_ok-check_lengths.ensures in
    let w = writable a.settings (length a.marks.now) (length a.readings.now) a.room passed in
    entries_decide a.settings a.marks.now a.readings.now a.room w passed
    (ap (λ (x : Check). or_next x (check_of c.check_missing.result)) c.in_ok-check.ensures)
    refl
    c.check_missing.ensures
