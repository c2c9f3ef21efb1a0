-- Where the sizes fit all is heard, and else nothing is changed.
use Rattle.std.proofs.Common.{length, arith}
use Rattle.std.proofs.lemmas.Grind.{common_steps}
use Rattle.hearing.specs.Heard.{audible}
use Rattle.hearing.proofs.Audible.{marks-not, values-not, marks-heard, values-heard}
use Rattle.hearing.proofs.hear.Goals as goal

pub returns-in_default-clause-marks_after : goal.returns-in_default-clause-marks_after
returns-in_default-clause-marks_after c =
    let a = c.args in
    marks-not a.roles.now a.held.now a.sent.now a.readings.now a.p a.marks.now a.values.now
    (c.in_default.ensures a.p (length a.marks.now) (length a.values.now))

pub returns-in_default-clause-values_after : goal.returns-in_default-clause-values_after
returns-in_default-clause-values_after c =
    let a = c.args in
    values-not a.roles.now a.held.now a.sent.now a.readings.now a.p a.marks.now a.values.now
    (c.in_default.ensures a.p (length a.marks.now) (length a.values.now))

pub returns-then-p-n-clause-marks_after : goal.returns-then-p-n-clause-marks_after
unfolding audible
returns-then-p-n-clause-marks_after c =
    let a = c.args in
    let same = c.in-Some.ensures in
    let heard = rw (same.0, same.1, same.2, same.3) at c.hear_each.ensures in
    marks-heard a.roles.now a.held.now a.sent.now a.readings.now a.p a.marks.now a.values.now
    (grind (arith, common_steps))
    c.hear_each.new.marks c.hear_each.new.values heard

pub returns-then-p-n-clause-values_after : goal.returns-then-p-n-clause-values_after
unfolding audible
returns-then-p-n-clause-values_after c =
    let a = c.args in
    let same = c.in-Some.ensures in
    let heard = rw (same.0, same.1, same.2, same.3) at c.hear_each.ensures in
    values-heard a.roles.now a.held.now a.sent.now a.readings.now a.p a.marks.now a.values.now
    (grind (arith, common_steps))
    c.hear_each.new.marks c.hear_each.new.values heard

pub returns-else-p-n-clause-marks_after : goal.returns-else-p-n-clause-marks_after
unfolding audible
returns-else-p-n-clause-marks_after c =
    let a = c.args in
    marks-not a.roles.now a.held.now a.sent.now a.readings.now a.p a.marks.now a.values.now
    (grind (arith, common_steps))

pub returns-else-p-n-clause-values_after : goal.returns-else-p-n-clause-values_after
unfolding audible
returns-else-p-n-clause-values_after c =
    let a = c.args in
    values-not a.roles.now a.held.now a.sent.now a.readings.now a.p a.marks.now a.values.now
    (grind (arith, common_steps))
