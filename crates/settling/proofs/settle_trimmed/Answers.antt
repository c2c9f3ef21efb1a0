-- Rule 2 is one of the two rules above CCA.
use Rattle.std.proofs.Common.{refl}
use Rattle.model.specs.RoundSheet.{trimmed_midpoint}
use Rattle.settling.proofs.Rules.{by_trimming}
use Rattle.settling.proofs.settle_trimmed.Goals as goal

pub returns-then-settings-eq-TRIMMED_MIDPOINT-clause-value : goal.returns-then-settings-eq-TRIMMED_MIDPOINT-clause-value
returns-then-settings-eq-TRIMMED_MIDPOINT-clause-value c =
    let a = c.args in
    let r = c.receive_direct in
    let t = c.trim in
    (by_trimming a.sheet.now a.settings a.marks.now a.values.now r.new.marks r.new.values t.new.marks t.result
    trimmed_midpoint
    c.if-settings-eq-TRIMMED_MIDPOINT.true
    c.requires
    r.ensures.marks_after
    r.ensures.values_after
    t.ensures.value
    t.ensures.marks_after
    ).0

pub returns-then-settings-eq-TRIMMED_MIDPOINT-clause-marks_after :
    goal.returns-then-settings-eq-TRIMMED_MIDPOINT-clause-marks_after
returns-then-settings-eq-TRIMMED_MIDPOINT-clause-marks_after c =
    let a = c.args in
    let r = c.receive_direct in
    let t = c.trim in
    (by_trimming a.sheet.now a.settings a.marks.now a.values.now r.new.marks r.new.values t.new.marks t.result
    trimmed_midpoint
    c.if-settings-eq-TRIMMED_MIDPOINT.true
    c.requires
    r.ensures.marks_after
    r.ensures.values_after
    t.ensures.value
    t.ensures.marks_after
    ).1.0

pub returns-else-settings-eq-TRIMMED_MIDPOINT-clause-value : goal.returns-else-settings-eq-TRIMMED_MIDPOINT-clause-value
returns-else-settings-eq-TRIMMED_MIDPOINT-clause-value c =
    let a = c.args in
    let r = c.receive_direct in
    let t = c.trim-else-settings-eq-TRIMMED_MIDPOINT in
    (by_trimming a.sheet.now a.settings a.marks.now a.values.now r.new.marks r.new.values t.new.marks t.result
    a.settings.rule
    refl
    c.requires
    r.ensures.marks_after
    r.ensures.values_after
    t.ensures.value
    t.ensures.marks_after
    ).0

pub returns-else-settings-eq-TRIMMED_MIDPOINT-clause-marks_after :
    goal.returns-else-settings-eq-TRIMMED_MIDPOINT-clause-marks_after
returns-else-settings-eq-TRIMMED_MIDPOINT-clause-marks_after c =
    let a = c.args in
    let r = c.receive_direct in
    let t = c.trim-else-settings-eq-TRIMMED_MIDPOINT in
    (by_trimming a.sheet.now a.settings a.marks.now a.values.now r.new.marks r.new.values t.new.marks t.result
    a.settings.rule
    refl
    c.requires
    r.ensures.marks_after
    r.ensures.values_after
    t.ensures.value
    t.ensures.marks_after
    ).1.0
