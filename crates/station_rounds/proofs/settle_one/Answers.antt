-- A faulty cabinet passes with 0, and what a sound one hears is agreed on as its round.
use Rattle.std.proofs.Common.{ℕ, sym, ap, ◌∙◌, eqb, get_or, eqb-true}
use Rattle.std.proofs.lemmas.Bool.{eqb-false}
use borrow.Author.Tests.{not-true, not-false}
use Rattle.agreement.specs.Values.{agreed_of}
use Rattle.station_rounds.proofs.Settled.{faulty-passes, faulty-zero, sound-meets, sound-value}
use Rattle.station_rounds.proofs.settle_one.Goals as goal

pub returns-then-is_faulty-clause-refused : goal.returns-then-is_faulty-clause-refused
returns-then-is_faulty-clause-refused c =
    let a = c.args in
    let role = get_or a.round.roles.now a.p 0 in
    faulty-passes a.settings a.round.roles.now a.round.held.now a.round.sent.now a.round.readings.now a.p
    (eqb-false role 1 (not-true (eqb role 1) (sym c.is_faulty.ensures ∙ c.if-is_faulty.true)))

pub returns-then-is_faulty-clause-value : goal.returns-then-is_faulty-clause-value
returns-then-is_faulty-clause-value c =
    let a = c.args in
    let role = get_or a.round.roles.now a.p 0 in
    faulty-zero a.settings a.round.roles.now a.round.held.now a.round.sent.now a.round.readings.now a.p
    (eqb-false role 1 (not-true (eqb role 1) (sym c.is_faulty.ensures ∙ c.if-is_faulty.true)))

pub returns-then-meets_too_many-clause-refused : goal.returns-then-meets_too_many-clause-refused
returns-then-meets_too_many-clause-refused c =
    let a = c.args in
    let role = get_or a.round.roles.now a.p 0 in
    let marks = c.hear.new.marks in
    let values = c.hear.new.values in
    sym c.if-meets_too_many.true
    ∙ c.meets_too_many.ensures
    ∙ sound-meets a.settings a.round.roles.now a.round.held.now a.round.sent.now a.round.readings.now a.p a.marks.now a.values.now
    c.requires.fits
    a.round.small
    c.requires.p_in_bounds
    (eqb-true role 1 (not-false (eqb role 1) (sym c.is_faulty.ensures ∙ c.if-is_faulty.false)))
    marks
    values
    c.hear.ensures.marks_after
    c.hear.ensures.values_after
    c.agree-settled.result
    (c.agree-settled.ensures.value
    ∙ ap (λ (need : ℕ). agreed_of a.settings.window need a.settings.estimator marks values) c.quorum-need.ensures)

pub returns-else-meets_too_many-clause-refused : goal.returns-else-meets_too_many-clause-refused
returns-else-meets_too_many-clause-refused c =
    let a = c.args in
    let role = get_or a.round.roles.now a.p 0 in
    let marks = c.hear.new.marks in
    let values = c.hear.new.values in
    sym c.if-meets_too_many.false
    ∙ c.meets_too_many.ensures
    ∙ sound-meets a.settings a.round.roles.now a.round.held.now a.round.sent.now a.round.readings.now a.p a.marks.now a.values.now
    c.requires.fits
    a.round.small
    c.requires.p_in_bounds
    (eqb-true role 1 (not-false (eqb role 1) (sym c.is_faulty.ensures ∙ c.if-is_faulty.false)))
    marks
    values
    c.hear.ensures.marks_after
    c.hear.ensures.values_after
    c.agree-settled.result
    (c.agree-settled.ensures.value
    ∙ ap (λ (need : ℕ). agreed_of a.settings.window need a.settings.estimator marks values) c.quorum-need.ensures)

pub returns-else-meets_too_many-clause-value : goal.returns-else-meets_too_many-clause-value
returns-else-meets_too_many-clause-value c =
    let a = c.args in
    let role = get_or a.round.roles.now a.p 0 in
    let marks = c.hear.new.marks in
    let values = c.hear.new.values in
    sound-value a.settings a.round.roles.now a.round.held.now a.round.sent.now a.round.readings.now a.p a.marks.now a.values.now
    c.requires.fits
    a.round.small
    c.requires.p_in_bounds
    (eqb-true role 1 (not-false (eqb role 1) (sym c.is_faulty.ensures ∙ c.if-is_faulty.false)))
    marks
    values
    c.hear.ensures.marks_after
    c.hear.ensures.values_after
    c.agree-settled.result
    (c.agree-settled.ensures.value
    ∙ ap (λ (need : ℕ). agreed_of a.settings.window need a.settings.estimator marks values) c.quorum-need.ensures)
    (sym c.meets_too_many.ensures ∙ c.if-meets_too_many.false)
