-- With nothing remembered of any start, the tests are those of acceptance.
use Rattle.acceptance.proofs.Testing.{remember-none, fit-few, count-unfit, flags_unfit, count-fit, flags_fit}
use Rattle.acceptance.proofs.accept.Goals as goal

pub returns-then-misfit-clause-value : goal.returns-then-misfit-clause-value
returns-then-misfit-clause-value c =
    let a = c.args in
    count-unfit a.span a.need a.marks.now a.values.now a.accepted.now c.misfit.ensures c.if-misfit.true

pub returns-then-misfit-clause-accepted_after : goal.returns-then-misfit-clause-accepted_after
returns-then-misfit-clause-accepted_after c =
    let a = c.args in
    flags_unfit a.span a.need a.marks.now a.values.now a.accepted.now c.misfit.ensures c.if-misfit.true

pub accept_each-requires-clause-remembered : goal.accept_each-requires-clause-remembered
accept_each-requires-clause-remembered c =
    let a = c.args in
    remember-none a.span a.need a.marks.now a.values.now
    (fit-few a.span a.need a.marks.now a.values.now a.accepted.now c.misfit.ensures c.if-misfit.false)

pub returns-clause-value : goal.returns-clause-value
returns-clause-value c =
    let a = c.args in
    count-fit a.span a.need a.marks.now a.values.now a.accepted.now c.misfit.ensures c.if-misfit.false
    c.accept_each.result
    c.accept_each.ensures.value

pub returns-clause-accepted_after : goal.returns-clause-accepted_after
returns-clause-accepted_after c =
    let a = c.args in
    flags_fit a.span a.need a.marks.now a.values.now a.accepted.now c.misfit.ensures c.if-misfit.false
    c.accept_each.new.accepted
    c.accept_each.ensures.accepted_after
