-- `limits::bound` meets its contract: up to m the planned limits, from N-m on nothing, and the wider limits between.
use Rattle.std.proofs.Common.{◌-◌, sym, ◌∙◌, arith}
use borrow.Author.Tests.{leb-true, leb-false}
use Rattle.limits.proofs.Stating.{granted-sizes, granted-faults, bounds-planned, bounds-nothing, bounds-wider}
use Rattle.limits.proofs.bound.Goals as goal

pub returns-then-is_planned : goal.returns-then-is_planned
returns-then-is_planned c =
    let a = c.args in
    bounds-planned a.settings a.accuracy a.t
    (leb-true a.t a.settings.m (sym c.is_planned.ensures ∙ c.if-is_planned.true))

pub overflow_sub-n : goal.overflow_sub-n
overflow_sub-n c = omega (arith, granted-faults c.args.settings c.args.accuracy c.requires)

pub returns-then-is_quorum : goal.returns-then-is_quorum
returns-then-is_quorum c =
    let a = c.args in
    bounds-nothing a.settings a.accuracy a.t
    (leb-false a.t a.settings.m (sym c.is_planned.ensures ∙ c.if-is_planned.false))
    (leb-true (a.settings.n - a.settings.m) a.t (sym c.is_quorum.ensures ∙ c.if-is_quorum.true))

pub widened-requires : goal.widened-requires
widened-requires c =
    let a = c.args in
    granted-sizes a.settings a.accuracy a.t c.requires
    (leb-false (a.settings.n - a.settings.m) a.t (sym c.is_quorum.ensures ∙ c.if-is_quorum.false))

pub returns : goal.returns
returns c =
    let a = c.args in
    bounds-wider a.settings a.accuracy a.t
    (leb-false a.t a.settings.m (sym c.is_planned.ensures ∙ c.if-is_planned.false))
    (leb-false (a.settings.n - a.settings.m) a.t (sym c.is_quorum.ensures ∙ c.if-is_quorum.false))
    c.widened.ensures
