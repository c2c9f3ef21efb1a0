-- A present reading counts where the span holds it, a missing one does not.
use Rattle.std.proofs.Common.{ℕ, ◌+◌, ap, arith}
use Rattle.acceptance.proofs.Spans.{counts-present, counts-missing}
use Rattle.acceptance.proofs.one_more.Goals as goal

pub returns-then-present : goal.returns-then-present
returns-then-present c =
    let a = c.args in
    ap (λ (h : ℕ). a.found + h)
    (counts-present a.start a.all.now.span a.all.now.marks.now a.all.now.values.now a.t c.present.ensures
    c.if-present.true
    c.reached.result
    c.reached.ensures)

pub returns-else-present : goal.returns-else-present
returns-else-present c =
    let a = c.args in
    omega (
      arith,
      counts-missing a.start a.all.now.span a.all.now.marks.now a.all.now.values.now a.t c.present.ensures c.if-present.false,
    )
