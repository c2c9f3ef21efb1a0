-- `interval_bounds::least` meets its contract: the sum does not wrap, and the body is the quotient rounded up.
use Rattle.std.proofs.Common.{arith}
use Rattle.interval.proofs.Formula.{some-coefficient, coefficient_is}
use Rattle.interval_bounds.proofs.Sizes.{least-perfect, least_quotient}
use Rattle.interval_bounds.proofs.least.Goals as goal

pub returns-then-precision-eq0 : goal.returns-then-precision-eq0
returns-then-precision-eq0 c =
    let a = c.args in
    least-perfect a.precision a.drift (omega arith)

pub overflow_sub-result : goal.overflow_sub-result
overflow_sub-result c =
    let a = c.args in
    let divisor = c.coefficient-divisor.ensures in
    omega (arith, some-coefficient a.drift (omega arith))

pub overflow_add-result : goal.overflow_add-result
overflow_add-result c =
    let a = c.args in
    let divisor = c.coefficient-divisor.ensures in
    let dividend = c.needed.ensures in
    omega (arith, coefficient_is a.drift (omega arith))

pub nonzero_div-result : goal.nonzero_div-result
nonzero_div-result c =
    let a = c.args in
    let divisor = c.coefficient-divisor.ensures in
    omega (arith, some-coefficient a.drift (omega arith))

pub returns : goal.returns
returns c =
    let a = c.args in
    least_quotient a.precision a.drift (λ e. omega arith) c.needed.ensures.0 c.coefficient-divisor.ensures
