-- At each `return` the tests that led there say which estimate is due.
use Rattle.std.proofs.Common.{ℕ, ◌-◌, ap, arith}
use Rattle.estimates.proofs.Evaluating.{count-few, between, estimate-average, estimate-median, estimate-midpoint}
use Rattle.estimates.proofs.estimate.Goals as goal

pub returns-then-kind-eq-AVERAGE : goal.returns-then-kind-eq-AVERAGE
returns-then-kind-eq-AVERAGE c =
    let a = c.args in
    estimate-average a.marks.now a.values.now c.requires.0 a.summary c.requires.1 a.kind
    c.if-kind-eq-AVERAGE.true
    c.floor_mean.result
    c.floor_mean.ensures

pub overflow_add-summary : goal.overflow_add-summary
overflow_add-summary c =
    let a = c.args in
    omega (
      arith,
      c.requires.0.few,
      count-few a.marks.now a.values.now c.requires.0 a.summary c.requires.1,
    )

pub overflow_sub-result : goal.overflow_sub-result
overflow_sub-result c =
    let a = c.args in
    let b = between a.marks.now a.values.now c.requires.0 a.summary c.requires.1 a.kind in
    omega (
      arith,
      estimate-median a.marks.now a.values.now c.requires.0 a.summary c.requires.1 a.kind
          c.if-kind-eq-AVERAGE.false
          c.if-kind-eq-MEDIAN.true
          c.numbered.result
          c.numbered.ensures,
      b.low,
    )

pub returns-then-kind-eq-MEDIAN : goal.returns-then-kind-eq-MEDIAN
returns-then-kind-eq-MEDIAN c =
    let a = c.args in
    ap (λ (k : ℕ). k - a.summary.low)
    (estimate-median a.marks.now a.values.now c.requires.0 a.summary c.requires.1 a.kind
    c.if-kind-eq-AVERAGE.false
    c.if-kind-eq-MEDIAN.true
    c.numbered.result
    c.numbered.ensures)

pub returns : goal.returns
returns c =
    let a = c.args in
    estimate-midpoint a.marks.now a.values.now c.requires.0 a.summary c.requires.1 a.kind
    c.if-kind-eq-AVERAGE.false
    c.if-kind-eq-MEDIAN.false
