-- Where nothing is counted all is 0, and else the distances of all used values from the lowest reading add up to a
-- number of 32 bits.
use Rattle.std.proofs.Common.{arith}
use Rattle.summaries.proofs.Fits.{summary-gathered}
use Rattle.estimates.proofs.Evaluating.{count-few, sum-most, sum_fits, estimate-most}
use Rattle.estimates.proofs.Evaluating.{value-most, evaluate_empty, evaluate_some}
use Rattle.estimates.proofs.evaluate.Goals as goal

pub returns-in_default-clause-value : goal.returns-in_default-clause-value
returns-in_default-clause-value c =
    let a = c.args in
    evaluate_empty a.marks.now a.values.now a.kind c.in_default.ensures

pub overflow_sub-missing : goal.overflow_sub-missing
overflow_sub-missing c =
    let a = c.args in
    let g = c.in-Some in
    let due = summary-gathered a.marks.now a.values.now g.summary g.ensures in
    count-few a.marks.now a.values.now due.1 g.summary due.2

pub overflow_mul-sum : goal.overflow_mul-sum
overflow_mul-sum c =
    let a = c.args in
    let g = c.in-Some in
    let e = c.estimate-above in
    let due = summary-gathered a.marks.now a.values.now g.summary g.ensures in
    omega (
      arith,
      sum-most a.marks.now a.values.now due.1 g.summary due.2 a.kind e.result e.ensures,
      sum_fits a.marks.now a.values.now due.1 g.summary due.2 a.kind e.result e.ensures,
    )

pub overflow_add-sum : goal.overflow_add-sum
overflow_add-sum c =
    let a = c.args in
    let g = c.in-Some in
    let e = c.estimate-above in
    let due = summary-gathered a.marks.now a.values.now g.summary g.ensures in
    omega (
      arith,
      sum-most a.marks.now a.values.now due.1 g.summary due.2 a.kind e.result e.ensures,
      sum_fits a.marks.now a.values.now due.1 g.summary due.2 a.kind e.result e.ensures,
    )

pub overflow_add-result : goal.overflow_add-result
overflow_add-result c =
    let a = c.args in
    let g = c.in-Some in
    let e = c.estimate-above in
    let due = summary-gathered a.marks.now a.values.now g.summary g.ensures in
    omega (
      arith,
      estimate-most a.marks.now a.values.now due.1 g.summary due.2 a.kind e.result e.ensures,
    )

pub overflow_add-result-2 : goal.overflow_add-result-2
overflow_add-result-2 c =
    let a = c.args in
    let g = c.in-Some in
    let e = c.estimate-above in
    let due = summary-gathered a.marks.now a.values.now g.summary g.ensures in
    omega (
      arith,
      value-most a.marks.now a.values.now due.1 g.summary due.2 a.kind e.result e.ensures
          c.nearest_mean.result
          c.nearest_mean.ensures,
    )

pub returns-clause-value : goal.returns-clause-value
returns-clause-value c =
    let a = c.args in
    let g = c.in-Some in
    let e = c.estimate-above in
    let due = summary-gathered a.marks.now a.values.now g.summary g.ensures in
    evaluate_some a.marks.now a.values.now due.1 g.summary due.2 a.kind e.result e.ensures
    due.0
    c.nearest_mean.result
    c.nearest_mean.ensures

pub returns-clause-count_le_max_cabinets : goal.returns-clause-count_le_max_cabinets
returns-clause-count_le_max_cabinets c =
    let a = c.args in
    let g = c.in-Some in
    let due = summary-gathered a.marks.now a.values.now g.summary g.ensures in
    omega (arith, due.1.few, count-few a.marks.now a.values.now due.1 g.summary due.2)
