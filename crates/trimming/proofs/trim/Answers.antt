-- The test says whether the lists fit; then the readings are trimmed, with room for few or for all.
use Rattle.std.proofs.Common.{length, refl, sym, ◌∙◌, arith}
use Rattle.dropping.proofs.Dropped.{fits-few}
use Rattle.trimming.proofs.Values.{Summed, trimmed-none, marks-none, trimmed-some, marks-some}
use Rattle.trimming.proofs.trim.Goals as goal
use Rattle.trimming.proofs.trim.Goals.{Joined-n-le-FEW, then-n-le-FEW, else-n-le-FEW}

pub returns-then-unfit : goal.returns-then-unfit
returns-then-unfit c =
    let a = c.args in
    let none = sym c.if-unfit.ensures in
    record {
      value = trimmed-none a.rule a.m a.marks.now a.values.now none;
      marks_after = marks-none a.rule a.m a.marks.now a.values.now none;
      count_le_max_cabinets = omega arith;
    }

-- what both ways give
summed : (c : Joined-n-le-FEW) → Summed c.args.rule c.args.m c.args.marks.now c.args.values.now c.if-n-le-FEW.sum c.if-n-le-FEW.marks
summed c =
    elim c.if-n-le-FEW.branch [
      | then-n-le-FEW w ↦
          let t = w.trim_fitting-sum.ensures in
          rw (w.sum-is, w.marks-is) (record { mean = t.mean; bound = t.sum_bound; struck = t.marks_after })
      | else-n-le-FEW w ↦
          let t = w.trim_fitting-sum-else-n-le-FEW.ensures in
          rw (w.sum-is, w.marks-is) (record { mean = t.mean; bound = t.sum_bound; struck = t.marks_after })
    ]

pub returns : goal.returns
returns c =
    let a = c.args in
    let fit = sym c.if-unfit.ensures in
    let s = summed (goal.at.returns c).Joined-n-le-FEW in
    record {
      value =
          trimmed-some a.rule a.m a.marks.now a.values.now fit (length a.marks.now) c.settle_value-value.result refl
          (c.settle_value-value.ensures ∙ s.mean);
      marks_after = marks-some a.rule a.m a.marks.now a.values.now fit c.if-n-le-FEW.marks s.struck;
      count_le_max_cabinets = omega (arith, fits-few a.m a.marks.now a.values.now fit);
    }
