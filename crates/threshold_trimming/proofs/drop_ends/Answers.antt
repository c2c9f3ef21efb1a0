-- What is between the thresholds is left.
use Rattle.std.proofs.Common.{◌≡◌, ◌∙◌, sym, ap}
use Rattle.std.specs.Prelude.{Some}
use borrow.Author.Tests.{eq-eqb, ne_eqb}
use Rattle.model.specs.RoundSheet.{trimmed_midpoint}
use Rattle.dropping.specs.Dropping.{dropped_marks}
use Rattle.dropping.proofs.Dropped.{sum-none, marks-none}
use Rattle.threshold_trimming.proofs.Dropped.{uneven, same-test, by-ends, by_all, dropped-fits, marks-are}
use Rattle.threshold_trimming.proofs.drop_ends.Goals as goal
use Rattle.threshold_trimming.proofs.drop_ends.Goals.{After-strike}

pub returns-then-marks-numbers : goal.returns-then-marks-numbers
returns-then-marks-numbers c =
    let a = c.args in
    let odd = uneven a.m a.marks.now a.numbers.now c.if-marks-numbers.true in
    record { value = sum-none a.m a.marks.now a.numbers.now a.rule odd; marks_after = marks-none a.m a.marks.now a.numbers.now odd }

pub returns-in_err-t : goal.returns-in_err-t
returns-in_err-t c =
    let a = c.args in
    let none = sym (same-test a.m a.marks.now a.numbers.now c.if-marks-numbers.false) ∙ c.in_err-t.ensures in
    record {
      value = c.from_residual.ensures ∙ sum-none a.m a.marks.now a.numbers.now a.rule none;
      marks_after = marks-none a.m a.marks.now a.numbers.now none;
    }

pub sum_left-requires-clause-low_bound : goal.sum_left-requires-clause-low_bound
sum_left-requires-clause-low_bound c =
    let a = c.args in
    dropped-fits a.m a.marks.now a.numbers.now c.in_ok-t.t c.if-marks-numbers.false c.in_ok-t.ensures

struck : (c : After-strike) → c.strike.new.marks ≡ dropped_marks c.args.m c.args.marks.now c.args.numbers.now
struck c =
    let a = c.args in
    c.strike.ensures
    ∙ marks-are a.m a.marks.now a.numbers.now c.in_ok-t.t c.if-marks-numbers.false c.in_ok-t.ensures _ c.find_end.ensures
    c.find_end-2.ensures

pub returns-then-rule-eq-TRIMMED_MIDPOINT : goal.returns-then-rule-eq-TRIMMED_MIDPOINT
returns-then-rule-eq-TRIMMED_MIDPOINT c =
    let a = c.args in
    record {
      value =
          ap Some c.sum_ends.ensures
          ∙ by-ends a.m a.marks.now a.numbers.now c.in_ok-t.t c.if-marks-numbers.false c.in_ok-t.ensures a.rule
          (eq-eqb a.rule trimmed_midpoint c.if-rule-eq-TRIMMED_MIDPOINT.true)
          (λ j. (c.type_inv.numbers j).fits)
          c.last_kept.result
          c.last_kept.ensures;
      marks_after = struck (goal.at.returns-then-rule-eq-TRIMMED_MIDPOINT c).After-strike;
    }

pub returns-else-rule-eq-TRIMMED_MIDPOINT : goal.returns-else-rule-eq-TRIMMED_MIDPOINT
returns-else-rule-eq-TRIMMED_MIDPOINT c =
    let a = c.args in
    record {
      value =
          ap Some c.sum_left.ensures
          ∙ by_all a.m a.marks.now a.numbers.now c.in_ok-t.t c.if-marks-numbers.false c.in_ok-t.ensures a.rule
          (ne_eqb a.rule trimmed_midpoint c.if-rule-eq-TRIMMED_MIDPOINT.false);
      marks_after = struck (goal.at.returns-else-rule-eq-TRIMMED_MIDPOINT c).After-strike;
    }
