-- The numbers are those of the readings, so the lists fit, and there is a sum.
use Rattle.std.proofs.Common.{sym, ◌∙◌, arith}
use Rattle.trimming.proofs.Values.{Numbered, numbered, is-summed, value_is, sum-small, marks-are}
use Rattle.trimming.proofs.trim_fitting.Goals as goal
use Rattle.trimming.proofs.trim_fitting.Goals.{After-fill}
use Rattle.trimming.proofs.trim_fitting.Given.{Over}

filled : (g : Over) (c : After-fill g) → Numbered c.args.m c.args.marks.now c.args.values.now c.fill.new.numbers
filled g c =
    numbered c.args.m c.args.marks.now c.args.values.now _ c.fill.new.numbers (omega arith) c.requires.marks_len_bound.1
    (omega arith) c.fill.ensures

pub unwrap-requires : goal.unwrap-requires
unwrap-requires g c =
    is-summed (filled g (goal.at.unwrap-requires g c).After-fill) c.args.rule c.drop_ends.ensures.value

pub returns : goal.returns
returns g c =
    let k = filled g (goal.at.returns g c).After-fill in
    let e = sym c.unwrap.ensures ∙ c.drop_ends.ensures.value in
    record {
      mean = value_is k c.args.rule e;
      sum_bound = sum-small k (λ i. (c.type_inv.values i).fits) c.args.rule e;
      marks_after = marks-are k c.drop_ends.new.marks c.drop_ends.ensures.marks_after;
    }
