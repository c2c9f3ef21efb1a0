-- The test says whether the lists fit; then the readings are dropped by the ranks of their numbers.
use Rattle.std.proofs.Common.{◌-◌, length, sym, ap, ◌∙◌, arith}
use Rattle.std.specs.Prelude.{Some}
use Rattle.dropping.proofs.Dropped.{fits-few, fits-even, sum-none, marks-none, sum-some, marks-some, marks-left}
use Rattle.held.proofs.Held.{first-places}
use Rattle.rank_trimming.specs.Trimming.{Ranked, between}
use Rattle.rank_trimming.proofs.Ranking.{ranks_fit, between-kept}
use Rattle.rank_trimming.proofs.drop_ends.Goals as goal
use Rattle.rank_trimming.proofs.drop_ends.Goals.{After-rank}

ranked : (c : After-rank) → Ranked c.args.numbers.now c.rank.new.ranks
ranked c =
    let a = c.args in
    let fit = sym c.if-unfit.ensures in
    let few = fits-few a.m a.marks.now a.numbers.now fit in
    let even = fits-even a.m a.marks.now a.numbers.now fit in
    ranks_fit a.numbers.now _ c.rank.new.ranks (omega arith) (first-places (length a.marks.now) few ∙ sym even) c.rank.ensures

pub returns-then-unfit : goal.returns-then-unfit
returns-then-unfit c =
    let a = c.args in
    let none = sym c.if-unfit.ensures in
    record {
      value = sum-none a.m a.marks.now a.numbers.now a.rule none;
      marks_after = marks-none a.m a.marks.now a.numbers.now none;
    }

pub sum_kept-requires-clause-ranked : goal.sum_kept-requires-clause-ranked
sum_kept-requires-clause-ranked c = ranked (goal.at.sum_kept-requires-clause-ranked c).After-rank

pub returns : goal.returns
returns c =
    let a = c.args in
    let fit = sym c.if-unfit.ensures in
    let n = length a.marks.now in
    let ranks = c.rank.new.ranks in
    record {
      value = ap Some c.sum_kept.ensures.value ∙ sum-some a.m a.marks.now a.numbers.now fit a.rule;
      marks_after =
          c.sum_kept.ensures.marks_after
          ∙ marks-left a.m a.marks.now a.numbers.now (between ranks a.m (n - a.m))
          (between-kept a.numbers.now ranks n a.m (fits-even a.m a.marks.now a.numbers.now fit)
          (ranked (goal.at.returns c).After-rank))
          ∙ marks-some a.m a.marks.now a.numbers.now fit;
    }
