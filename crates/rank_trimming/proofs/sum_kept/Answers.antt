-- No reading is passed at first; a step strikes one out or keeps it, and adds it. At the end both sums are the rules'.
use borrow.Author.Tests.{eq-eqb, ne_eqb}
use Rattle.model.specs.RoundSheet.{trimmed_midpoint}
use Rattle.dropping.proofs.Loops.{all-struck, all-summed}
use Rattle.rank_trimming.proofs.Ranking.{dropping_none, dropping_one, ends-are, sum_is}
use Rattle.rank_trimming.proofs.sum_kept.Goals as goal

pub readings-init : goal.readings-init
readings-init c = dropping_none

pub readings-preserved : goal.readings-preserved
readings-preserved c =
    dropping_one c.readings.invariant c.readings-test.true c.kept_mark.ensures c.part-sum.ensures c.part.ensures
    c.part-in-readings.ensures

pub returns-then-rule-eq-TRIMMED_MIDPOINT : goal.returns-then-rule-eq-TRIMMED_MIDPOINT
returns-then-rule-eq-TRIMMED_MIDPOINT c =
    let k = c.readings in
    record {
      value =
          ends-are c.args.numbers.now c.args.ranks.now _ c.args.m c.requires.numbers_len.0 c.requires.ranked c.args.rule k.ends
          (eq-eqb c.args.rule trimmed_midpoint c.if-rule-eq-TRIMMED_MIDPOINT.true)
          (all-summed k.invariant.sums_ends c.readings-test.false);
      marks_after = all-struck k.invariant.strikes c.readings-test.false;
    }

pub returns-else-rule-eq-TRIMMED_MIDPOINT : goal.returns-else-rule-eq-TRIMMED_MIDPOINT
returns-else-rule-eq-TRIMMED_MIDPOINT c =
    let k = c.readings in
    record {
      value =
          sum_is c.args.numbers.now c.args.ranks.now _ c.args.m c.requires.numbers_len.0 c.requires.ranked c.args.rule k.sum
          (ne_eqb c.args.rule trimmed_midpoint c.if-rule-eq-TRIMMED_MIDPOINT.false)
          (all-summed k.invariant.sums c.readings-test.false);
      marks_after = all-struck k.invariant.strikes c.readings-test.false;
    }
