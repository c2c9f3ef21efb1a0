-- The range begins as that of all numbers; what is looked at lies in it, and by the count it is one end or the other.
use Rattle.std.proofs.Common.{◌<◌, sym, ◌∙◌, arith}
use Rattle.ranks.proofs.Seeing.{below-is_some}
use Rattle.thresholds.proofs.Narrowing.{Inside, narrowing_start, within-most, narrowing_up, narrowing_down, narrowing_done}
use Rattle.thresholds.proofs.Narrowing.{guessed-within, still-wide}
use Rattle.thresholds.proofs.find.Goals as goal
use Rattle.thresholds.proofs.find.Goals.{In-narrowing, After-guess-mid}

-- the range that is left is not one number yet
wide : (c : In-narrowing) → c.narrowing.rest.low < c.narrowing.rest.high
wide c = still-wide c.narrowing.rest c.args.k c.narrowing.below c.narrowing-test.true

inside : (c : After-guess-mid) → Inside c.narrowing.rest c.guess-mid.result
inside c = rw c.guess-mid.ensures (guessed-within c.narrowing.rest _ _ _ (wide (goal.at.After-guess-mid c).In-narrowing))

pub narrowing-init : goal.narrowing-init
narrowing-init c = narrowing_start c.args.values.now c.args.k c.args.all c.requires.bounds

pub guess-mid-requires : goal.guess-mid-requires
guess-mid-requires c =
    let most = within-most c.narrowing.invariant in
    let few = c.requires.values_len_bound.0 in
    (wide c, omega arith, omega (arith, most, few, c.narrowing.invariant.most))

pub unwrap-count-requires : goal.unwrap-count-requires
unwrap-count-requires c = below-is_some c.args.values.now _ c.requires.values_len_bound.0 c.count_below.ensures

pub narrowing-smaller-then-count-k : goal.narrowing-smaller-then-count-k
narrowing-smaller-then-count-k c = omega (arith, inside (goal.at.narrowing-smaller-then-count-k c).After-guess-mid)

pub narrowing-preserved-then-count-k : goal.narrowing-preserved-then-count-k
narrowing-preserved-then-count-k c =
    narrowing_up
    c.narrowing.invariant
    c.requires.values_len_bound.0
    (inside (goal.at.narrowing-preserved-then-count-k c).After-guess-mid)
    (sym c.unwrap-count.ensures ∙ c.count_below.ensures)
    c.if-count-k.true

pub overflow_sub-rest : goal.overflow_sub-rest
overflow_sub-rest c = omega (arith, inside (goal.at.overflow_sub-rest c).After-guess-mid)

pub narrowing-smaller : goal.narrowing-smaller
narrowing-smaller c = omega (arith, inside (goal.at.narrowing-smaller c).After-guess-mid)

pub narrowing-preserved : goal.narrowing-preserved
narrowing-preserved c =
    narrowing_down
    c.narrowing.invariant
    c.requires.values_len_bound.0
    (inside (goal.at.narrowing-preserved c).After-guess-mid)
    (sym c.unwrap-count.ensures ∙ c.count_below.ensures)
    c.if-count-k.false

pub returns : goal.returns
returns c = narrowing_done c.narrowing.invariant c.narrowing-test.false
