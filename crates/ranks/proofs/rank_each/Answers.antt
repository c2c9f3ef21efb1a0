-- As many as are below a number, and as many as were seen with so many below them, come before it: its rank.
use Rattle.std.proofs.Common.{◌+◌, ◌<◌, length, get_or, sym, ◌∙◌, arith}
use Rattle.model.specs.Ensemble.{max_cabinets}
use Rattle.ranks.proofs.Seeing.{below-is_some, ranking_none, found, ranking_next}
use Rattle.ranks.proofs.rank_each.Goals as goal
use Rattle.ranks.proofs.rank_each.Goals.{After-unwrap-below}

pub numbers-init : goal.numbers-init
numbers-init c =
    let a = c.args in
    ranking_none a.values.now a.ranks.now a.seen.now c.requires.values_len_bound.0 c.requires.values_len_bound.1
    c.requires.seen

pub unwrap-below-requires : goal.unwrap-below-requires
unwrap-below-requires c = below-is_some c.args.values.now _ c.numbers.invariant.few c.count_below.ensures

-- what is read and written fits
fits :
    (c : After-unwrap-below)
    → (c.unwrap-below.result < length c.numbers.seen)
    × (c.unwrap-below.result + get_or c.numbers.seen c.unwrap-below.result 0 < max_cabinets)
fits c =
    let f = found c.numbers.invariant c.numbers-test.true (sym c.unwrap-below.ensures ∙ c.count_below.ensures) in
    (f.0, omega (arith, f.1, f.2))

pub bounds-seen-below : goal.bounds-seen-below
bounds-seen-below c = (fits (goal.at.bounds-seen-below c).After-unwrap-below).0

pub overflow_cast-ranks : goal.overflow_cast-ranks
overflow_cast-ranks c = omega (arith, fits (goal.at.overflow_cast-ranks c).After-unwrap-below)

pub overflow_add-ranks : goal.overflow_add-ranks
overflow_add-ranks c = omega (arith, fits (goal.at.overflow_add-ranks c).After-unwrap-below)

pub overflow_add-seen : goal.overflow_add-seen
overflow_add-seen c = omega (arith, fits (goal.at.overflow_add-seen c).After-unwrap-below)

pub bounds-seen-below-in-numbers : goal.bounds-seen-below-in-numbers
bounds-seen-below-in-numbers c = (fits (goal.at.bounds-seen-below-in-numbers c).After-unwrap-below).0

pub numbers-preserved : goal.numbers-preserved
numbers-preserved c = ranking_next c.numbers.invariant c.numbers-test.true (sym c.unwrap-below.ensures ∙ c.count_below.ensures)
