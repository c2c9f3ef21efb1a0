-- With nothing seen, the ranks are those of the numbers.
use Rattle.std.proofs.Common.{sym, ◌∙◌, ltb, ltb-false, length}
use Rattle.arithmetic.proofs.Bools.{or_left}
use Rattle.model.specs.Ensemble.{max_cabinets}
use Rattle.ranks.specs.Ranks.{ranks_of}
use Rattle.ranks.proofs.Seeing.{seen_none}
use Rattle.ranks.proofs.rank.Goals as goal

pub returns-then-misfit : goal.returns-then-misfit
unfolding ranks_of
returns-then-misfit c = rw (sym c.misfit.ensures ∙ c.if-misfit.true)

pub rank_each-requires-clause-seen : goal.rank_each-requires-clause-seen
rank_each-requires-clause-seen c =
    let a = c.args in
    let n = length a.values.now in
    let test = sym c.misfit.ensures ∙ c.if-misfit.false in
    seen_none a.values.now
    (ltb-false max_cabinets n (or_left (ltb max_cabinets n) (ltb (length a.ranks.now) n) test))

pub returns : goal.returns
unfolding ranks_of
returns c = c.rank_each.ensures ∙ rw (sym c.misfit.ensures ∙ c.if-misfit.false)
