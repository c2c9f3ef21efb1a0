-- The tests say of which lists nothing is gathered.
use Rattle.std.proofs.Common.{sym, ◌∙◌}
use Rattle.summaries.proofs.Fits.{unfit_gathers, pass-none, few-counted, pass_gather}
use Rattle.summaries.proofs.summarize.Goals as goal

pub returns-then-unfit : goal.returns-then-unfit
returns-then-unfit c = unfit_gathers c.args.marks.now c.args.values.now c.unfit.ensures c.if-unfit.true

pub returns-then-unsummable : goal.returns-then-unsummable
returns-then-unsummable c =
    pass-none c.args.marks.now c.args.values.now c.gather-all.result c.gather-all.ensures
    (sym c.unfit.ensures ∙ c.if-unfit.false)
    c.unsummable.ensures
    c.if-unsummable.true

pub sum_distances-requires : goal.sum_distances-requires
sum_distances-requires c =
    few-counted c.args.marks.now c.args.values.now c.gather-all.result c.gather-all.ensures
    (sym c.unfit.ensures ∙ c.if-unfit.false)
    c.unsummable.ensures
    c.if-unsummable.false

pub returns : goal.returns
returns c =
    pass_gather c.args.marks.now c.args.values.now c.gather-all.result c.gather-all.ensures
    (sym c.unfit.ensures ∙ c.if-unfit.false)
    c.unsummable.ensures
    c.if-unsummable.false
    c.sum_distances.result
    c.sum_distances.ensures
