-- Where the readings are four bytes for each mark, the lowest place at fault is the definition's.
use Rattle.std.proofs.Common.{ℕ, length, sym, ap, ◌∙◌}
use Rattle.std.proofs.Math.Option.{Option, some}
use Rattle.model.specs.Refusals.{at_entry, bad_missing, bad_missing_number}
use Rattle.missing_search.proofs.Missing.{fault, none_found, unfit, fit-few, missing-searched}
use Rattle.missing_search.proofs.Places.{nowhere, somewhere}
use Rattle.missing_search.proofs.search.Goals as goal

pub returns-then-misfit : goal.returns-then-misfit
returns-then-misfit c = unfit c.args.marks.now c.args.readings.now c.misfit.ensures c.if-misfit.true

pub returns-then-place-eq-NOWHERE : goal.returns-then-place-eq-NOWHERE
returns-then-place-eq-NOWHERE c =
    let marks = c.args.marks.now in
    let readings = c.args.readings.now in
    none_found marks readings
    (nowhere (fault marks readings) (length marks) c.lowest_place-place.result
    (fit-few marks readings c.misfit.ensures c.if-misfit.false)
    c.lowest_place-place.ensures c.if-place-eq-NOWHERE.true)

pub returns : goal.returns
unfolding bad_missing
returns c =
    let marks = c.args.marks.now in
    let readings = c.args.readings.now in
    let few = fit-few marks readings c.misfit.ensures c.if-misfit.false in
    ap some c.at.ensures
    ∙ sym (ap (λ (o : Option ℕ). at_entry o bad_missing_number)
    (somewhere (fault marks readings) (length marks) c.lowest_place-place.result few
    c.lowest_place-place.ensures c.if-place-eq-NOWHERE.false))
    ∙ sym (missing-searched marks readings c.misfit.ensures c.if-misfit.false)
