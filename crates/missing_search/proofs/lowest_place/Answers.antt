-- Entry by entry it is the lower of two places; at the end every mark is passed.
use Rattle.std.proofs.Common.{Bool, cond, ap, ◌∙◌, arith}
use Rattle.sheet_sizes.specs.Bounds.{most_entries}
use Rattle.missing_search.proofs.Missing.{fault}
use Rattle.missing_search.proofs.Places.{place_none, place-next}
use Rattle.missing_search.proofs.lowest_place.Goals as goal

pub entries-init : goal.entries-init
entries-init c = place_none (fault c.args.marks.now c.args.readings.now)

pub entries-preserved : goal.entries-preserved
entries-preserved c =
    let a = c.args in
    let m = c.entries in
    c.min-place.ensures
    ∙ place-next (fault a.marks.now a.readings.now) m.entry
    (omega (arith, c.requires.1))
    m.invariant
    (c.place_if.ensures ∙ ap (λ (b : Bool). cond b m.entry most_entries) c.not_zero.ensures)
