-- The listing lies within its buffer.
use Rattle.std.proofs.Common.{sym}
use Rattle.std.proofs.lemmas.List.{length-take-le}
use Rattle.listing.proofs.Outcomes.{listing-fits}
use Rattle.settle.proofs.settle_input.Goals as goal

pub slice_bounds-text-end : goal.slice_bounds-text-end
slice_bounds-text-end c =
    listing-fits _ _ _ _ c.listing-end.ensures.value c.listing-end.ensures.text_after c.listing-end.auto.text

pub slice_bounds-write_all-end : goal.slice_bounds-write_all-end
slice_bounds-write_all-end c =
    sym (length-take-le _ _ (listing-fits _ _ _ _ c.listing-end.ensures.value c.listing-end.ensures.text_after c.listing-end.auto.text))
