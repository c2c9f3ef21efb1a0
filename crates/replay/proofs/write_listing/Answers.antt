-- The listing lies within its buffer.
use Rattle.std.proofs.Common.{sym}
use Rattle.std.proofs.lemmas.List.{length-take-le}
use Rattle.replay_listing.proofs.Outcomes.{listing-fits}
use Rattle.replay.proofs.write_listing.Goals as goal

pub slice_bounds-write_all-end : goal.slice_bounds-write_all-end
slice_bounds-write_all-end g c = listing-fits _ _ _ _ c.listing-end.ensures.value c.listing-end.ensures.text_after c.listing-end.auto.text

pub slice_bounds-write_all-end-2 : goal.slice_bounds-write_all-end-2
slice_bounds-write_all-end-2 g c =
    sym (length-take-le _ _ (listing-fits _ _ _ _ c.listing-end.ensures.value c.listing-end.ensures.text_after c.listing-end.auto.text))
