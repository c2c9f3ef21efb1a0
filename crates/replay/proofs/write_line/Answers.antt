-- The line lies within its buffer.
use Rattle.std.proofs.Common.{sym}
use Rattle.std.proofs.lemmas.List.{length-take-le}
use Rattle.after_listing.proofs.Outcomes.{line-fits}
use Rattle.replay.proofs.write_line.Goals as goal

pub slice_bounds-write_all-end : goal.slice_bounds-write_all-end
slice_bounds-write_all-end g c = line-fits _ _ _ _ _ c.line-end.ensures.value c.line-end.ensures.text_after c.line-end.auto.text

pub slice_bounds-write_all-end-2 : goal.slice_bounds-write_all-end-2
slice_bounds-write_all-end-2 g c =
    sym (length-take-le _ _ (line-fits _ _ _ _ _ c.line-end.ensures.value c.line-end.ensures.text_after c.line-end.auto.text))
