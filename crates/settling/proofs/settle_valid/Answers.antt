-- It lends the first N places of its arrays.
use Rattle.std.proofs.Common.{sym}
use Rattle.held.proofs.Held.{first-places}
use Rattle.settling.specs.Rounds.{spread_of}
use Rattle.settling.proofs.Settling.{few-faults}
use Rattle.settling.proofs.settle_valid.Goals as goal

pub slice_bounds-marks-end : goal.slice_bounds-marks-end
slice_bounds-marks-end c =
    let a = c.args in
    (few-faults a.sheet.now a.settings (spread_of a.settings a.span) a.answer.now c.requires.0).1

pub slice_bounds-settle_in-end : goal.slice_bounds-settle_in-end
slice_bounds-settle_in-end c =
    let a = c.args in
    sym (first-places a.settings.n
    (few-faults a.sheet.now a.settings (spread_of a.settings a.span) a.answer.now c.requires.0).1)

pub slice_bounds-values-end : goal.slice_bounds-values-end
slice_bounds-values-end c =
    let a = c.args in
    (few-faults a.sheet.now a.settings (spread_of a.settings a.span) a.answer.now c.requires.0).1

pub slice_bounds-settle_in-end-2 : goal.slice_bounds-settle_in-end-2
slice_bounds-settle_in-end-2 c =
    let a = c.args in
    sym (first-places a.settings.n
    (few-faults a.sheet.now a.settings (spread_of a.settings a.span) a.answer.now c.requires.0).1)

pub settle_in-requires-clause-marks_len : goal.settle_in-requires-clause-marks_len
settle_in-requires-clause-marks_len c =
    let a = c.args in
    let long =
    first-places a.settings.n
    (few-faults a.sheet.now a.settings (spread_of a.settings a.span) a.answer.now c.requires.0).1 in
    (long, long)
