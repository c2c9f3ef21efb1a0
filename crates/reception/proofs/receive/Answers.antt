-- By CCA the tests say whether the sizes fit, and then the sheet's parts hold its entries.
use Rattle.std.proofs.Common.{arith}
use Rattle.reception.proofs.Sheets.{left_as_were, left_relayed}
use Rattle.reception.proofs.receive.Goals as goal

pub returns-then-not-fits : goal.returns-then-not-fits
returns-then-not-fits c =
    let a = c.args in
    let left = left_as_were a.sheet.now a.settings a.marks.now a.values.now c.if-not-fits.ensures.value in
    record { value = c.if-not-fits.ensures.value; marks_after = left.marked; values_after = left.valued }

pub returns : goal.returns
returns c =
    let a = c.args in
    let left =
    left_relayed a.sheet.now a.settings a.marks.now a.values.now c.if-not-fits.ensures.value _ _ (omega arith)
    c.receive_decided.ensures
    in
    record { value = c.if-not-fits.ensures.value; marks_after = left.marked; values_after = left.valued }
