-- The tests say whether the sheet is one of readings as sent and the sizes fit; then its parts hold its entries.
use Rattle.std.proofs.Common.{◌≡◌, false, eqb, arith}
use borrow.Author.Tests.{ne_eqb}
use Rattle.model.specs.RoundSheet.{cca}
use Rattle.reception.proofs.Sheets.{entries_direct, left_as_were, left_direct}
use Rattle.reception.proofs.receive_direct.Goals as goal

pub returns-then-not-fits : goal.returns-then-not-fits
returns-then-not-fits c =
    let a = c.args in
    let other : eqb a.settings.rule cca ≡ false = ne_eqb a.settings.rule cca (omega arith) in
    let left = left_as_were a.sheet.now a.settings a.marks.now a.values.now c.if-not-fits.ensures.value in
    rw other record { value = c.if-not-fits.ensures.value; marks_after = left.marked; values_after = left.valued }

pub returns : goal.returns
returns c =
    let a = c.args in
    let other : eqb a.settings.rule cca ≡ false = ne_eqb a.settings.rule cca (omega arith) in
    let left =
    left_direct a.sheet.now a.settings a.marks.now a.values.now c.if-not-fits.ensures.value _ _ (omega arith)
    c.receive_sent.ensures
    in
    rw other record { value = c.if-not-fits.ensures.value; marks_after = left.marked; values_after = left.valued }

pub slice_bounds-receive_sent-end : goal.slice_bounds-receive_sent-end
slice_bounds-receive_sent-end c = grind (arith, entries_direct)

pub slice_bounds-receive_sent-end-2 : goal.slice_bounds-receive_sent-end-2
slice_bounds-receive_sent-end-2 c = grind (arith, entries_direct)
