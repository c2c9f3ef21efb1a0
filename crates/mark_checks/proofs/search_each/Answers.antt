-- A mark at fault where none before it is, is the lowest; where the loop ends, there is none.
use Rattle.std.proofs.Common.{ltb, length, ap, ◌∙◌, arith}
use Rattle.std.proofs.Math.Option.{some}
use Rattle.std.proofs.lemmas.Bool.{lt-ltb, le-ltb}
use Rattle.model.specs.RoundSheet.{byte}
use Rattle.model.specs.Refusals.{bad_mark, bad_mark_number}
use Rattle.sheet_laws.proofs.Searching.{search_none, search_more, check_found, check_ended}
use Rattle.mark_checks.proofs.search_each.Goals as goal

pub entries-init : goal.entries-init
entries-init c = search_none (λ i. ltb 1 (byte c.args.marks.now i))

pub returns-then-mark-gt1 : goal.returns-then-mark-gt1
unfolding bad_mark
returns-then-mark-gt1 c =
    let marks = c.args.marks.now in
    let e = c.entries.e in
    ap some c.at.ensures
    ∙ check_found (λ i. ltb 1 (byte marks i)) bad_mark_number (length marks) e (omega arith) c.entries.invariant
    (lt-ltb 1 (byte marks e) c.if-mark-gt1.true)

pub entries-preserved : goal.entries-preserved
entries-preserved c =
    let marks = c.args.marks.now in
    let e = c.entries.e in
    search_more (λ i. ltb 1 (byte marks i)) e c.entries.invariant (le-ltb 1 (byte marks e) c.if-mark-gt1.false)

pub returns : goal.returns
unfolding bad_mark
returns c =
    let marks = c.args.marks.now in
    check_ended (λ i. ltb 1 (byte marks i)) bad_mark_number (length marks) c.entries.e (omega arith)
    (omega arith) c.entries.invariant
