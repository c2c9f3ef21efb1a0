-- A row more is passed, of the sender whose turn it is.
use Rattle.std.proofs.Common.{rules}
use Rattle.sender_checks.proofs.Rows.{no_sender, passed_none, passed-row, passed-all}
use Rattle.sender_checks.proofs.sound_sent.Goals as goal

pub returns-then-n-eq0 : goal.returns-then-n-eq0
returns-then-n-eq0 c = no_sender c.args.roles.now c.args.marks.now c.if-n-eq0.true

pub rows-init : goal.rows-init
rows-init c = passed_none c.args.roles.now c.args.marks.now (search rules) (search rules) (search rules)

pub rows-preserved : goal.rows-preserved
rows-preserved c =
    let s = c.in-Some.ensures.steps in
    passed-row c.args.roles.now c.args.marks.now _ _ c.rows.invariant s.0.0 s.0.1.0 s.0.1.1 s.0.1.2 s.1 s.2
    c.row_sent-found.ensures

pub returns : goal.returns
returns c = passed-all c.args.roles.now c.args.marks.now c.rows.invariant c.in-None.ensures.steps.0.1.0
