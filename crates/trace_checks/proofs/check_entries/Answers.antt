-- Where the parts pass 8 and 9, what 14 answers of them is what it answers of the trace.
use Rattle.trace_checks.proofs.Parts.{roles-decide}
use Rattle.trace_checks.proofs.check_entries.Goals as goal

pub returns : goal.returns
returns c =
    roles-decide c.args.trace.now c.args.n c.args.rounds c.requires c.marks_start-start.result
    c.readings_start-body.result c.marks_start-start.ensures c.readings_start-body.ensures
    c.in_ok-check_parts.ensures c.check.ensures
