-- The settings that `inspect` grants say how long the trace is.
use Rattle.trace_checks.proofs.Traced.{entries_shaped}
use Rattle.trace_checks.proofs.screen.Goals as goal

pub check_entries-requires : goal.check_entries-requires
check_entries-requires c =
    entries_shaped c.args.trace.now c.args.room c.in_ok-settings.settings c.in_ok-settings.ensures c.byte_at-rounds.result
    c.byte_at-rounds.ensures
