-- What is seen is what the definition gives of the marks passed.
use Rattle.std.proofs.Common.{◌≡◌}
use Rattle.mark_checks.specs.Marks.{surveyed}
use Rattle.mark_checks.proofs.survey.Given as goal

abbrev pub invariant-entries : goal.invariant-entries
invariant-entries l = l.seen ≡ surveyed l.marks l.mark-index
