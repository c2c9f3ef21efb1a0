-- The lines of the cabinets passed are put.
use Rattle.trace.specs.Trace.{role_at}
use Rattle.trace.specs.ReplayText.{value_lines}
use Rattle.fields.specs.Writing.{Writes}
use Rattle.value_lines.specs.Values.{value_at}
use Rattle.value_lines.proofs.put_lines.Given as goal

abbrev pub invariant-cabinets : goal.invariant-cabinets
invariant-cabinets l = Writes l.initial.text (value_lines (role_at l.trace) (value_at l.values) l.p) l.text
