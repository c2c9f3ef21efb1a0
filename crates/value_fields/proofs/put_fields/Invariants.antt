-- The fields of the cabinets passed are put.
use Rattle.fields.specs.Writing.{Writes}
use Rattle.value_lines.specs.Values.{value_at}
use Rattle.value_fields.specs.Spaced.{spaced_values}
use Rattle.value_fields.proofs.put_fields.Given as goal

abbrev pub invariant-cabinets : goal.invariant-cabinets
invariant-cabinets l = Writes l.initial.text (spaced_values (value_at l.values) l.p) l.text
