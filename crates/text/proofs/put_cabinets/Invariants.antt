-- The lines of the cabinets passed are put.
use Rattle.model.specs.Listing.{cabinet_lines}
use Rattle.fields.specs.Writing.{Writes}
use Rattle.text.specs.Text.{answer_round}
use Rattle.text.proofs.put_cabinets.Given as goal

abbrev pub invariant-cabinets : goal.invariant-cabinets
invariant-cabinets l = Writes l.initial.text (cabinet_lines (answer_round l.answer) l.r) l.text
