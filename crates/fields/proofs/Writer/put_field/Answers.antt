-- A space, then the number.
use Rattle.fields.proofs.Writing.{writes_then}
use Rattle.fields.proofs.Writer.put_field.Goals as goal

pub returns : goal.returns
returns c = writes_then c.put_byte.ensures c.put_decimal.ensures
