-- A space, then the signed number.
use Rattle.fields.proofs.Writing.{writes_then}
use Rattle.fields.proofs.Writer.put_signed_field.Goals as goal

pub returns : goal.returns
returns c = writes_then c.put_byte.ensures c.put_signed.ensures
