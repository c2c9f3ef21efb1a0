-- Three fields and a line feed, one after the other.
use Rattle.model.specs.Listing.{line}
use Rattle.fields.proofs.Writing.{writes_then}
use Rattle.replay_text.proofs.put_first.Goals as goal

pub returns : goal.returns
unfolding line
returns c =
    writes_then c.put_bytes.ensures
    (writes_then c.put_field.ensures
    (writes_then c.put_field-2.ensures c.put_byte.ensures))
