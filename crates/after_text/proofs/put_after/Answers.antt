-- The word, the number of rounds, the values and a line feed, one after the other.
use Rattle.value_lines.specs.Values.{value_at}
use Rattle.after_text.proofs.Fields.{after-put}
use Rattle.after_text.proofs.put_after.Goals as goal

pub returns : goal.returns
returns c =
    after-put c.args.n c.args.k (value_at c.args.values.now) c.put_bytes.ensures c.put_field.ensures
    c.put_fields.ensures c.put_byte.ensures
