-- One store puts one byte, and nothing is stored in a buffer without room.
use Rattle.std.proofs.Common.{refl}
use Rattle.fields.proofs.Putting.{puts_full, puts_byte}
use Rattle.fields.proofs.Writer.put_byte.Goals as goal

pub returns-then-self : goal.returns-then-self
returns-then-self c =
    let w = c.args.self.now in
    record { same_reference = refl; puts = puts_byte w.bytes.now w.at c.args.byte c.if-self.true }

pub returns-else-self : goal.returns-else-self
returns-else-self c =
    let w = c.args.self.now in
    record { same_reference = refl; puts = puts_full w.bytes.now w.at c.args.byte c.if-self.false }
