-- A byte more puts the next byte of the word, and at the end all of them are put.
use Rattle.std.proofs.Common.{arith, take_all}
use Rattle.fields.proofs.Writing.{writes_none, writes_more}
use Rattle.fields.proofs.Writer.put_bytes.Goals as goal

pub bytes-init : goal.bytes-init
bytes-init c = writes_none c.args.self.now

pub bytes-preserved : goal.bytes-preserved
bytes-preserved c = writes_more c.args.bytes.now c.bytes.byte-index (omega arith) c.bytes.invariant c.put_byte.ensures

pub returns : goal.returns
returns c = rw (take_all c.bytes.byte-index c.args.bytes.now c.bytes-test.false) at c.bytes.invariant
