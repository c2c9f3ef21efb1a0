-- A number below ten is its digit, and any other is its tenth part and its last digit.
use Rattle.std.proofs.Common.{arith}
use Rattle.fields.proofs.Writing.{writes_then}
use Rattle.fields.proofs.Digits.{decimal-small, decimal_large}
use Rattle.fields.proofs.Writer.+put_decimal.Goals as goal
use Rattle.fields.proofs.Writer.+put_decimal.Goals.{then-x-ge10, else-x-ge10}

pub returns : goal.returns
returns _ c =
    elim c.if-x-ge10.branch [
      | then-x-ge10 w ↦
          rw (decimal_large c.args.x (omega arith) w.if-x-ge10.true)
          (writes_then w.put_decimal.ensures (rw w.self-is at c.put_byte.ensures))
      | else-x-ge10 w ↦ rw (decimal-small c.args.x w.if-x-ge10.false) (rw w.self-is at c.put_byte.ensures)
    ]
