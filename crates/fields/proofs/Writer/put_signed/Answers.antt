-- A minus sign for a number below 0, and how far from 0 it lies.
use Rattle.std.proofs.Common.{◌≡◌, ap, to_z}
use Rattle.std.proofs.Math.Facts.{of_z-to_z}
use mir.Syntax.{w32}
use mir.Val.{of_z}
use Rattle.fields.proofs.Writing.{writes_then}
use Rattle.fields.proofs.Signed.{signed_below, signed_from}
use Rattle.fields.proofs.Writer.put_signed.Goals as goal
use Rattle.fields.proofs.Writer.put_signed.Goals.{then-value-lt0, else-value-lt0}

pub returns : goal.returns
returns c =
    let same : to_z w32 (of_z w32 c.cast_signed-value.result) ≡ to_z w32 c.args.bits =
    rw c.cast_signed-value.ensures (ap (to_z w32) (of_z-to_z c.ranges.bits)) in
    let digits = rw c.unsigned_abs.ensures.value at c.put_decimal.ensures in
    rw (← same)
    (elim c.if-value-lt0.branch [
      | then-value-lt0 w ↦
          rw (signed_below _ w.if-value-lt0.true) (writes_then w.put_byte.ensures (rw w.self-is at digits))
      | else-value-lt0 w ↦ rw (signed_from _ w.if-value-lt0.false) (rw w.self-is at digits)
    ])
