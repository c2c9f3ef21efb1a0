-- A cabinet's line is put after those of the cabinets passed.
use Rattle.trace.specs.Trace.{role_at}
use Rattle.fields.proofs.Writing.{writes_none}
use Rattle.value_lines.specs.Values.{value_at}
use Rattle.value_lines.proofs.Lines.{values-none, value-put}
use Rattle.value_lines.proofs.put_lines.Goals as goal

pub cabinets-init : goal.cabinets-init
cabinets-init c =
    rw (values-none (role_at c.args.trace.now) (value_at c.args.values.now)) (writes_none c.args.text.now)

pub cabinets-preserved : goal.cabinets-preserved
cabinets-preserved c =
    value-put c.args.trace.now c.args.values.now c.cabinets.p c.byte_at-role.result c.word_at-value.result
    c.byte_at-role.ensures c.word_at-value.ensures c.cabinets.invariant c.put_cabinet.ensures
