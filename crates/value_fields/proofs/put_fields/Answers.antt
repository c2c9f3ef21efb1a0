-- A cabinet's field is put after those of the cabinets passed.
use Rattle.fields.proofs.Writing.{writes_none}
use Rattle.value_lines.specs.Values.{value_at}
use Rattle.value_fields.proofs.Fields.{values-none, value-put}
use Rattle.value_fields.proofs.put_fields.Goals as goal

pub cabinets-init : goal.cabinets-init
cabinets-init c = rw (values-none (value_at c.args.values.now)) (writes_none c.args.text.now)

pub cabinets-preserved : goal.cabinets-preserved
cabinets-preserved c =
    value-put c.args.values.now c.cabinets.p c.word_at-value.result c.word_at-value.ensures c.cabinets.invariant
    c.put_signed_field.ensures
