-- `value_writer::put_values` meets its contract: where the values are held and fit, one number is put after the other.
use Rattle.std.proofs.Common.{length, pos, refl, sym, ap, ◌∙◌, arith, of_z}
use Rattle.std.specs.Int.{w32}
use Rattle.arithmetic.specs.Writing.{table}
use Rattle.arithmetic.proofs.Writing.{length-table, get_d_table}
use Rattle.sheet_laws.proofs.Storing.{put-none, put_next, put_ended}
use Rattle.value_writer.specs.Values.{shown_of}
use Rattle.value_writer.proofs.Fitting.{fit-room, values-put}
use Rattle.value_writer.proofs.put_values.Goals as goal

pub cabinets-init : goal.cabinets-init
cabinets-init c =
    let a = c.args in
    (put-none (table (shown_of a.roles.now a.held.now) (length a.roles.now)) a.values.now, refl)

pub cabinets-preserved : goal.cabinets-preserved
cabinets-preserved c =
    let a = c.args in
    let v = c.cabinets in
    let n = length a.roles.now in
    let wanted = shown_of a.roles.now a.held.now in
    let long = length-table wanted n in
    let room = fit-room n (length a.held.now) (length a.values.now) (sym c.is_unfit.ensures ∙ c.if-is_unfit.false) in (
      c.put_word.ensures
          ∙ put_next (table wanted n) v.p a.values.now v.values c.shown.result v.invariant.0
          (omega arith)
          (c.shown.ensures ∙ ap (of_z w32) (sym (get_d_table wanted n v.p (pos 0) c.cabinets-test.true)))
          (omega arith),
      c.put_word.auto.buffer ∙ v.invariant.1,
    )

pub returns-clause-values_after : goal.returns-clause-values_after
returns-clause-values_after c =
    let a = c.args in
    let v = c.cabinets in
    let n = length a.roles.now in
    let wanted = shown_of a.roles.now a.held.now in
    let long = length-table wanted n in
    put_ended (table wanted n) v.p a.values.now v.values (omega arith) v.invariant.0
    ∙ values-put a.roles.now a.held.now a.values.now (sym c.is_unfit.ensures ∙ c.if-is_unfit.false)
