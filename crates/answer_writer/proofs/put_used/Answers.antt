-- `answer_writer::put_used` meets its contract, one number after the other.
use Rattle.std.proofs.Common.{length, pos, of_z, refl, sym, ap, ◌∙◌, arith}
use Rattle.std.specs.Int.{w32}
use Rattle.arithmetic.specs.Writing.{table}
use Rattle.arithmetic.proofs.Writing.{length-table, get_d_table}
use Rattle.sheet_laws.proofs.Storing.{put-none, put_next, put_ended}
use Rattle.answer_writer.specs.Answers.{used_in}
use Rattle.answer_writer.proofs.put_used.Goals as goal

pub values-init : goal.values-init
values-init c =
    let a = c.args in
    let n = length a.marks.now in
    (put-none (table (used_in a.marks.now a.values.now a.estimate) n) a.tail.now, refl)

pub values-preserved : goal.values-preserved
values-preserved c =
    let a = c.args in
    let v = c.values in
    let n = length a.marks.now in
    let wanted = used_in a.marks.now a.values.now a.estimate in
    let long = length-table wanted n in (
      c.store.ensures
          ∙ put_next (table wanted n) v.r a.tail.now v.tail c.used.result v.invariant.0
          (omega arith)
          (c.used.ensures ∙ ap (of_z w32) (sym (get_d_table wanted n v.r (pos 0) c.values-test.true)))
          (omega (arith, c.requires.room)),
      c.store.auto.tail ∙ v.invariant.1,
    )

pub returns : goal.returns
returns c =
    let a = c.args in
    let v = c.values in
    let n = length a.marks.now in
    let wanted = used_in a.marks.now a.values.now a.estimate in
    let long = length-table wanted n in
    put_ended (table wanted n) v.r a.tail.now v.tail (omega arith) v.invariant.0
