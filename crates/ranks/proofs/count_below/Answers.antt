-- Each number is below or not, so the count is at most the numbers passed.
use Rattle.std.proofs.Common.{arith, ltb, length}
use Rattle.loop_laws.proofs.Loops.{count_none, count-one, count_small, flag_small}
use Rattle.held.specs.Held.{value_at}
use Rattle.ranks.proofs.count_below.Goals as goal

pub values-init : goal.values-init
values-init c =
    let a = c.args in
    count_none (λ i. ltb (value_at a.values.now i) a.value) (length a.values.now)

pub overflow_add-below : goal.overflow_add-below
overflow_add-below c =
    let m = c.values in
    let a = c.args in
    omega (
      arith,
      count_small (λ i. ltb (value_at a.values.now i) a.value) (length a.values.now) m.invariant,
      m.invariant.up_to,
      flag_small (ltb (value_at a.values.now m.v-index) a.value),
    )

pub values-preserved : goal.values-preserved
values-preserved c =
    let a = c.args in
    count-one (λ i. ltb (value_at a.values.now i) a.value) (length a.values.now) c.values.invariant c.values-test.true
