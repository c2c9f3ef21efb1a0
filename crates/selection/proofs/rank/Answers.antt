-- Each reading is counted or not, so each count is at most the readings passed.
use Rattle.std.proofs.Common.{arith, Bool, ◌&&◌, List, ℕ, length, ltb, leb}
use Rattle.loop_laws.proofs.Loops.{flag_small, count_none, count_small, count-one}
use Rattle.held.specs.Held.{present_in, value_at}
use Rattle.selection.proofs.rank.Goals as goal

abbrev under : List ℕ → List ℕ → ℕ → ℕ → Bool
under marks values v t = present_in marks t && ltb (value_at values t) v

abbrev within : List ℕ → List ℕ → ℕ → ℕ → Bool
within marks values v t = present_in marks t && leb (value_at values t) v

pub readings-init : goal.readings-init
readings-init c =
    let marks = c.args.marks.now in
    let values = c.args.values.now in (
      count_none (under marks values c.args.v) (length marks),
      count_none (within marks values c.args.v) (length marks),
    )

pub overflow_add-below : goal.overflow_add-below
overflow_add-below c =
    let a = c.args in
    let p = under a.marks.now a.values.now a.v in
    omega (arith, count_small p (length a.marks.now) c.readings.invariant.0, flag_small (p c.readings.t))

pub overflow_add-up_to : goal.overflow_add-up_to
overflow_add-up_to c =
    let a = c.args in
    let p = within a.marks.now a.values.now a.v in
    omega (arith, count_small p (length a.marks.now) c.readings.invariant.1, flag_small (p c.readings.t))

pub readings-preserved : goal.readings-preserved
readings-preserved c =
    let a = c.args in
    let marks = a.marks.now in
    let values = a.values.now in
    let room = c.readings-test.true in (
      count-one (under marks values a.v) (length marks) c.readings.invariant.0 room,
      count-one (within marks values a.v) (length marks) c.readings.invariant.1 room,
    )
