-- What is left of a second is below a billion billionths, rounded up too.
-- Assumes nothing.
use Prim.Native.Nat.{◌+◌, ◌*◌, ◌-◌, ◌%◌, ◌<◌}
use native.Mathlib.Nat.{mod-lt, div-lt_iff_lt-mul}
use native.Mathlib.Omega.{arith}
use Rattle.model.specs.Ensemble.{ticks_per_second}
use Rattle.model.specs.Planner.{ceil_div}
use Rattle.seconds.specs.Seconds.{billion, InSeconds}

pub in_seconds : InSeconds
unfolding ceil_div
in_seconds ticks =
    let some : 0 < ticks_per_second = omega arith in
    let left : ticks % ticks_per_second < ticks_per_second = mod-lt ticks some in
    let down : ticks % ticks_per_second * billion < billion * ticks_per_second = omega arith in
    let up : ticks % ticks_per_second * billion + (ticks_per_second - 1) < billion * ticks_per_second = omega arith in
    ((div-lt_iff_lt-mul some).1 down, (div-lt_iff_lt-mul some).1 up)
