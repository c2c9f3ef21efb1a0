-- The whole part and the remainder say what the mean is (`mean-split`).
use Rattle.std.proofs.Common.{◌≡◌, ℕ, ◌+◌, ◌*◌, ◌-◌, ◌/◌, ◌%◌, ◌<◌, ltb, arith}
use mir.Val.{bool_byte}
use Rattle.arithmetic.specs.Words.{two_to32}
use Rattle.loop_laws.proofs.Loops.{flag}
use Rattle.round_laws.specs.Naturals.{mean_nat}
use Rattle.value_laws.proofs.Means.{mean-split, mean_upper}
use Rattle.trimming.proofs.nearest.Goals as goal

-- the whole part, and 1 more by the remainder
split : (n s : ℕ) → 0 < n → s / n + bool_byte (ltb n (2 * (s % n) + s / n % 2)) ≡ mean_nat n s
split n s h =
    let b = flag (ltb n (2 * (s % n) + s / n % 2)) in
    let whole : 0 + s / n ≡ s / n = omega arith in
    let all : s + 0 * n ≡ s = omega arith in
    let e = rw (whole, all) at (mean-split n h s 0) in
    omega arith

pub returns : goal.returns
returns c = split c.args.n c.args.sum c.requires.0

pub overflow_cast-result-2 : goal.overflow_cast-result-2
overflow_cast-result-2 c =
    let n = c.args.n in
    let s = c.args.sum in
    omega (arith, split n s c.requires.0, mean_upper n c.requires.0 s (two_to32 - 1) c.requires.2)
