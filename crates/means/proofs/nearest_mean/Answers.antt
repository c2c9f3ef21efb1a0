-- The whole part, and 1 more by the remainder, is how far the nearest is above low, and fits.
use Rattle.std.proofs.Common.{ℕ, ◌+◌, ◌*◌, ◌/◌, ◌%◌, ap, ◌∙◌, ltb}
use Rattle.arithmetic.specs.Counting.{bit}
use Rattle.loop_laws.proofs.Loops.{flag}
use Rattle.means.proofs.Means.{odd-sum, nearest_none, nearest_split}
use Rattle.means.proofs.nearest_mean.Goals as goal

pub returns-then-n-eq0 : goal.returns-then-n-eq0
returns-then-n-eq0 c = nearest_none c.args.n c.args.sum c.args.low c.if-n-eq0.true

pub returns : goal.returns
returns c =
    let a = c.args in
    ap (λ (k : ℕ). a.sum / a.n + k)
    (flag c.rounds_up.result
    ∙ ap bit c.rounds_up.ensures
    ∙ ap (λ (k : ℕ). bit (ltb a.n (2 * (a.sum % a.n) + k))) (odd-sum a.low (a.sum / a.n)))
    ∙ nearest_split a.n a.sum c.if-n-eq0.false a.low
