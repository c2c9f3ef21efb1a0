-- `shares::past_share` meets its contract: the body is the whole part plus one, which fits.
use Rattle.std.proofs.Common.{ℕ, ◌+◌, ◌*◌, ◌/◌, ap, arith}
use Rattle.model.specs.Planner.{past_div}
use Rattle.shares.proofs.Products.{past-none}
use Rattle.shares.proofs.past_share.Goals as goal

pub returns-then-n-eq0 : goal.returns-then-n-eq0
returns-then-n-eq0 c =
    let a = c.args in
    past-none (a.parts * a.settings.window) a.settings.n (omega arith)

pub returns : goal.returns
unfolding past_div
returns c =
    let n = c.args.settings.n in
    ap (λ (a : ℕ). a / n + 1) c.product.ensures.value
