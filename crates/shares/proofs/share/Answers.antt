-- `shares::share` meets its contract: the body is the quotient rounded up.
use Rattle.std.proofs.Common.{ℕ, ◌*◌, ap, ◌∙◌, arith}
use Rattle.model.specs.Planner.{ceil_div}
use Rattle.shares.proofs.Products.{none-of-none, rounded-up}
use Rattle.shares.proofs.share.Goals as goal

pub returns-then-n-eq0 : goal.returns-then-n-eq0
returns-then-n-eq0 c =
    let a = c.args in
    none-of-none (a.parts * a.settings.window) a.settings.n (omega arith)

pub returns : goal.returns
returns c =
    let n = c.args.settings.n in
    c.div_ceil.ensures ∙ rounded-up _ n (omega arith) ∙ ap (λ (a : ℕ). ceil_div a n) c.product.ensures.value
