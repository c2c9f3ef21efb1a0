-- A window at most as wide as the precision has no interval.
use Rattle.std.proofs.Common.{sym, arith}
use Rattle.interval.proofs.Formula.{greatest-narrow}
use Rattle.interval_bounds.proofs.greatest.Goals as goal

pub returns-then-window-precision : goal.returns-then-window-precision
returns-then-window-precision c =
    let a = c.args in
    sym (greatest-narrow a.window a.precision a.drift (omega arith))
