-- `planner::advance` meets its contract: the settings get the next window, and the accuracy grows by this round's
-- share. Neither is above the widest window, since the settings pass, so both fit.
use Rattle.std.proofs.Common.{ℕ, ◌+◌, arith}
use mathlib.Core.Path.{ap₂}
use Rattle.model.specs.Planner.{advance, with_window}
use Rattle.refusal_laws.proofs.Limits.{planner_limits}
use Rattle.planner_laws.proofs.Windows.{next-window-le, growth-le}
use Rattle.planner.proofs.advance.Goals as goal

pub overflow_cast-next : goal.overflow_cast-next
overflow_cast-next c =
    let settings = c.args.current.settings in
    let passes = planner_limits settings c.requires.settings_pass in
    omega (arith, passes.window, next-window-le settings passes, c.next_window-next.ensures)

pub overflow_cast-result : goal.overflow_cast-result
overflow_cast-result c =
    let settings = c.args.current.settings in
    let passes = planner_limits settings c.requires.settings_pass in
    omega (arith, passes.window, growth-le settings passes, c.growth.ensures)

pub overflow_add-result : goal.overflow_add-result
overflow_add-result c =
    let settings = c.args.current.settings in
    let passes = planner_limits settings c.requires.settings_pass in
    omega (arith, c.requires.may_step.1, passes.window, growth-le settings passes, c.growth.ensures)

pub returns : goal.returns
unfolding advance
returns c =
    let current = c.args.current in
    let rounds : ℕ = current.rounds + 1 in
    ap₂
    (λ (w g : ℕ).
    record { settings = with_window current.settings w; accuracy = current.accuracy + g; rounds = rounds })
    c.next_window-next.ensures
    c.growth.ensures
