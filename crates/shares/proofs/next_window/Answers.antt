-- `shares::next_window` meets its contract: it is 0, or one past the share of m cabinets, or of twice as many.
use Rattle.std.proofs.Common.{ℕ, ◌*◌, ap, ◌∙◌}
use native.Mathlib.Nat.{mul_assoc}
use Rattle.model.specs.Planner.{past_div, window_factor}
use Rattle.shares.proofs.Products.{no_window, some-window}
use Rattle.shares.proofs.next_window.Goals as goal

pub returns-then-settings : goal.returns-then-settings
returns-then-settings c = no_window c.args.settings c.if-settings.true

pub returns : goal.returns
unfolding window_factor
returns c =
    let factor = c.window_factor-factor in
    let settings = c.args.settings in
    c.past_share.ensures
    ∙ ap (λ (a : ℕ). past_div a settings.n) (mul_assoc factor.result settings.m settings.window)
    ∙ ap (λ (f : ℕ). past_div (f * (settings.m * settings.window)) settings.n) factor.ensures.value
    ∙ some-window settings c.if-settings.false
