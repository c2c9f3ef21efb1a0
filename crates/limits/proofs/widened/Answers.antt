-- `limits::widened` meets its contract: the parts are those of `wider_at`.
use Rattle.std.proofs.Common.{ℕ, ◌+◌, ◌*◌, ◌-◌, ◌/◌, ◌%◌, ap, ◌∙◌}
use Rattle.model.specs.Planner.{ceil_div, past_div}
use Rattle.limits.proofs.Stating.{wider-at}
use Rattle.limits.proofs.widened.Goals as goal

pub returns : goal.returns
returns c =
    let a = c.args in
    wider-at a.settings a.accuracy a.t
    (c.past_share-gap.ensures
    ∙ ap (λ (parts : ℕ). past_div (parts * a.settings.window) a.settings.n) c.gap_parts.ensures)
    (c.share-growth.ensures
    ∙ ap (λ (parts : ℕ). ceil_div (parts * a.settings.window) a.settings.n) c.error_parts.ensures)
    (c.nearest-above.ensures.value
    ∙ ap (λ (x : ℕ). (2 * x + a.settings.n) / (2 * a.settings.n)) c.excess-excess.ensures)
    (c.nearest-below.ensures.value
    ∙ ap (λ (x : ℕ). (2 * x + (a.settings.n - a.settings.window % 2)) / (2 * a.settings.n)) c.excess-excess.ensures)
    c.is_reached.ensures
