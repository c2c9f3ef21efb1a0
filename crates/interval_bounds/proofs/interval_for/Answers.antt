-- Past the first check every input is in its range.
use Rattle.std.proofs.Common.{ap, ◌∙◌, Bool}
use Rattle.model.specs.Refusals.{refuse_if, bad_interval_number}
use Rattle.interval_bounds.proofs.Outcomes.{inside}
use Rattle.interval_bounds.proofs.interval_for.Goals as goal

pub least-shortest-requires : goal.least-shortest-requires
least-shortest-requires c =
    let a = c.args in
    let h = inside a.window a.precision a.drift
    (c.in_ok-refuse_if.ensures ∙ ap (λ (b : Bool). refuse_if b bad_interval_number) c.is_outside.ensures) in
    (h.precision, h.drift)

pub greatest-longest-requires : goal.greatest-longest-requires
greatest-longest-requires c =
    let a = c.args in
    let h = inside a.window a.precision a.drift
    (c.in_ok-refuse_if.ensures ∙ ap (λ (b : Bool). refuse_if b bad_interval_number) c.is_outside.ensures) in
    (h.window, h.some_drift, h.drift)
