-- It asks both tests, and whether a role is above 1 by index.
use Rattle.std.proofs.Common.{◌∙◌, ap₂, Bool, ◌||◌, ltb}
use Rattle.model.specs.Refusals.{refuse_if, bad_roles_number}
use Rattle.sender_checks.proofs.Any.{any-listed}
use Rattle.role_checks.specs.Roles.{roles_in, strange_in}
use Rattle.role_checks.proofs.check.Goals as goal

pub returns : goal.returns
unfolding roles_in strange_in
returns c =
    c.refuse_if.ensures
    ∙ ap₂ (λ (a b : Bool). refuse_if (a || b) bad_roles_number)
    (c.strange.ensures ∙ any-listed (λ x. ltb 1 x) c.args.roles.now) c.sound_sent.ensures
