-- The library asks each mark of the row, as `present_in` does.
use Rattle.std.proofs.Common.{eqb, eq-eqb, ◌∙◌}
use Rattle.sender_checks.specs.Senders.{present_in}
use Rattle.sender_checks.proofs.Any.{any-listed}
use Rattle.sender_checks.proofs.row_sent.Goals as goal

pub returns-then-role-eq-SOUND : goal.returns-then-role-eq-SOUND
unfolding present_in
returns-then-role-eq-SOUND c =
    rw (eq-eqb c.args.role 1 c.if-role-eq-SOUND.true)
    (c.contains.ensures.value ∙ any-listed (λ x. eqb x 1) c.args.row.now)
