-- A spread of 0 passes check 16.
use Rattle.std.proofs.Common.{ap, ◌∙◌}
use Rattle.model.specs.RoundSheet.{settings_at}
use Rattle.model.specs.Refusals.{Check}
use Rattle.model.specs.Calls.{verdict}
use Rattle.sheet_laws.proofs.Orders.{no_spread}
use Rattle.sheet_checks.proofs.inspect.Goals as goal

pub returns : goal.returns
returns c =
    let sheet = c.args.sheet.now in
    c.inspect_spread.ensures ∙ ap (λ (check : Check). verdict check (settings_at sheet)) (no_spread sheet)
