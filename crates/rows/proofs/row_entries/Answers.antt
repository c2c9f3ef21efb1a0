-- N for CCA, else 1: what the test said, in the definition.
use Rattle.std.proofs.lemmas.Bool.{eq-eqb, ne_eqb}
use Rattle.model.specs.RoundSheet.{row_entries}
use Rattle.rows.proofs.row_entries.Goals as goal

pub returns-then-settings-eq-CCA : goal.returns-then-settings-eq-CCA
unfolding row_entries
returns-then-settings-eq-CCA c = rw (eq-eqb c.args.settings.rule 1 c.if-settings-eq-CCA.true)

pub returns-else-settings-eq-CCA : goal.returns-else-settings-eq-CCA
unfolding row_entries
returns-else-settings-eq-CCA c = rw (ne_eqb c.args.settings.rule 1 c.if-settings-eq-CCA.false)
