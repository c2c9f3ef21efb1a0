-- Settling without a spread is settling with the spread 0.
use Rattle.model.specs.Calls.{settle}
use Rattle.tohiranga.proofs.tohiranga_settle.Goals as goal

pub returns-clause-value : goal.returns-clause-value
unfolding settle
returns-clause-value c = c.tohiranga_settle_spread.ensures.value

pub returns-clause-answer_after : goal.returns-clause-answer_after
unfolding settle
returns-clause-answer_after c = c.tohiranga_settle_spread.ensures.answer_after
