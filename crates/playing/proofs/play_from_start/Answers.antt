-- From the first readings on, as many rounds as are asked for and there.
use Rattle.std.proofs.Common.{ap, ◌∙◌, length, arith}
use Rattle.model.specs.declared.Settings.{Settings}
use Rattle.playing.proofs.Rounds.{first-held}
use Rattle.playing.proofs.Outcomes.{playable-few}
use Rattle.playing.proofs.play_from_start.Goals as goal

pub first_readings-requires : goal.first_readings-requires
first_readings-requires c =
    let few = playable-few c.args.run.trace.now c.args.run.playable in
    omega (arith, c.requires, ap (λ (d : Settings). d.n) c.args.run.sized)

pub play_rounds-requires-clause-held_to : goal.play_rounds-requires-clause-held_to
play_rounds-requires-clause-held_to c =
    let a = c.args in
    let same = c.requires ∙ ap (λ (d : Settings). d.n) c.args.run.sized in
    first-held a.run.trace.now c.args.run.bytes (length a.held.now) same c.first_readings.new.held
    c.first_readings.ensures
