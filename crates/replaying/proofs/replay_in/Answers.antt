-- Where playing grants, the values of the recorded run are written.
use Rattle.std.proofs.Common.{sym, ap, ◌∙◌, length}
use Rattle.model.specs.Calls.{granted}
use Rattle.playing.specs.Playing.{played_given}
use Rattle.replaying.proofs.Replaying.{own, replay-granted}
use Rattle.replaying.proofs.replay_in.Goals as goal

pub returns : goal.returns
returns c =
    let a = c.args in
    let settings = c.in_ok-settings.settings in
    let grants =
    c.in_ok-settings.ensures.result_value ∙ ap (played_given a.trace.now a.most (length a.values.now)) c.requires in
    let same = own a.trace.now a.most a.values.now settings grants in
    replay-granted a.trace.now a.most a.values.now settings grants c.roles-roles.result.now
    c.roles-roles.ensures
    c.play.new.held
    (c.play.auto.held ∙ c.requires)
    (c.in_ok-settings.ensures.held_to (ap granted (sym same)))
    c.put_values.result
    c.put_values.new.values
    c.put_values.ensures.value
    c.put_values.ensures.values_after
