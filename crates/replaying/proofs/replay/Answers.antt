-- No trace has more rounds than a byte says.
use Rattle.std.proofs.Common.{◌∙◌, arith}
use Rattle.replaying.proofs.Replaying.{replay-all}
use Rattle.replaying.proofs.replay.Goals as goal

pub returns : goal.returns
returns c =
    let fits = (c.type_inv.trace 8).fits in
    c.replay_to.ensures ∙ replay-all c.args.trace.now c.args.values.now 255 (omega (arith, fits))
