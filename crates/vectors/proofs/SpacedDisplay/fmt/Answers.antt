-- One more item is written.
use Rattle.std.proofs.Common.{rules}
use Rattle.vectors.proofs.Written.{spaced_goes_on}
use Rattle.vectors.proofs.SpacedDisplay.fmt.Goals as goal

pub items-preserved : goal.items-preserved
items-preserved g c = λ plain.
    spaced_goes_on g.T.Display.output g.W.Write.write_str_gives c.args.self.now.0.now c.items.item-index c.item-item.result
    c.args.f.now c.items.f c.write.new.self c.write.result (search rules) (search rules) (search rules) (c.items.invariant plain) c.write.ensures.writes
