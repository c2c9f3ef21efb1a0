-- What was written so far, where the text of each item is known.
use Rattle.std.proofs.Common.{IfSome, take}
use Rattle.std.specs.Fmt.{HasWritten, IsPlainFormatter}
use Rattle.vectors.specs.Texts.{spaced_text}
use Rattle.vectors.proofs.SpacedDisplay.fmt.Given as goal

abbrev pub invariant-items : goal.invariant-items
invariant-items g l =
    IsPlainFormatter l.fn.f → IfSome (spaced_text g.T.Display.output (take l.item-index l.item-items)) (λ text. HasWritten g.W.Write.write_str_gives l.fn.f text l.f)
