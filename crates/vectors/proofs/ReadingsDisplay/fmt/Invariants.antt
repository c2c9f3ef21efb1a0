-- What was written so far.
use Rattle.std.proofs.Common.{take}
use Rattle.std.specs.Fmt.{HasWritten, IsPlainFormatter}
use Rattle.vectors.specs.Texts.{readings_text}
use Rattle.vectors.proofs.ReadingsDisplay.fmt.Given as goal

abbrev pub invariant-readings : goal.invariant-readings
invariant-readings g l =
    IsPlainFormatter l.fn.f → HasWritten g.W.Write.write_str_gives l.fn.f (readings_text (take l.reading-index l.reading-items)) l.f
