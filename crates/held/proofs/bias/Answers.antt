-- An addition of 2^31 that wraps moves a reading up.
use Rattle.std.proofs.Common.{◌+◌, ◌%◌, sym, ap, ◌∙◌, arith}
use Rattle.arithmetic.specs.Words.{two_to31, two_to32}
use Rattle.arithmetic.specs.Naturals.{up}
use Rattle.arithmetic.proofs.Shift.{up-down}
use Rattle.held.proofs.Biasing.{wrapped_up}
use Rattle.held.proofs.bias.Goals as goal

pub returns : goal.returns
returns c =
    let x = c.args.bits in
    sym (ap (up two_to31) (wrapped_up x (omega arith)) ∙ up-down two_to31 ((x + two_to31) % two_to32))
