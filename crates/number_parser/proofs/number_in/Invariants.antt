-- The value is the number of the characters passed, one of 32 bits.
use Rattle.number_parser.proofs.Numbers.{Number}
use Rattle.number_parser.proofs.number_in.Given as goal

abbrev pub invariant-digits : goal.invariant-digits
invariant-digits l = Number l.text l.value l.digit-index
