-- A character more is passed; at the end all of them were; and where there is no number so far, there is none.
use Rattle.std.proofs.Common.{arith}
use Rattle.number_parser.proofs.Numbers.{numeral-empty, number_none, number_on, numeral-stops, numeral-some}
use Rattle.number_parser.proofs.number_in.Goals as goal

pub returns-then-is_empty : goal.returns-then-is_empty
returns-then-is_empty c = numeral-empty c.args.text.now c.if-is_empty.ensures

pub digits-init : goal.digits-init
digits-init c = number_none c.args.text.now

pub returns-in_err-value : goal.returns-in_err-value
returns-in_err-value c = rw c.from_residual.ensures (numeral-stops c.args.text.now c.digits.invariant (omega arith) (c.in_err-value.ensures))

pub digits-preserved : goal.digits-preserved
digits-preserved c = number_on c.args.text.now c.digits.invariant c.digits-test.true (c.in_ok-value.ensures)

pub returns : goal.returns
returns c = numeral-some c.args.text.now c.digits.invariant c.if-is_empty.ensures (omega arith)
