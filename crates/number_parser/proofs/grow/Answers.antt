-- By the kind of the character, and whether the number stays in 32 bits.
use Rattle.std.proofs.Common.{arith}
use Rattle.number_parser.proofs.Numbers.{none_other, none_past, grown-some}
use Rattle.number_parser.proofs.grow.Goals as goal

pub returns-then-not-is_ascii_digit : goal.returns-then-not-is_ascii_digit
returns-then-not-is_ascii_digit c = none_other c.args.value c.args.digit (omega arith) c.if-not-is_ascii_digit.ensures.cases

pub returns-in_err-checked_mul : goal.returns-in_err-checked_mul
returns-in_err-checked_mul c =
    let a = c.args in
    let digit = c.if-not-is_ascii_digit.ensures.cases in
    rw c.from_residual.ensures (none_past a.value a.digit (omega arith) digit (omega (arith, c.in_err-checked_mul.ensures)))

pub returns : goal.returns
returns c =
    let a = c.args in
    let digit = c.if-not-is_ascii_digit.ensures.cases in
    grown-some a.value a.digit (omega arith) digit c.in_ok-checked_mul.field-0 c.in_ok-checked_mul.ensures.1 c.checked_add.result c.checked_add.ensures
