-- No entry passed is at fault.
use Rattle.std.proofs.Common.{◌≡◌, ◌-◌, ◌≤◌, length}
use Rattle.std.proofs.Math.Option.{none}
use Rattle.arithmetic.specs.Counting.{lowest}
use Rattle.model.specs.RoundSheet.{byte, bits_in}
use Rattle.model.specs.Refusals.{not_zero}
use Rattle.writer_checks.proofs.check_missing.Given as goal

abbrev pub invariant-entries : goal.invariant-entries
invariant-entries l =
    lowest (λ i. not_zero (byte l.marks i) (bits_in l.readings i)) l.e ≡ none
