-- No mark passed is at fault.
use Rattle.std.proofs.Common.{◌≡◌, ◌-◌, ◌≤◌, length, ltb}
use Rattle.std.proofs.Math.Option.{none}
use Rattle.arithmetic.specs.Counting.{lowest}
use Rattle.model.specs.RoundSheet.{byte}
use Rattle.mark_checks.proofs.search_each.Given as goal

abbrev pub invariant-entries : goal.invariant-entries
invariant-entries l = lowest (λ i. ltb 1 (byte l.marks i)) l.e ≡ none
