-- The place is that of the lowest entry passed that is at fault.
use Rattle.std.proofs.Common.{◌≡◌, ◌-◌, ◌≤◌, length}
use Rattle.arithmetic.specs.Counting.{lowest}
use Rattle.missing_search.specs.Places.{place_of}
use Rattle.missing_search.proofs.Missing.{fault}
use Rattle.missing_search.proofs.lowest_place.Given as goal

abbrev pub invariant-entries : goal.invariant-entries
invariant-entries l = l.place ≡ place_of (lowest (fault l.marks l.readings) l.entry)
