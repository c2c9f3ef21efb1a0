-- The quotient and the rest say whether there are four bytes for each mark.
use Rattle.std.proofs.Common.{Bool, ltb, ◌||◌, ap}
use Rattle.sheet_sizes.specs.Bounds.{most_entries}
use Rattle.missing_search.proofs.Fitting.{fit-test}
use Rattle.missing_search.proofs.misfit.Goals as goal

pub returns : goal.returns
returns c = ap (λ (b : Bool). ltb most_entries c.args.marks || b) (fit-test c.args.marks c.args.readings)
