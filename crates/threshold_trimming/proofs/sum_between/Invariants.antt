-- The numbers passed are summed.
use Rattle.std.proofs.Common.{length, ◌-◌}
use Rattle.arithmetic.specs.Words.{two_to32}
use Rattle.dropping.proofs.Loops.{Summing}
use Rattle.threshold_trimming.proofs.Totals.{taken_of}
use Rattle.threshold_trimming.proofs.sum_between.Given as goal

abbrev pub invariant-numbers : goal.invariant-numbers
invariant-numbers l = Summing (taken_of l.numbers l.low l.high) (two_to32 - 1) (length l.numbers) l.sum l.number-index
