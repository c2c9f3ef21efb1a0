-- The readings passed are struck out in their place, and summed.
use Rattle.rank_trimming.proofs.Ranking.{Dropping}
use Rattle.rank_trimming.proofs.sum_kept.Given as goal

abbrev pub invariant-readings : goal.invariant-readings
invariant-readings l = Dropping l.ranks l.numbers l.initial.marks l.m l.marks l.sum l.ends l.r
