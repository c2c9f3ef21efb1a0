-- The numbers passed are ranked, and what was seen of them is kept.
use Rattle.ranks.proofs.Seeing.{Ranking}
use Rattle.ranks.proofs.rank_each.Given as goal

abbrev pub invariant-numbers : goal.invariant-numbers
invariant-numbers l = Ranking l.values l.initial.ranks l.seen l.ranks l.r
