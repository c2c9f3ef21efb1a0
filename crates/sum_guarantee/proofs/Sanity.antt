-- The theorem is not empty: it applies to the sheets of specs/Witnesses.antt, which settling grants.
-- Assumes nothing.
use lib.Dec.{lit≤}
use lib.IntN.{pos}
use Rattle.model.specs.Ensemble.{max_spread}
use Rattle.model.specs.RoundSheet.{size_bytes, sheet_bytes}
use Rattle.model.specs.AnswerSheet.{answer_length}
use Rattle.sum_guarantee.specs.Guarantee.{SumLimits}
use Rattle.sum_guarantee.specs.Witnesses.{buffer, far, half}
use Rattle.sum_guarantee.proofs.Computed.{sum-reached, halves-even}
use Rattle.sum_guarantee.proofs.Guarantee.{sum-guarantee}

pub far-limits : SumLimits far max_spread
unfolding sheet_bytes size_bytes
far-limits = sum-guarantee far max_spread (buffer 7) (answer_length 7) (lit≤ tt) sum-reached.grants

pub half-limits : SumLimits (half (pos 1)) 0
unfolding sheet_bytes size_bytes
half-limits = sum-guarantee (half (pos 1)) 0 (buffer 4) (answer_length 4) (lit≤ tt) halves-even.one.grants
