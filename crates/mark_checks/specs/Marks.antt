-- Check 8 of a list of marks.
--   marks_in    the check; more marks than a sheet can have pass
--   surveyed   the first n marks as one number, the bits in which one of them differs from 1: it is 0 where each is 1,
--              and at most 1 where each is 0 or 1
use Rattle.std.specs.Prelude.{cond, List, ℕ, zero, suc, ltb, length}
use Rattle.std.proofs.Math.Option.{none}
use Rattle.std.specs.Int.Bits.{bit_or, bit_xor}
use Rattle.model.specs.RoundSheet.{byte}
use Rattle.model.specs.Refusals.{Check, bad_mark}
use Rattle.sheet_sizes.specs.Bounds.{most_entries}

unfoldable pub marks_in : List ℕ → Check
marks_in marks = cond (ltb most_entries (length marks)) none (bad_mark (byte marks) (length marks))

unfoldable pub surveyed : List ℕ → ℕ → ℕ
surveyed marks zero = 0
surveyed marks (suc n) = bit_or (surveyed marks n) (bit_xor (byte marks n) 1)
