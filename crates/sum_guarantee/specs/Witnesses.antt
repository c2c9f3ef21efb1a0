-- Sheets to which Guarantee.antt applies. What they settle to is computed from their bytes; the theorems are in
-- proofs/Computed.antt. The first has the greatest sum of distances that its settings allow, N+m-1 times the span,
-- which is more than N times the span: so that is no limit. Document 02's, 2N times the span, is never reached: N+m-1
-- is less than two thirds of 2N, since N is above 3m. The others have a half to round.
--
--   sheet_of       a sheet by FCA with midpoint, all readings present
--   buffer        an answer buffer of just the answer's length, full of 255s
--   far           N 7, m 2, the widest window: cabinet 2 reads 0, four are a span above it, two a span above these
--   SumReached    it is granted with the widest spread, its used values and their sum reach the limits, and the new
--                 value is that of the sum
--   half          N 4, m 1, the window 1: two readings of a number and two of the next
--   HalfAt        it is granted, and its half goes to a number
--   HalvesEven    that is the even neighbour, above zero and below
use Rattle.std.specs.Prelude.{List, [], ◌∷◌, ◌≡◌, ℕ, ◌+◌, ◌*◌, ◌≤◌, ◌<◌, ℤ, pos, negsuc, ◌+ℤ◌, length, replicate}
use Rattle.arithmetic.specs.Counting.{sum}
use Rattle.model.specs.Ensemble.{max_window, max_spread}
use Rattle.model.specs.RoundSheet.{fca, midpoint, sheet_bytes}
use Rattle.model.specs.AnswerSheet.{answer_length}
use Rattle.model.specs.Steps.{round_at}
use Rattle.model.specs.Calls.{granted, settle_spread}
use Rattle.model.specs.Cases.{settings}
use Rattle.sum_guarantee.specs.Guarantee.{width, distance, rounded, apart_limit, sum_limit, widest_sum, close_limit}

abbrev pub sheet_of : ℕ → ℕ → List ℤ → List ℕ
sheet_of m δ values = sheet_bytes (settings (length values) m fca midpoint δ) (replicate (length values) 1) values

abbrev pub buffer : ℕ → List ℕ
buffer n = replicate (answer_length n) 255

-- ---- the greatest sum

abbrev pub far : List ℕ
far =
    let w = max_window + max_spread in
    sheet_of 2 max_window (pos w ∷ pos (2 * w) ∷ pos 0 ∷ pos w ∷ pos w ∷ pos (2 * w) ∷ pos w ∷ [])

pub record SumReached : Type 0 where
  pub grants : (settle_spread far max_spread (buffer 7)).verdict ≡ granted (answer_length 7)
  pub farthest : distance far max_spread (pos 0) 1 ≡ pos (apart_limit far max_spread)
  pub summed : sum (distance far max_spread (pos 0)) 7 ≡ pos (close_limit far max_spread)
  pub most : close_limit far max_spread ≡ 8_800_000
  pub asked : close_limit far max_spread ≤ sum_limit far max_spread
  pub allowed : widest_sum ≡ 140_800_000
  -- N times the span is no limit
  pub passes : 7 * width far max_spread < close_limit far max_spread
  pub value : (round_at far max_spread).value ≡ rounded 7 (close_limit far max_spread) (pos 0)

-- ---- halves

abbrev pub half : ℤ → List ℕ
half low = sheet_of 1 1 (low ∷ low ∷ (low +ℤ pos 1) ∷ (low +ℤ pos 1) ∷ [])

pub record HalfAt (low new : ℤ) : Type 0 where
  pub grants : (settle_spread (half low) 0 (buffer 4)).verdict ≡ granted (answer_length 4)
  pub summed : sum (distance (half low) 0 low) 4 ≡ pos 2
  pub value : (round_at (half low) 0).value ≡ rounded 4 2 low
  pub goes : rounded 4 2 low ≡ new

-- the quotient's whole part is 0, even, at each of them; the new value is even
pub record HalvesEven : Type 0 where
  pub zero : HalfAt (pos 0) (pos 0)
  pub one : HalfAt (pos 1) (pos 2)
  pub below_zero : HalfAt (negsuc 0) (pos 0)
  pub below : HalfAt (negsuc 1) (negsuc 1)
