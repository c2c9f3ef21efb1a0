-- Sheets that reach the limits of Guarantee.antt, so that neither can be a tick tighter for every window and spread,
-- and that pass the paper's: the counterexample of document 02, "Paper 2. Cable runs differ". What they settle to is
-- computed from their bytes. The theorems are in proofs/Computed.antt.
--
--   wired              N 4, m 1, FCA with median, and a window
--   cabinet            a cabinet that read four numbers, its answer buffer just long enough and full of 255s
--   low, high          "readings at one cabinet all 0, at another all D, and a liar at each end"
--   paper_parts, paper_gap     N times the last line of the paper's proof of Theorem 17; that line, rounded up
--   Hull               the hull of what the two accept is 2δ + 3D, above the 2(δ + D) of the paper's Lemma 16
--   Met, Reached       what is asked of the two holds; both limits are reached, and the paper's is passed
--   SpreadReached      so with δ 1 and D 2
--   WholeReached       so with δ 2 and D 4, where the quotient is whole and the means are halves
--   fifth, five, five_low, five_high     a cabinet that read five numbers, N 5, m 1, and a window of 4
--   OddSpreadReached   the limit for an odd N and that of the accuracy are reached, with D 1
use Rattle.std.specs.Prelude.{true, List, [], ◌∷◌, ◌≡◌, ℕ, ◌+◌, ◌*◌, ◌-◌, ◌<◌, ℤ, pos, negsuc, ◌-ℤ◌, replicate}
use Rattle.model.specs.declared.Settings.{Settings}
use Rattle.model.specs.Ensemble.{ticks}
use Rattle.model.specs.RoundSheet.{fca, median, sheet_bytes}
use Rattle.model.specs.AnswerSheet.{answer_length}
use Rattle.model.specs.Steps.{accepted_at}
use Rattle.model.specs.Planner.{ceil_div, past_div}
use Rattle.model.specs.Cases.{settings}
use Rattle.run.specs.Rounds.{below}
use Rattle.demand_3.specs.Guarantee.{apart}
use Rattle.spread_guarantee.specs.Guarantee.{Cabinet, reading, new_value, bad, Reads, Alike}
use Rattle.spread_guarantee.specs.Guarantee.{spread_gap, spread_error, odd_spread_gap}

-- ---- The sheets

abbrev pub wired : ℕ → Settings
wired δ = settings 4 1 fca median δ

abbrev pub cabinet : ℕ → List ℤ → Cabinet
cabinet δ readings =
    record {
      sheet = sheet_bytes (wired δ) (1 ∷ 1 ∷ 1 ∷ 1 ∷ []) readings;
      buffer = replicate (answer_length 4) 255;
    }

-- cabinets 0 to 2 are good. One cabinet reads 0 of each, and -(δ + D) of the liar
abbrev pub low : ℕ → ℕ → Cabinet
low δ D = cabinet δ (pos 0 ∷ pos 0 ∷ pos 0 ∷ (pos 0 -ℤ pos (δ + D)) ∷ [])

-- the other reads D of each, and D + δ + D of the liar
abbrev pub high : ℕ → ℕ → Cabinet
high δ D = cabinet δ (pos D ∷ pos D ∷ pos D ∷ pos (D + (δ + D)) ∷ [])

-- ---- The paper's Lemma 16: "width(intvl(A_p ∪ A_q)) ≤ 2(δ+D)"

-- the reading of the liar, cabinet 3, is accepted at either end
pub record Hull (δ D : ℕ) : Type 0 where
  pub low_accepted : accepted_at (wired δ) D (reading (low δ D)) 3 ≡ true
  pub high_accepted : accepted_at (wired δ) D (reading (high δ D)) 3 ≡ true
  pub width : apart (ticks (reading (low δ D) 3)) (ticks (reading (high δ D) 3)) ≡ 2 * δ + 3 * D
  pub above : 2 * (δ + D) < 2 * δ + 3 * D

-- ---- The limits

-- (N-t)D + 2t(δ+D)
abbrev pub paper_parts : Settings → ℕ → ℕ → ℕ
paper_parts c D t = (c.n - t) * D + 2 * t * (c.window + D)

-- that over N, rounded up
abbrev pub paper_gap : Settings → ℕ → ℕ → ℕ
paper_gap c D t = ceil_div (paper_parts c D t) c.n

-- the true value is 0, κ is D, and the two are asked nothing that they do not meet
pub record Met (δ D : ℕ) : Type 0 where
  pub counts : bad (wired δ) (below 3) ≡ 1
  pub reads_low : Reads (wired δ) D D (pos 0) (below 3) (low δ D)
  pub reads_high : Reads (wired δ) D D (pos 0) (below 3) (high δ D)
  pub alike : Alike (wired δ) D (below 3) (low δ D) (high δ D)

-- the two limits are reached, and the paper's is passed
pub record Reached (δ D : ℕ) (lowest highest : ℤ) : Type 0 where
  pub met : Met δ D
  pub low_value : new_value D (low δ D) ≡ lowest
  pub high_value : new_value D (high δ D) ≡ highest
  pub widest : apart (new_value D (low δ D)) (new_value D (high δ D)) ≡ spread_gap (wired δ) D 1
  pub farthest : apart (new_value D (high δ D)) (pos 0) ≡ spread_error (wired δ) D D 1
  pub paper_passed : paper_gap (wired δ) D 1 < apart (new_value D (low δ D)) (new_value D (high δ D))

-- readings 0, 0, 0, -3 and 2, 2, 2, 5 give -1 and 3: 4 apart, where the paper has 12/4 = 3
abbrev pub SpreadReached : Type 0
SpreadReached = Reached 1 2 (negsuc 0) (pos 3)

-- readings 0, 0, 0, -6 and 4, 4, 4, 10 give -2 and 6, from -1 1/2 and 5 1/2: 8 apart, the limit being 28/4 plus one.
-- The paper has 24/4, and 24/4 plus one is passed too
pub record WholeReached : Type 0 where
  pub reached : Reached 2 4 (negsuc 1) (pos 6)
  pub past_passed :
      past_div (paper_parts (wired 2) 4 1) (wired 2).n < apart (new_value 4 (low 2 4)) (new_value 4 (high 2 4))

-- ---- An odd N

abbrev pub fifth : Settings
fifth = settings 5 1 fca median 4

abbrev pub five : List ℤ → Cabinet
five readings =
    record {
      sheet = sheet_bytes fifth (1 ∷ 1 ∷ 1 ∷ 1 ∷ 1 ∷ []) readings;
      buffer = replicate (answer_length 5) 255;
    }

abbrev pub five_low : Cabinet
five_low = five (pos 0 ∷ pos 0 ∷ pos 0 ∷ pos 0 ∷ negsuc 4 ∷ [])

abbrev pub five_high : Cabinet
five_high = five (pos 1 ∷ pos 1 ∷ pos 1 ∷ pos 1 ∷ pos 6 ∷ [])

-- readings 0, 0, 0, 0, -5 and 1, 1, 1, 1, 6 give -1 and 2: 3 apart, which is ⌈15/5⌉, one less than the limit for any N
pub record OddSpreadReached : Type 0 where
  pub counts : bad fifth (below 4) ≡ 1
  pub reads_low : Reads fifth 1 1 (pos 0) (below 4) five_low
  pub reads_high : Reads fifth 1 1 (pos 0) (below 4) five_high
  pub alike : Alike fifth 1 (below 4) five_low five_high
  pub widest : apart (new_value 1 five_low) (new_value 1 five_high) ≡ odd_spread_gap fifth 1 1
  pub wider : spread_gap fifth 1 1 ≡ 4
  -- 2: what the round adds to the accuracy is a whole number here, with nothing more
  pub farthest : apart (new_value 1 five_high) (pos 0) ≡ spread_error fifth 1 1 1
