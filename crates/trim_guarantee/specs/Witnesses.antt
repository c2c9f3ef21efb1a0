-- Sheets that reach the limits of Guarantee.antt, so that none can be a tick tighter for every δ and every number of
-- faulty cabinets. (For some δ a tick less is true: docs/FORMAT.md, 14.) What they settle to is computed from their
-- bytes. The theorems are in proofs/Computed.antt.
--
--   trimmed, five, seven     N 4, m 1; N 5, m 1; and N 7, m 2 by a rule, with a window
--   cabinet            a cabinet that read these numbers, its answer buffer just long enough and full of 255s
--   Met                what is asked of two cabinets holds, the last of all being faulty
--   MidpointReached    rule 2: two cabinets ⌊δ/2⌋ + 1 apart
--   MeanReached        rule 3: two cabinets ⌊tδ/(N-2m)⌋ + 1 apart, where the quotient is not whole
--   TwoFaultyReached   the same with two faulty
--   HalvesReached      the same where the quotient is whole, the means being halves
--   RangeReached       either end of the sound readings' range
use Rattle.std.specs.Prelude.{List, [], ◌∷◌, map, ◌≡◌, ℕ, ℤ, pos, negsuc, length, replicate}
use Rattle.model.specs.declared.Settings.{Settings}
use Rattle.model.specs.RoundSheet.{trimmed_midpoint, trimmed_mean, average, sheet_bytes}
use Rattle.model.specs.AnswerSheet.{answer_length}
use Rattle.model.specs.Cases.{settings}
use Rattle.run.specs.Rounds.{below}
use Rattle.demand_3.specs.Guarantee.{apart}
use Rattle.spread_guarantee.specs.Guarantee.{Cabinet, new_value, bad}
use Rattle.trim_guarantee.specs.Guarantee.{Reads, Alike, midpoint_gap, mean_gap, odd_mean_gap}

-- ---- The sheets

abbrev pub trimmed : ℕ → ℕ → Settings
trimmed rule δ = settings 4 1 rule average δ

abbrev pub five : ℕ → ℕ → Settings
five rule δ = settings 5 1 rule average δ

abbrev pub seven : ℕ → ℕ → Settings
seven rule δ = settings 7 2 rule average δ

-- all readings are present
abbrev pub cabinet : Settings → List ℤ → Cabinet
cabinet c readings =
    record {
      sheet = sheet_bytes c (map (λ _. 1) readings) readings;
      buffer = replicate (answer_length (length readings)) 255;
    }

-- all but the last t of N cabinets are sound, and the sound readings lie within the window
pub record Met (c : Settings) (sounds t : ℕ) (p q : Cabinet) : Type 0 where
  pub counts : bad c (below sounds) ≡ t
  pub reads_low : Reads c c.window (below sounds) p
  pub reads_high : Reads c c.window (below sounds) q
  pub alike : Alike c (below sounds) p q

-- ---- Rule 2: 0, 1, 2 and a liar at -50 or at 50 leave 0, 1 and 1, 2, whose halves 1/2 and 3/2 go to 0 and 2

abbrev pub low : ℕ → Cabinet
low rule = cabinet (trimmed rule 2) (pos 0 ∷ pos 1 ∷ pos 2 ∷ negsuc 49 ∷ [])

abbrev pub high : ℕ → Cabinet
high rule = cabinet (trimmed rule 2) (pos 0 ∷ pos 1 ∷ pos 2 ∷ pos 50 ∷ [])

pub record MidpointReached : Type 0 where
  pub met : Met (trimmed trimmed_midpoint 2) 3 1 (low trimmed_midpoint) (high trimmed_midpoint)
  pub low_value : new_value 0 (low trimmed_midpoint) ≡ pos 0
  pub high_value : new_value 0 (high trimmed_midpoint) ≡ pos 2
  pub widest : apart (new_value 0 (low trimmed_midpoint)) (new_value 0 (high trimmed_midpoint)) ≡ midpoint_gap 2

-- ---- Rule 3, where N-2m is even: the same two

pub record HalvesReached : Type 0 where
  pub met : Met (trimmed trimmed_mean 2) 3 1 (low trimmed_mean) (high trimmed_mean)
  pub widest :
      apart (new_value 0 (low trimmed_mean)) (new_value 0 (high trimmed_mean)) ≡ mean_gap (trimmed trimmed_mean 2) 2 1

-- ---- Rule 3: 0, 0, 1, 4 and a liar leave 0, 0, 1 and 0, 1, 4, whose means 1/3 and 5/3 go to 0 and 2

abbrev pub five_low : Cabinet
five_low = cabinet (five trimmed_mean 4) (pos 0 ∷ pos 0 ∷ pos 1 ∷ pos 4 ∷ negsuc 49 ∷ [])

abbrev pub five_high : Cabinet
five_high = cabinet (five trimmed_mean 4) (pos 0 ∷ pos 0 ∷ pos 1 ∷ pos 4 ∷ pos 50 ∷ [])

pub record MeanReached : Type 0 where
  pub met : Met (five trimmed_mean 4) 4 1 five_low five_high
  pub low_value : new_value 0 five_low ≡ pos 0
  pub high_value : new_value 0 five_high ≡ pos 2
  pub widest : apart (new_value 0 five_low) (new_value 0 five_high) ≡ mean_gap (five trimmed_mean 4) 4 1
  pub odd_widest : apart (new_value 0 five_low) (new_value 0 five_high) ≡ odd_mean_gap (five trimmed_mean 4) 4 1

-- ---- Rule 3 with two faulty: 0, 0, 1, 5, 5 and two liars leave 0, 0, 1 and 1, 5, 5, whose means 1/3 and 11/3 go to 0
-- and 4

abbrev pub seven_low : Cabinet
seven_low = cabinet (seven trimmed_mean 5) (pos 0 ∷ pos 0 ∷ pos 1 ∷ pos 5 ∷ pos 5 ∷ negsuc 49 ∷ negsuc 49 ∷ [])

abbrev pub seven_high : Cabinet
seven_high = cabinet (seven trimmed_mean 5) (pos 0 ∷ pos 0 ∷ pos 1 ∷ pos 5 ∷ pos 5 ∷ pos 50 ∷ pos 50 ∷ [])

pub record TwoFaultyReached : Type 0 where
  pub met : Met (seven trimmed_mean 5) 5 2 seven_low seven_high
  pub low_value : new_value 0 seven_low ≡ pos 0
  pub high_value : new_value 0 seven_high ≡ pos 4
  pub widest : apart (new_value 0 seven_low) (new_value 0 seven_high) ≡ mean_gap (seven trimmed_mean 5) 5 2
  pub odd_widest : apart (new_value 0 seven_low) (new_value 0 seven_high) ≡ odd_mean_gap (seven trimmed_mean 5) 5 2

-- ---- The range: 0, 0, 7 with a liar at -50 give 0, and 0, 7, 7 with one at 50 give 7, by either rule

abbrev pub bottom : ℕ → Cabinet
bottom rule = cabinet (trimmed rule 7) (pos 0 ∷ pos 0 ∷ pos 7 ∷ negsuc 49 ∷ [])

abbrev pub top : ℕ → Cabinet
top rule = cabinet (trimmed rule 7) (pos 0 ∷ pos 7 ∷ pos 7 ∷ pos 50 ∷ [])

pub record EndsReached (rule : ℕ) : Type 0 where
  pub counts : bad (trimmed rule 7) (below 3) ≡ 1
  pub reads_bottom : Reads (trimmed rule 7) 7 (below 3) (bottom rule)
  pub reads_top : Reads (trimmed rule 7) 7 (below 3) (top rule)
  pub lowest : new_value 0 (bottom rule) ≡ pos 0
  pub highest : new_value 0 (top rule) ≡ pos 7

pub record RangeReached : Type 0 where
  pub by_midpoint : EndsReached trimmed_midpoint
  pub by_mean : EndsReached trimmed_mean
