-- Document 02, "Paper 6. How long between rounds" (docs/FORMAT.md, 15): "the resynchronising interval of document 004,
-- section 4.1", from the window δ, the precision c and the drift ρ, which is r / 1,000,000. "Both are compared over
-- whole numbers, without loss"; Fractions.antt has the paper's fractions, and the theorem that they are the same.
--   max_precision, max_drift    "precision c (0 to 1,000,000) and drift ρ of 1 to 1,000 parts per million"
--   stays_within               the first inequality: in R the clocks drift no farther apart than the window
--   starts_within              the second: the slowest clock, c behind, comes to its next round at most R after another
--   meets                     "whole R of at least 1 tick meeting both"
--   searched                  R is searched for below this; for inputs in their ranges no R from here on meets both, as
--                             Guarantee.antt says
--   out_of_range, bad_interval   check 17
--   no_interval                check 18
--   interval_checks            both, in their order
--   Interval, interval        the least and the greatest R; what the call gives
use Rattle.std.specs.Prelude.{Bool, not, ◌&&◌, ◌||◌, List, [], ◌∷◌, ℕ, ◌+◌, ◌*◌, leb, ltb, pos, ◌-ℤ◌, ◌*ℤ◌}
use Rattle.std.proofs.Math.Option.{Option, none, some}
use Rattle.std.specs.Int.Signed.{le_z}
use Rattle.arithmetic.specs.Counting.{any_below, lowest, highest}
use Rattle.model.specs.Ensemble.{max_window}
use Rattle.model.specs.Refusals.{Check, refuse_if, first_of, bad_interval_number, no_interval_number}
use Rattle.model.specs.Calls.{Verdict, verdict}

abbrev pub max_precision : ℕ
max_precision = 1_000_000

abbrev pub max_drift : ℕ
max_drift = 1_000

-- "R ≤ (δ-c)(2-ρ)/(2ρ)": 2rR ≤ (δ-c)(2,000,000-r)
unfoldable pub stays_within : ℕ → ℕ → ℕ → ℕ → Bool
stays_within δ c r R = le_z (pos (2 * r * R)) ((pos δ -ℤ pos c) *ℤ (pos 2_000_000 -ℤ pos r))

-- "R ≥ 2(R+c)/(2-ρ) - 2R/(2+ρ)": R(4·10^12 - 4·10^6·r - r²) ≥ 2c(2,000,000+r)·10^6
unfoldable pub starts_within : ℕ → ℕ → ℕ → Bool
starts_within c r R =
    le_z
    (pos (2 * c * (2_000_000 + r) * 1_000_000))
    (pos R *ℤ (pos 4_000_000_000_000 -ℤ pos (4_000_000 * r) -ℤ pos (r * r)))

unfoldable pub meets : ℕ → ℕ → ℕ → ℕ → Bool
meets δ c r R = leb 1 R && (stays_within δ c r R && starts_within c r R)

unfoldable pub searched : ℕ
searched = 1_000_000_000_000

-- 17: "an input outside its range, first"
unfoldable pub out_of_range : ℕ → ℕ → ℕ → Bool
out_of_range δ c r = ltb max_window δ || (ltb max_precision c || (ltb r 1 || ltb max_drift r))

unfoldable pub bad_interval : ℕ → ℕ → ℕ → Check
bad_interval δ c r = refuse_if (out_of_range δ c r) bad_interval_number

-- 18: "no whole R of at least 1 meets both, last"
unfoldable pub no_interval : ℕ → ℕ → ℕ → Check
no_interval δ c r = refuse_if (not (any_below (meets δ c r) searched)) no_interval_number

unfoldable pub interval_checks : ℕ → ℕ → ℕ → List Check
interval_checks δ c r = bad_interval δ c r ∷ no_interval δ c r ∷ []

pub record Interval : Type 0 where
  pub least : ℕ
  pub greatest : ℕ

-- what a search found, where it found something
abbrev pub found : Option ℕ → ℕ
found (some R) = R
found none = 0

-- "give the least and greatest whole R of at least 1 tick meeting both of the paper's inequalities"
unfoldable pub interval : ℕ → ℕ → ℕ → Verdict Interval
interval δ c r =
    verdict
    (first_of (interval_checks δ c r))
    (record {
      least = found (lowest (meets δ c r) searched);
      greatest = found (highest (meets δ c r) searched);
    })
