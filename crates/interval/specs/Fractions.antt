-- Document 02, "Paper 6. How long between rounds": the paper's two inequalities over exact fractions, as document 02
-- and section 4.1 of document 004 write them. The theorem `paper_inequalities` of proofs/Fractions.antt says that the
-- whole numbers of Interval.antt compare alike.
--   Fraction                    a whole number over a number, which is above 0 in every fraction that is compared
--   whole                       a whole number as a fraction
--   plus, minus, times, over    sum, difference, product; the quotient by a fraction above 0
--   at_most, IsPositive          the order; whether a fraction is above 0
--   drift_of                     ρ
--   paper_first, paper_second     the inequalities
--   paper_drift                  the first as the paper first writes it, "CONV(δ) + 2Rρ/(2-ρ) ≤ δ"
--   Quotients                   what they divide by is above 0, and so is each number below a line
--   Alike, PaperInequalities    the statement, of one R; of every R
use Rattle.std.specs.Prelude.{Bool, true, ◌≡◌, ℕ, ◌*◌, ◌≤◌, ◌<◌, ℤ, pos, nat_abs, ◌+ℤ◌, ◌-ℤ◌, ◌*ℤ◌}
use Rattle.std.specs.Int.Signed.{le_z, lt_z}
use Rattle.interval.specs.Interval.{max_drift, stays_within, starts_within}

pub record Fraction : Type 0 where
  pub top : ℤ
  pub bottom : ℕ

unfoldable pub whole : ℕ → Fraction
whole n = record { top = pos n; bottom = 1 }

unfoldable pub plus : Fraction → Fraction → Fraction
plus a b =
    record {
      top = a.top *ℤ pos b.bottom +ℤ b.top *ℤ pos a.bottom;
      bottom = a.bottom * b.bottom;
    }

unfoldable pub minus : Fraction → Fraction → Fraction
minus a b =
    record {
      top = a.top *ℤ pos b.bottom -ℤ b.top *ℤ pos a.bottom;
      bottom = a.bottom * b.bottom;
    }

unfoldable pub times : Fraction → Fraction → Fraction
times a b = record { top = a.top *ℤ b.top; bottom = a.bottom * b.bottom }

-- a / b, where b is above 0
unfoldable pub over : Fraction → Fraction → Fraction
over a b = record { top = a.top *ℤ pos b.bottom; bottom = a.bottom * nat_abs b.top }

-- a ≤ b
unfoldable pub at_most : Fraction → Fraction → Bool
at_most a b = le_z (a.top *ℤ pos b.bottom) (b.top *ℤ pos a.bottom)

abbrev pub IsPositive : Fraction → Type 0
IsPositive a = (lt_z (pos 0) a.top ≡ true) × (0 < a.bottom)

-- "drift ρ of 1 to 1,000 parts per million"
unfoldable pub drift_of : ℕ → Fraction
drift_of r = record { top = pos r; bottom = 1_000_000 }

abbrev pub two : Fraction
two = whole 2

-- (δ-c)(2-ρ)/(2ρ)
unfoldable pub longest : ℕ → ℕ → ℕ → Fraction
longest δ c r =
    over (times (minus (whole δ) (whole c)) (minus two (drift_of r))) (times two (drift_of r))

-- 2(R+c)/(2-ρ) - 2R/(2+ρ)
unfoldable pub behind : ℕ → ℕ → ℕ → Fraction
behind c r R =
    minus
    (over (times two (plus (whole R) (whole c))) (minus two (drift_of r)))
    (over (times two (whole R)) (plus two (drift_of r)))

-- c + 2Rρ/(2-ρ)
unfoldable pub apart : ℕ → ℕ → ℕ → Fraction
apart c r R = plus (whole c) (over (times (times two (whole R)) (drift_of r)) (minus two (drift_of r)))

-- "R ≤ (δ-c)(2-ρ)/(2ρ)"
abbrev pub paper_first : ℕ → ℕ → ℕ → ℕ → Bool
paper_first δ c r R = at_most (whole R) (longest δ c r)

-- "R ≥ 2(R+c)/(2-ρ) - 2R/(2+ρ)"
abbrev pub paper_second : ℕ → ℕ → ℕ → Bool
paper_second c r R = at_most (behind c r R) (whole R)

abbrev pub paper_drift : ℕ → ℕ → ℕ → ℕ → Bool
paper_drift δ c r R = at_most (apart c r R) (whole δ)

pub record Quotients (δ c r R : ℕ) : Type 0 where
  pub twice_drift : IsPositive (times two (drift_of r))
  pub slowest : IsPositive (minus two (drift_of r))
  pub fastest : IsPositive (plus two (drift_of r))
  pub longest_bottom : 0 < (longest δ c r).bottom
  pub behind_bottom : 0 < (behind c r R).bottom
  pub apart_bottom : 0 < (apart c r R).bottom

pub record Alike (δ c r R : ℕ) : Type 0 where
  pub quotients : Quotients δ c r R
  pub first : paper_first δ c r R ≡ stays_within δ c r R
  pub second : paper_second c r R ≡ starts_within c r R
  pub drifting : paper_drift δ c r R ≡ stays_within δ c r R

-- of all windows, precisions and intervals, and every drift in its range
abbrev pub PaperInequalities : Type 0
PaperInequalities = (δ c r R : ℕ) → 1 ≤ r → r ≤ max_drift → Alike δ c r R
