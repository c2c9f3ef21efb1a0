-- INNER: no reader needs this page to believe a public promise. Means of n naturals by their sum.
--   floor_mean      their mean rounded down; 0 where there are none
--   nearest_mean    how far above low their mean to the nearest is, where they are together s above n times low; 0 where
--                  there are none
use Rattle.std.specs.Prelude.{cond, ℕ, ◌+◌, ◌*◌, ◌-◌, ◌/◌, eqb}
use Rattle.round_laws.specs.Naturals.{mean_nat}

unfoldable pub floor_mean : ℕ → ℕ → ℕ
floor_mean n s = cond (eqb n 0) 0 (s / n)

unfoldable pub nearest_mean : ℕ → ℕ → ℕ → ℕ
nearest_mean n s low = cond (eqb n 0) 0 (mean_nat n (s + low * n) - low)
