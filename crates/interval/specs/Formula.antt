-- INNER: no reader needs this page to believe a public promise. How the code finds the least and the greatest R. The
-- laws of proofs/Formula.antt and proofs/Guarantee.antt say that these are the interval of Interval.antt.
--   coefficient    what R is multiplied by in the second inequality, which is above 0 for a drift in its range
--   needed         what that product must reach
--   least_by        the quotient rounded up, and 1 where that is 0
--   greatest_by     the quotient rounded down; 0 where the window is not wider than the precision
use Rattle.std.specs.Prelude.{cond, ℕ, ◌+◌, ◌*◌, ◌-◌, ◌/◌, eqb}
use Rattle.model.specs.Planner.{ceil_div}

unfoldable pub coefficient : ℕ → ℕ
coefficient r = 4_000_000_000_000 - 4_000_000 * r - r * r

unfoldable pub needed : ℕ → ℕ → ℕ
needed c r = 2 * c * (2_000_000 + r) * 1_000_000

unfoldable pub least_by : ℕ → ℕ → ℕ
least_by c r = cond (eqb c 0) 1 (ceil_div (needed c r) (coefficient r))

unfoldable pub greatest_by : ℕ → ℕ → ℕ → ℕ
greatest_by δ c r = (δ - c) * (2_000_000 - r) / (2 * r)
