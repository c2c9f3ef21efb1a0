-- Laws of the quotient rounded up, and of the whole part plus one.
-- Assumes nothing.
use mathlib.Core.Path.{◌≡◌}
use Prim.Native.Nat.{ℕ, suc, ◌+◌, ◌*◌, ◌-◌, ◌/◌, ◌≤◌, ◌<◌}
use native.Mathlib.Nat.{div-lt_iff_lt-mul, lt-div-mul-add, suc-mul, add-mul, one-mul, add-mul-div_right}
use native.Mathlib.Omega.{arith}
use Rattle.model.specs.Planner.{ceil_div, past_div}

module _ (n : ℕ) (h : 0 < n) where
  -- the quotient rounded up covers the dividend
  pub ceil_div_covers : (a : ℕ) → a ≤ ceil_div a n * n
  unfolding ceil_div
  ceil_div_covers a = omega (arith, lt-div-mul-add {a = a + (n - 1)} h)

  -- and is the least number that does
  pub ceil_div_least : {a k : ℕ} → a ≤ k * n → ceil_div a n ≤ k
  unfolding ceil_div
  ceil_div_least {a} {k} l =
      let e = suc-mul k n in
      let below : (a + (n - 1)) / n < suc k = (div-lt_iff_lt-mul h).1 (omega arith) in
      omega arith

  -- one past the whole part is no less
  pub ceil_past : (a : ℕ) → ceil_div a n ≤ past_div a n
  unfolding past_div
  ceil_past a =
      ceil_div_least {a = a} {k = a / n + 1} (omega (arith, lt-div-mul-add {a = a} h, add-mul (a / n) 1 n, one-mul n))

  -- whole numbers go through
  pub past_add : (a j : ℕ) → past_div (a + j * n) n ≡ j + past_div a n
  unfolding past_div
  past_add a j = omega (arith, add-mul-div_right a j h)
