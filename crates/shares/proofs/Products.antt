-- Shares where N is 0; a dividend's size: two numbers of 32 bits have a product that leaves room for N-1 below 2^64; and
-- the next window by its tests.
-- Assumes nothing.
use mathlib.Core.Bool.{true, false, ◌||◌}
use mathlib.Core.Path.{◌≡◌, sym, ap}
use Prim.Native.Nat.{ℕ, ◌+◌, ◌*◌, ◌-◌, ◌/◌, ◌%◌, ◌≤◌, ◌<◌, min}
use native.Mathlib.Nat.{mul-le-mul, div-zero, div-lt_iff_lt-mul, le-div_iff_mul-le}
use native.Mathlib.Omega.{arith}
use lib.Dec.{eqb}
use Rattle.std.proofs.lemmas.Grind.{div_ceil_times}
use Rattle.arithmetic.specs.Words.{two_to32}
use Rattle.model.specs.declared.Settings.{Settings}
use Rattle.model.specs.Planner.{ceil_div, past_div, window_factor, next_window}

pub none-of-none : (a n : ℕ) → n ≡ 0 → 0 ≡ ceil_div a n
unfolding ceil_div
none-of-none a n e = rw e (sym (div-zero (a + 0)))

-- the library's quotient rounded up
pub rounded-up : (a n : ℕ) → 0 < n → a / n + min 1 (a % n) ≡ ceil_div a n
unfolding ceil_div
rounded-up a n some =
    let quotient = a / n + min 1 (a % n) in
    let times = div_ceil_times a n some in
    let above : a + (n - 1) < (quotient + 1) * n = omega (arith, times) in
    let below : quotient * n ≤ a + (n - 1) = omega (arith, times) in
    let most : (a + (n - 1)) / n < quotient + 1 = (div-lt_iff_lt-mul some).1 above in
    let least : quotient ≤ (a + (n - 1)) / n = (le-div_iff_mul-le some).1 below in
    omega arith

pub past-none : (a n : ℕ) → n ≡ 0 → 1 ≡ past_div a n
unfolding past_div
past-none a n e = rw e (sym (ap (λ (q : ℕ). q + 1) (div-zero a)))

-- where m or the window is 0, and where neither is
pub no_window : (c : Settings) → (eqb c.m 0 || eqb c.window 0) ≡ true → 0 ≡ next_window c
unfolding next_window
no_window c e = rw e

pub some-window :
    (c : Settings) → (eqb c.m 0 || eqb c.window 0) ≡ false
    → past_div (window_factor c * (c.m * c.window)) c.n ≡ next_window c
unfolding next_window
some-window c e = rw e

pub product_le :
    (parts window : ℕ) → parts < two_to32 → window < two_to32 → parts * window ≤ (two_to32 - 1) * (two_to32 - 1)
product_le parts window h k = mul-le-mul {n₂ = two_to32 - 1} {m₂ = two_to32 - 1} (omega arith) (omega arith)
