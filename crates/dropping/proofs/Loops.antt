-- The loops over readings that drop some: those that a test does not keep are struck out; what is taken is summed.
-- Assumes nothing.
use mathlib.Core.Bool.{Bool}
use mathlib.Core.List.{List}
use mathlib.Core.Path.{◌≡◌, refl, sym, ap, ap₂, ◌∙◌}
use Prim.Native.Nat.{ℕ, ◌+◌, ◌*◌, ◌≤◌, ◌<◌}
use native.Mathlib.Nat.{le_refl, mul-le-mul, add-mul, one-mul}
use native.Mathlib.Omega.{arith}
use lib.ListN.{length, get_or, set}
use Rattle.arithmetic.specs.Naturals.{total}
use Rattle.arithmetic.specs.Words.{two_to32}
use Rattle.arithmetic.specs.Writing.{table}
use Rattle.arithmetic.proofs.Writing.{length-table, overwrite-whole}
use Rattle.loop_laws.proofs.Loops.{Storing, storing_none, storing_long, storing_behind, storing_next, storing_all, total-next}
use Rattle.model.specs.Ensemble.{max_cabinets}
use Rattle.held.specs.Held.{kept_mark}

-- ---- striking out what a test does not keep, r of them

abbrev pub struck : (ℕ → Bool) → List ℕ → ℕ → ℕ
struck keeps marks₀ r = kept_mark (keeps r) (get_or marks₀ r 0)

pub record Striking (keeps : ℕ → Bool) (marks₀ marks : List ℕ) (r : ℕ) : Type 0 where
  pub long : length marks ≡ length marks₀
  pub stores : Storing (struck keeps marks₀) (length marks₀) marks₀ marks r

module _ {keeps : ℕ → Bool} {marks₀ : List ℕ} where
  striking : {marks : List ℕ} {r : ℕ} → Storing (struck keeps marks₀) (length marks₀) marks₀ marks r → Striking keeps marks₀ marks r
  striking {marks} {r} k =
      record { long = storing_long (struck keeps marks₀) (length marks₀) marks₀ marks r k; stores = k }

  pub strike_none : Striking keeps marks₀ marks₀ 0
  strike_none = striking (storing_none (struck keeps marks₀) (length marks₀) marks₀ (le_refl (length marks₀)))

  module _ {marks : List ℕ} {r : ℕ} (so_far : Striking keeps marks₀ marks r) where
    pub strike_one :
        {x : ℕ} → r < length marks₀ → x ≡ kept_mark (keeps r) (get_or marks r 0)
        → Striking keeps marks₀ (set marks r x) (r + 1)
    strike_one {x} h e =
        let here = storing_behind (struck keeps marks₀) (length marks₀) marks₀ marks r so_far.stores 0 in
        striking
        (storing_next (struck keeps marks₀) (length marks₀) marks₀ marks r so_far.stores h x
        (e ∙ ap (kept_mark (keeps r)) here))

    pub all-struck : length marks₀ ≤ r → marks ≡ table (struck keeps marks₀) (length marks₀)
    all-struck h =
        let t = length-table (struck keeps marks₀) (length marks₀) in
        storing_all (struck keeps marks₀) (length marks₀) marks₀ marks r so_far.stores h
        ∙ overwrite-whole (table (struck keeps marks₀) (length marks₀)) marks₀ (omega arith)

-- ---- summing, r of n, each at most b

pub record Summing (f : ℕ → ℕ) (b n sum r : ℕ) : Type 0 where
  pub up_to : r ≤ n
  pub exact : sum ≡ total f r
  pub small : sum ≤ r * b

module _ {f : ℕ → ℕ} {b n : ℕ} where
  pub summing_none : Summing f b n 0 0
  unfolding total
  summing_none = record { up_to = omega arith; exact = refl; small = omega arith }

  pub summing_one :
      {sum r x : ℕ} → Summing f b n sum r → r < n → x ≡ f r → x ≤ b → Summing f b n (sum + x) (r + 1)
  summing_one {sum} {r} {x} k here e most =
      record {
        up_to = omega arith;
        exact = ap₂ (λ (i j : ℕ). i + j) k.exact e ∙ sym (total-next f r);
        small = omega (arith, k.small, add-mul r 1 b, one-mul b);
      }

  pub all-summed : {sum r : ℕ} → Summing f b n sum r → n ≤ r → sum ≡ total f n
  all-summed {sum} {r} k ended =
      let all : r ≡ n = omega (arith, k.up_to) in
      rw (← all) k.exact

  -- what is added fits 64 bits
  pub sum_fits : {sum r x : ℕ} → Summing f b n sum r → r < n → n ≤ max_cabinets → x ≤ b → b < two_to32 + two_to32
      → sum + x < 18446744073709551616
  sum_fits {sum} {r} {x} k here few most small =
      let c = mul-le-mul k.up_to (le_refl b) in
      let d = mul-le-mul few (le_refl b) in
      omega (arith, k.small)
