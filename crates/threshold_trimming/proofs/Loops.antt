-- The loops over the numbers: the place behind the first that pass a test is found, and so are the least number from
-- low on and the greatest up to high.
-- Assumes nothing.
use borrow.Author.Tests.{ltb-true, ltb-false}
use mathlib.Core.Bool.{Bool, cond}
use mathlib.Core.Logic.{⊎_elim}
use mathlib.Core.Path.{◌≡◌, refl, ap, ap₂, ◌∙◌}
use Prim.Native.Nat.{ℕ, zero, suc, ◌+◌, ◌-◌, min, max, ◌≤◌, ◌<◌}
use native.Mathlib.Nat.{le_refl}
use native.Mathlib.Numerals.{add-one}
use native.Mathlib.Omega.{arith}
use lib.Dec.{ltb}
use mir.Val.{bool_byte}
use Rattle.arithmetic.specs.Counting.{count}
use Rattle.arithmetic.specs.Words.{two_to32}
use Rattle.arithmetic.proofs.Bools.{both_ways}
use Rattle.loop_laws.proofs.Loops.{flag, flag_small, count_next}
use Rattle.threshold_trimming.specs.Trimming.{least_from, greatest_to}

-- ---- passing the first `ties` that pass a test: r of n are passed, `left` are to come

-- among more there are not fewer
pub count_longer : (p : ℕ → Bool) (r n : ℕ) → r ≤ n → count p r ≤ count p n
unfolding count
count_longer p r zero l = rw none (le_refl 0)
  where
    none : r ≡ 0
    none = omega arith
count_longer p r (suc k) l =
    ⊎_elim (λ t. omega (arith, count_longer p r k (omega (arith, ltb-true r (suc k) t))))
    (λ f.
    let all : r ≡ suc k = omega (arith, ltb-false r (suc k) f) in
    rw all (le_refl (count p (suc k))))
    (both_ways (ltb r (suc k)))

pub record Finding (p : ℕ → Bool) (ties n left r : ℕ) : Type 0 where
  pub up_to : r ≤ n
  pub rest : left + count p r ≡ ties

module _ {p : ℕ → Bool} {ties n : ℕ} where
  pub finding_none : Finding p ties n ties 0
  unfolding count
  finding_none = record { up_to = omega arith; rest = omega arith }

  module _ {left r : ℕ} (so_far : Finding p ties n left r) where
    module _ (more : left ≡ 0 → ⊥) where
      pub finding_fits : bool_byte (p r) ≤ left
      finding_fits = omega (arith, flag_small (p r))

      pub finding_one : r < n → Finding p ties n (left - bool_byte (p r)) (r + 1)
      finding_one here =
          record {
            up_to = omega arith;
            rest = omega (arith, finding_fits, flag (p r), count_next p r, so_far.rest);
          }

    -- none is to come, or no number
    pub found : left ≡ 0 → count p r ≡ min ties (count p n)
    found none = omega (arith, so_far.rest, count_longer p r n so_far.up_to)

    pub all-found : n ≤ r → count p n ≡ min ties (count p n)
    all-found ended =
        let all : r ≡ n = omega (arith, so_far.up_to) in
        omega (arith, ap (count p) all, so_far.rest)

-- ---- the least number from low on and the greatest up to high, of the first r of n

pub record Ends (x : ℕ → ℕ) (low high n least most r : ℕ) : Type 0 where
  pub up_to : r ≤ n
  pub lowest : least ≡ least_from x low r
  pub highest : most ≡ greatest_to x high r
  pub low_fits : least < two_to32
  pub high_fits : most < two_to32

module _ {x : ℕ → ℕ} {low high n : ℕ} where
  pub ends-none : Ends x low high n (two_to32 - 1) 0 0
  unfolding least_from greatest_to
  ends-none =
      record { up_to = omega arith; lowest = refl; highest = refl; low_fits = omega arith; high_fits = omega arith }

  module _ {least most r : ℕ} (so_far : Ends x low high n least most r) where
    pub ends-one :
        {l m a b : ℕ} → r < n → l ≡ cond (ltb (x r) low) (two_to32 - 1) (x r) → m ≡ cond (ltb high (x r)) 0 (x r)
        → a ≡ min least l → b ≡ max most m → a < two_to32 → b < two_to32 → Ends x low high n a b (r + 1)
    unfolding least_from greatest_to
    ends-one {l} {m} {a} {b} here el em ea eb fa fb =
        record {
          up_to = omega arith;
          lowest = rw (add-one r) (omega (arith, so_far.lowest));
          highest = rw (add-one r) (eb ∙ ap₂ max so_far.highest em);
          low_fits = fa;
          high_fits = fb;
        }
