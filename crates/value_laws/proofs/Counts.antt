-- What two tests count together and apart.
-- Assumes nothing.
use mathlib.Core.Bool.{Bool, true, false, not, ◌&&◌}
use mathlib.Core.Path.{◌≡◌, refl}
use Prim.Native.Nat.{ℕ, zero, suc, ◌+◌, ◌≤◌}
use native.Mathlib.Omega.{arith}
use Rattle.arithmetic.specs.Counting.{bit, count}
use Rattle.arithmetic.proofs.Bools.{and_right}
use Rattle.arithmetic.proofs.Counting.{count_mono}

bit-split : (a b : Bool) → bit a ≡ bit (a && b) + bit (a && not b)
bit-split true true = refl
bit-split true false = refl
bit-split false b = refl

-- those that pass p pass q or do not
pub count-split : (p q : ℕ → Bool) (n : ℕ) → count p n ≡ count (λ i. p i && q i) n + count (λ i. p i && not (q i)) n
unfolding count
count-split p q zero = refl
count-split p q (suc n) =
    let ih = count-split p q n in
    let b = bit-split (p n) (q n) in
    omega arith

-- at most those that fail q are lost by asking for q too
pub count_overlap : (p q : ℕ → Bool) (n : ℕ) → count p n ≤ count (λ i. p i && q i) n + count (λ i. not (q i)) n
count_overlap p q n =
    let s = count-split p q n in
    let c = count_mono (λ i. p i && not (q i)) (λ i. not (q i)) n (λ i _ e. and_right (p i) (not (q i)) e) in
    omega arith
