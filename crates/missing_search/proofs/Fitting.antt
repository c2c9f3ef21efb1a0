-- Four bytes for each mark, by a quotient and a rest that do not pass the machine's numbers.
-- Assumes nothing.
use mathlib.Core.Bool.{Bool, true, false, not, ◌||◌}
use mathlib.Core.Path.{◌≡◌, refl}
use Prim.Native.Nat.{ℕ, ◌*◌, ◌/◌, ◌%◌}
use native.Mathlib.Omega.{arith}
use borrow.Author.Tests.{eqb-true, eqb-false}
use lib.Dec.{eqb}

pub fit-test :
    (marks readings : ℕ)
    → (not (eqb (readings / 4) marks) || not (eqb (readings % 4) 0)) ≡ not (eqb readings (4 * marks))
fit-test marks readings = go (eqb (readings / 4) marks) (eqb (readings % 4) 0) (eqb readings (4 * marks)) refl refl refl
  where
    go :
        (p q r : Bool) → eqb (readings / 4) marks ≡ p → eqb (readings % 4) 0 ≡ q → eqb readings (4 * marks) ≡ r
        → (not p || not q) ≡ not r
    go true true true a b c = refl
    go true true false a b c =
        let quotient = eqb-true (readings / 4) marks a in
        let rest = eqb-true (readings % 4) 0 b in
        absurd (eqb-false readings (4 * marks) c (omega arith))
    go true false true a b c =
        let whole = eqb-true readings (4 * marks) c in
        absurd (eqb-false (readings % 4) 0 b (omega arith))
    go true false false a b c = refl
    go false q true a b c =
        let whole = eqb-true readings (4 * marks) c in
        absurd (eqb-false (readings / 4) marks a (omega arith))
    go false q false a b c = refl
