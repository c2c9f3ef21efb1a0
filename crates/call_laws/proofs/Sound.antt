-- What a refusal of the table is, packed; and a length, or the first refusal.
-- Assumes nothing.
use mathlib.Core.Option.{none, some}
use mathlib.Core.Path.{◌≡◌, refl}
use Prim.Native.Nat.{ℕ, ◌<◌}
use native.Mathlib.Omega.{arith}
use Rattle.arithmetic.specs.Words.{two_to32}
use Rattle.model.specs.Refusals.{Refusal}
use Rattle.model.specs.Refusals.{Check}
use Rattle.model.specs.Calls.{verdict}
use Rattle.refusal_laws.proofs.Tables.{InTable, Sound}
use Rattle.packed_refusals.specs.Answers.{packed_refusal, packed}
use Rattle.packed_refusals.proofs.Halves.{upper_back, lower-back}
use Rattle.call_laws.specs.Statements.{Refuses, Tells}

pub refusal-tells : {most : ℕ} (r : Refusal) → InTable most r → Refuses most r (packed_refusal r)
refusal-tells r t =
    let first = t.first in
    record {
      above = omega arith;
      number = upper_back r.number r.place t.small;
      place = lower-back r.number r.place t.small;
      first = t.first;
      last = t.last;
    }

-- a length, or the first refusal, packed
pub size-tells :
    {most : ℕ} (check : Check) (size : ℕ) → Sound most check → (check ≡ none → size < two_to32)
    → Tells most (verdict check size) (packed (verdict check size))
size-tells none size t small = small refl
size-tells (some r) size t small = refusal-tells r (t.told r refl)
