-- The lines of one cabinet more.
-- Assumes nothing.
use mathlib.Core.List.{List, [], ◌∷◌, ◌++◌}
use mathlib.Core.Path.{◌≡◌, refl}
use Prim.Native.Nat.{ℕ, ◌+◌, ◌*◌}
use native.Mathlib.Numerals.{add-one}
use lib.IntN.{ℤ}
use Rattle.model.specs.RoundSheet.{byte, word}
use Rattle.model.specs.Listing.{decimal, signed_decimal, line}
use Rattle.trace.specs.Trace.{trace_header_size, role_at}
use Rattle.trace.specs.ReplayText.{value_lines}
use Rattle.fields.specs.declared.Writer.{Writer}
use Rattle.fields.specs.Writing.{Writes}
use Rattle.fields.proofs.Writing.{writes_then}
use Rattle.lines.specs.Lines.{cabinet_line}
use Rattle.value_lines.specs.Values.{value_at}

module _ (role : ℕ → ℕ) (value : ℕ → ℤ) where
  pub values-none : value_lines role value 0 ≡ []
  unfolding value_lines
  values-none = refl

  values-more :
      (p : ℕ)
      → value_lines role value (p + 1)
      ≡ value_lines role value p ++ line (decimal p) (decimal (role p) ∷ signed_decimal (value p) ∷ [])
  unfolding value_lines
  values-more p = rw (add-one p)

-- the line of what the bytes say
module _ (s values : List ℕ) (p role value : ℕ) (r : role ≡ byte s (trace_header_size + p))
    (v : value ≡ word values (4 * p)) where
  pub value-put :
      {old mid new : Writer} → Writes old (value_lines (role_at s) (value_at values) p) mid
      → Writes mid (cabinet_line p role value) new
      → Writes old (value_lines (role_at s) (value_at values) (p + 1)) new
  value-put before here =
      rw (values-more (role_at s) (value_at values) p) (writes_then before (rw (r, v) at here))
