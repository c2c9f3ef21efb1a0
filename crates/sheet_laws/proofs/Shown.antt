-- One cabinet's row: it lies within the entries, and its part is what the row accessor shows.
-- Assumes nothing.
use mathlib.Core.Bool.{Bool, true, false, cond}
use mathlib.Core.List.{List, []}
use mathlib.Core.Path.{◌≡◌, sym, ap, ◌∙◌, subst⁻¹}
use Prim.Native.Nat.{ℕ, ◌+◌, ◌*◌, ◌≤◌, ◌<◌}
use native.Mathlib.Nat.{suc-mul, mul-le-mul_right}
use native.Mathlib.Omega.{arith}
use borrow.Author.Tests.{lt-ltb, le-ltb}
use lib.Dec.{eqb}
use Rattle.model.specs.declared.Settings.{Settings}
use Rattle.model.specs.RoundSheet.{settings_at, entry_count, row_entries, row_part}
use Rattle.model.specs.Calls.{row}
use Rattle.sheet_laws.proofs.Outcomes.{row-shown, row-past}
use Rattle.sheet_laws.proofs.Inspection.{Validated}

-- a row lies within the entries
pub row_within : (c : Settings) (r : ℕ) → r < c.n → r * row_entries c + row_entries c ≤ entry_count c
unfolding row_entries entry_count
row_within c r h = go (eqb c.rule 1)
  where
    go : (b : Bool) → r * cond b c.n 1 + cond b c.n 1 ≤ cond b (c.n * c.n) c.n
    go true =
        let more = suc-mul r c.n in
        let fits = mul-le-mul_right c.n h in
        omega arith
    go false = omega arith

module _ (s : List ℕ) (c : Settings) (v : Validated s c) (r : ℕ) where
  -- the part of a cabinet's row is what the row accessor shows
  pub row-part : r < c.n → row_part s c r ≡ row s r
  row-part h =
      ap (λ (d : Settings). row_part s d r) (sym v.sizes.settings)
      ∙ sym (row-shown s r v.checks (lt-ltb r (settings_at s).n (subst⁻¹ (λ (d : Settings). r < d.n) v.sizes.settings h)))

  pub row-empty : c.n ≤ r → [] ≡ row s r
  row-empty h = sym (row-past s r (le-ltb r (settings_at s).n (subst⁻¹ (λ (d : Settings). d.n ≤ r) v.sizes.settings h)))
