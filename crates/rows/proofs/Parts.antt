-- Where a row lies: bounds on its bytes, and the part by the tests that the code makes.
-- Assumes nothing.
use mathlib.Core.Bool.{Bool, true, false, cond}
use mathlib.Core.List.{List, []}
use mathlib.Core.Path.{◌≡◌, refl, ap, ◌∙◌}
use Prim.Native.Nat.{ℕ, ◌*◌, ◌≤◌, ◌<◌}
use native.Mathlib.Nat.{mul-le-mul, le_of_lt, le_trans}
use native.Mathlib.Omega.{arith}
use borrow.Author.Tests.{lt-ltb, le-ltb, ltb-true, ltb-false, le-leb, lt-leb}
use lib.Dec.{eqb, ltb, leb}
use lib.ListN.{length, take, drop}
use Rattle.model.specs.declared.Settings.{Settings}
use Rattle.model.specs.RoundSheet.{cca, row_entries, row_start, row_length, row_part}
use Rattle.model.specs.Calls.{row}
use Rattle.sheet_laws.proofs.Inspection.{Validated}
use Rattle.sheet_laws.proofs.Shown.{row_within, row-part, row-empty}
use Rattle.rows.specs.Parts.{row_end, part_at}

module _ (c : Settings) (small : c.n ≤ 255) where
  pub row-entries-most : row_entries c ≤ 255
  unfolding row_entries
  row-entries-most = go (eqb c.rule cca)
    where
      go : (b : Bool) → cond b c.n 1 ≤ 255
      go true = small
      go false = omega arith

  pub row-most : (r : ℕ) → r < c.n → r * row_entries c ≤ 65025
  row-most r l = mul-le-mul (le_trans (le_of_lt l) small) row-entries-most

module _ (s : List ℕ) (c : Settings) (r : ℕ) where
  pub past-last : c.n ≤ r → [] ≡ part_at s c r
  unfolding part_at
  past-last h = rw (le-ltb r c.n h)

  module _ (here : r < c.n) where
    pub past_end : length s < row_end c r → [] ≡ part_at s c r
    unfolding part_at
    past_end h = rw (lt-ltb r c.n here, lt-leb (row_end c r) (length s) h)

    pub row_lies : row_end c r ≤ length s → take (row_length c) (drop (row_start c r) s) ≡ part_at s c r
    unfolding part_at row_part
    row_lies h = rw (lt-ltb r c.n here, le-leb (row_end c r) (length s) h)

-- of a sheet that passes checks 1 to 6, 8 and 9 the part is what the row accessor shows
pub part-shown : (s : List ℕ) (c : Settings) → Validated s c → (r : ℕ) → part_at s c r ≡ row s r
unfolding part_at
part-shown s c v r = go (ltb r c.n) refl
  where
    inside : r < c.n → row_end c r ≤ length s
    inside l =
        let room = row_within c r l in
        let size = v.sizes.long in
        omega arith

    go : (b : Bool) → ltb r c.n ≡ b → cond b (cond (leb (row_end c r) (length s)) (row_part s c r) []) [] ≡ row s r
    go true e =
        let l = ltb-true r c.n e in
        ap (λ (b : Bool). cond b (row_part s c r) []) (le-leb (row_end c r) (length s) (inside l)) ∙ row-part s c v r l
    go false e = row-empty s c v r (ltb-false r c.n e)
