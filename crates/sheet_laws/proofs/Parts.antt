-- The part of a sheet that holds its marks.
-- Assumes nothing.
use mathlib.Core.List.{List}
use mathlib.Core.Path.{◌≡◌, sym, ◌∙◌}
use Prim.Native.Nat.{ℕ, ◌+◌, ◌*◌, ◌-◌, ◌≤◌, ◌<◌}
use native.Mathlib.Omega.{arith}
use lib.ListN.{length, take, drop, length-drop}
use lib.Seq.{ext_get_or, length-take-le, get_or-take, get_or-drop}
use Rattle.arithmetic.specs.Writing.{table}
use Rattle.arithmetic.proofs.Writing.{length-table, get_d_table}
use Rattle.model.specs.RoundSheet.{byte, header_size}

-- the entries of a part of a list are that part
pub table-part : (s : List ℕ) (k n : ℕ) → k + n ≤ length s → table (λ e. byte s (k + e)) n ≡ take n (drop k s)
table-part s k n h =
    ext_get_or 0 (table (λ e. byte s (k + e)) n) (take n (drop k s))
    (length-table (λ e. byte s (k + e)) n ∙ sym (length-take-le n (drop k s) fits))
    (λ i l.
    let i-in : i < n = rw (length-table (λ e. byte s (k + e)) n) at l in
    get_d_table (λ e. byte s (k + e)) n i 0 i-in ∙ sym (get_or-take n (drop k s) i 0 i-in ∙ get_or-drop k s i 0))
  where
    fits : n ≤ length (drop k s)
    fits = let d = length-drop k s in omega arith

-- bytes 8 to 8 + E
abbrev pub marks_part : List ℕ → ℕ → List ℕ
marks_part s E = take (header_size + E - header_size) (drop header_size s)

module _ (s : List ℕ) (E : ℕ) (long : length s ≡ header_size + 5 * E) where
  pub length-marks_part : length (marks_part s E) ≡ E
  length-marks_part = length-take-le (header_size + E - header_size) (drop header_size s) fits ∙ same
    where
      fits : header_size + E - header_size ≤ length (drop header_size s)
      fits = let d = length-drop header_size s in omega arith

      same : header_size + E - header_size ≡ E
      same = omega arith
