-- Sizes of a byte make few entries.
-- Assumes nothing.
use mathlib.Core.Bool.{Bool, true, false, cond}
use Prim.Native.Nat.{◌*◌, ◌≤◌}
use native.Mathlib.Nat.{mul-le-mul, le_trans}
use native.Mathlib.Omega.{arith}
use lib.Dec.{eqb, lit≤}
use Rattle.model.specs.declared.Settings.{Settings}
use Rattle.model.specs.RoundSheet.{cca, entry_count}
use Rattle.sheet_sizes.specs.Bounds.{most_entries}

pub byte-entries-most : (c : Settings) → c.n ≤ 255 → entry_count c ≤ most_entries
unfolding entry_count
byte-entries-most c small = go (eqb c.rule cca)
  where
    go : (b : Bool) → cond b (c.n * c.n) c.n ≤ most_entries
    go true = le_trans (mul-le-mul small small) (lit≤ tt)
    go false = omega arith
