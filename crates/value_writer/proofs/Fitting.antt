-- What is put where the values are held and fit.
-- Assumes nothing.
use mathlib.Core.Bool.{false}
use mathlib.Core.List.{List}
use mathlib.Core.Path.{◌≡◌, refl}
use Prim.Native.Nat.{ℕ, ◌*◌, ◌/◌, ◌≤◌}
use native.Mathlib.Omega.{arith}
use borrow.Author.Tests.{ltb-false, le-ltb}
use lib.Dec.{ltb}
use lib.ListN.{length}
use Rattle.arithmetic.specs.Writing.{table, overwrite}
use Rattle.arithmetic.proofs.Bools.{or_false, or_left, or_right}
use Rattle.model.specs.RoundSheet.{reading_bytes}
use Rattle.value_writer.specs.Values.{shown_of, unfit, size_put, values_put}

module _ (cabinets held room : ℕ) where
  pub fit-held : unfit cabinets held room ≡ false → cabinets ≤ held
  fit-held h = ltb-false held cabinets (or_left (ltb held cabinets) (ltb (room / 4) cabinets) h)

  pub fit-room : unfit cabinets held room ≡ false → 4 * cabinets ≤ room
  fit-room h =
      let quarter = ltb-false (room / 4) cabinets (or_right (ltb held cabinets) (ltb (room / 4) cabinets) h) in
      omega arith

  pub fits : cabinets ≤ held → 4 * cabinets ≤ room → unfit cabinets held room ≡ false
  fits l h = or_false (le-ltb held cabinets l) (le-ltb (room / 4) cabinets (omega arith))

module _ (roles held values : List ℕ) (fit : unfit (length roles) (length held) (length values) ≡ false) where
  pub size-put : 4 * length roles ≡ size_put roles held values
  unfolding size_put
  size-put = rw fit refl

  pub values-put :
      overwrite (reading_bytes (table (shown_of roles held) (length roles))) values ≡ values_put roles held values
  unfolding values_put
  values-put = rw fit refl
