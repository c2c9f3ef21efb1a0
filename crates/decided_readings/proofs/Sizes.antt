-- What the sizes are where rows are taken, and how many are taken where they fit.
-- Assumes nothing.
use mathlib.Core.Bool.{Bool, true, false, ◌&&◌}
use mathlib.Core.Path.{◌≡◌, refl}
use Prim.Native.Nat.{ℕ, ◌+◌, ◌*◌, ◌≤◌, ◌<◌}
use native.Mathlib.Omega.{arith}
use borrow.Author.Tests.{le-leb, leb-true}
use lib.Dec.{leb}
use Rattle.arithmetic.proofs.Bools.{and_left, and_right}
use Rattle.model.specs.Ensemble.{max_cabinets}
use Rattle.decided_readings.specs.Rows.{rows_taken}
use Rattle.decided_readings.proofs.Squares.{row_room, square-most}

module _ (n sent copies marks values : ℕ) where
  abbrev fits : Bool
  fits = leb n max_cabinets && ((leb (n * n) sent && leb (4 * (n * n)) copies) && (leb n marks && leb n values))

  -- this many rows lie within the square of the copies, its bytes and the lists
  pub record Room (rows : ℕ) : Type 0 where
    pub few : rows ≤ max_cabinets
    pub mark_room : rows ≤ marks
    pub value_room : rows ≤ values
    pub low : (r : ℕ) → r < rows → r * n + n ≤ 4096
    pub marked : (r : ℕ) → r < rows → r * n + n ≤ sent
    pub long : (r : ℕ) → r < rows → 4 * (r * n + n) ≤ copies

  pub all-rows :
      n ≤ max_cabinets
      → n * n ≤ sent
      → 4 * (n * n) ≤ copies
      → n ≤ marks
      → n ≤ values
      → rows_taken n sent copies marks values ≡ n
  unfolding rows_taken
  all-rows a b c d e =
      rw (
        le-leb n max_cabinets a,
        le-leb (n * n) sent b,
        le-leb (4 * (n * n)) copies c,
        le-leb n marks d,
        le-leb n values e,
      )

  -- as many as are taken do: all, where all fit, or none
  pub rows-room : (rows : ℕ) → rows ≡ rows_taken n sent copies marks values → Room rows
  unfolding rows_taken
  rows-room rows h = go fits refl
    where
      go : (b : Bool) → fits ≡ b → Room rows
      go true e =
          let all : rows ≡ n = rw e at h in
          let later = and_right (leb n max_cabinets) _ e in
          let square = and_left (leb (n * n) sent && leb (4 * (n * n)) copies) (leb n marks && leb n values) later in
          let lists = and_right (leb (n * n) sent && leb (4 * (n * n)) copies) (leb n marks && leb n values) later in
          let few : n ≤ max_cabinets = leb-true n max_cabinets (and_left (leb n max_cabinets) _ e) in
          let marked : n * n ≤ sent = leb-true (n * n) sent (and_left (leb (n * n) sent) (leb (4 * (n * n)) copies) square) in
          let long : 4 * (n * n) ≤ copies =
          leb-true (4 * (n * n)) copies (and_right (leb (n * n) sent) (leb (4 * (n * n)) copies) square) in
          let most = square-most n few in
          record {
            few = omega arith;
            mark_room = omega (arith, leb-true n marks (and_left (leb n marks) (leb n values) lists));
            value_room = omega (arith, leb-true n values (and_right (leb n marks) (leb n values) lists));
            low = λ r l. omega (arith, row_room r n (omega arith));
            marked = λ r l. omega (arith, row_room r n (omega arith));
            long = λ r l. omega (arith, row_room r n (omega arith));
          }
      go false e =
          let none : rows ≡ 0 = rw e at h in
          record {
            few = omega arith;
            mark_room = omega arith;
            value_room = omega arith;
            low = λ r l. absurd (omega arith);
            marked = λ r l. absurd (omega arith);
            long = λ r l. absurd (omega arith);
          }
