-- Settling refuses under numbers of the table, and points at an entry only where the settings pass, which have at most
-- 4,096 entries.
-- Assumes nothing.
use mathlib.Core.Bool.{true}
use mathlib.Core.List.{List}
use mathlib.Core.Option.{none}
use mathlib.Core.Path.{◌≡◌, refl, sym, ◌∙◌}
use Prim.Native.Nat.{ℕ, ◌≤◌}
use native.Mathlib.Nat.{le_trans}
use native.Mathlib.Omega.{arith}
use borrow.Author.Tests.{leb-true, le-leb}
use lib.Dec.{leb}
use Rattle.arithmetic.proofs.Bools.{and_intro}
use Rattle.model.specs.Ensemble.{max_cabinets}
use Rattle.model.specs.RoundSheet.{settings_at, entry_count, mark_at, bits_at}
use Rattle.model.specs.AnswerSheet.{answer_length}
use Rattle.model.specs.Steps.{round_at}
use Rattle.model.specs.Refusals.{first_of, no_room, sheet_checks, spread_checks, entry_checks, settle_checks}
use Rattle.model.specs.Refusals.{no_room_number, bad_mark_number, bad_missing_number, too_many_faults_number}
use Rattle.refusal_laws.proofs.Checks.{next-none-left}
use Rattle.refusal_laws.proofs.Limits.{limits, entries-most}
use Rattle.refusal_laws.proofs.Numbers.{plain_sheet, room_says, faults-says, each}
use Rattle.refusal_laws.proofs.Tables.{Sound, next-sound, listed, says-sound, plain_sound, array_sound}
use Rattle.sheet_laws.proofs.Checks.{settings-passed}
use Rattle.sheet_laws.proofs.Orders.{spread-passed, no_spread, settle-checks}

pub few-passed : (s : List ℕ) → first_of (sheet_checks s) ≡ none → entry_count (settings_at s) ≤ 4096
few-passed s pass = entries-most (settings_at s) (limits (settings_at s) (settings-passed s pass)).cabinets

-- settling with a spread, whose first checks refuse under numbers up to some number, 10 or above
module _ (most : ℕ) (enough : leb too_many_faults_number most ≡ true) (s : List ℕ) (D : ℕ)
    (front : Sound most (first_of (spread_checks s D))) where
  listed_here : (number : ℕ) → leb 1 number ≡ true → leb number too_many_faults_number ≡ true → listed most number ≡ true
  listed_here number first last =
      let a = leb-true number too_many_faults_number last in
      let b = leb-true too_many_faults_number most enough in
      and_intro first (le-leb number most (le_trans a b))

  pub spread-sound : (room : ℕ) → Sound most (first_of (settle_checks s D room))
  unfolding entry_checks
  spread-sound room =
      let wanted = answer_length (settings_at s).n in
      let E = entry_count (settings_at s) in
      rw (settle-checks s D room)
      (next-sound (first_of (spread_checks s D)) _ front λ pass.
      next-sound (no_room room wanted) _ (says-sound (room_says room wanted) (listed_here no_room_number refl refl)) λ _.
      next-sound (first_of (entry_checks s)) _
      (let few = few-passed s (spread-passed s D pass).1 in
      array_sound most (listed_here bad_mark_number refl refl) (listed_here bad_missing_number refl refl) (mark_at s)
      (bits_at s E) E (omega arith)) λ _.
      says-sound (faults-says (round_at s D).count) (listed_here too_many_faults_number refl refl))

-- without a spread they are those up to 10, and so up to 12
pub settle-sound : (s : List ℕ) (room : ℕ) → Sound 12 (first_of (settle_checks s 0 room))
settle-sound s = spread-sound 12 refl s 0 (rw (no_spread s) (plain_sound (plain_sheet s) (unfold each in refl)))

-- a sheet that is settled has at most 64 cabinets
pub settled-few :
    (s : List ℕ) (D room : ℕ) → first_of (settle_checks s D room) ≡ none → (settings_at s).n ≤ max_cabinets
settled-few s D room pass =
    let sizes = next-none-left (first_of (spread_checks s D)) _ (sym (settle-checks s D room) ∙ pass) in
    (limits (settings_at s) (settings-passed s (spread-passed s D sizes).1)).cabinets
