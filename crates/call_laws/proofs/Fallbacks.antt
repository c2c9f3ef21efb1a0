-- The answer of the call that falls back tells what it gives: where no check refuses, both sheets have the length that
-- their settings say, so the part that is shown is inside; a refusal has a number up to 19, and points at an entry only
-- where the settings pass.
-- Assumes nothing.
use mathlib.Core.Bool.{Bool, true, false, cond}
use mathlib.Core.List.{List}
use mathlib.Core.Option.{none, some}
use mathlib.Core.Path.{◌≡◌, refl, sym, ◌∙◌}
use Prim.Native.Nat.{ℕ, ◌+◌, ◌*◌, ◌≤◌, ◌<◌}
use native.Mathlib.Nat.{mul-le-mul}
use native.Mathlib.Omega.{arith}
use lib.Dec.{eqb}
use lib.ListN.{length}
use Rattle.model.specs.declared.Settings.{Settings}
use Rattle.model.specs.RoundSheet.{cca, settings_at, entry_count, mark_at, bits_at}
use Rattle.model.specs.AnswerSheet.{answer_length}
use Rattle.model.specs.Steps.{round_at}
use Rattle.model.specs.Refusals.{Check, first_of, too_many_faults, sheet_checks, entry_checks}
use Rattle.model.specs.Calls.{verdict}
use Rattle.refusal_laws.proofs.Checks.{first_snoc, next-none-left}
use Rattle.refusal_laws.proofs.Limits.{Limits, limits}
use Rattle.refusal_laws.proofs.Numbers.{plain_sheet, room_says, faults-says, each}
use Rattle.sheet_laws.proofs.Checks.{settings-passed, sheet-length-passed}
use Rattle.sheet_pairs.specs.Fallback.{Source, crusaders, direct, source_of, sheet_by, bad_pair, pair_checks}
use Rattle.sheet_pairs.specs.Fallback.{own_checks, fallback_checks, readings_start, readings_length, readings_part, shown_by}
use Rattle.sheet_pairs.specs.Fallback.{settlement_of, fallback}
use Rattle.sheet_pairs.proofs.Pairs.{pair_of, pair-says, pair-order, fallback-order}
use Rattle.fallback_packing.specs.Answers.{falling_of}
use Rattle.call_laws.specs.Statements.{FallbackTells, FallbackTold}
use Rattle.refusal_laws.proofs.Tables.{Sound, none-sound, next-sound, says-sound, plain_sound, array_sound}
use Rattle.sheet_laws.proofs.Tables.{few-passed}
use Rattle.call_laws.proofs.Sound.{refusal-tells}

-- ---- the refusals

module _ (s : List ℕ) where
  sheet-sound : Sound 19 (first_of (sheet_checks s))
  sheet-sound = plain_sound (plain_sheet s) (unfold each in refl)

  within : first_of (sheet_checks s) ≡ none → Limits (settings_at s)
  within pass = limits (settings_at s) (settings-passed s pass)

  entries-sound : first_of (sheet_checks s) ≡ none → Sound 19 (first_of (entry_checks s))
  unfolding entry_checks
  entries-sound pass =
      let few = few-passed s pass in
      array_sound 19 refl refl (mark_at s) (bits_at s (entry_count (settings_at s))) (entry_count (settings_at s))
      (omega arith)

  own-sound : first_of (sheet_checks s) ≡ none → (source : Source) → Sound 19 (first_of (own_checks source s))
  unfolding first_of
  own-sound pass crusaders = none-sound
  own-sound pass direct =
      rw (first_snoc (entry_checks s) (too_many_faults (round_at s 0).count))
      (next-sound (first_of (entry_checks s)) _ (entries-sound pass) λ _.
      says-sound (faults-says (round_at s 0).count) refl)

module _ (a b : List ℕ) (room : ℕ) where
  pair-sound : Sound 19 (first_of (pair_checks a b room))
  pair-sound =
      let wanted = answer_length (settings_at a).n in
      rw (pair-order a b room)
      (next-sound (first_of (sheet_checks a)) _ (sheet-sound a) λ _.
      next-sound (first_of (sheet_checks b)) _ (sheet-sound b) λ _.
      next-sound (bad_pair (settings_at a) (settings_at b)) _ (says-sound (pair-says (settings_at a) (settings_at b)) refl) λ _.
      says-sound (room_says room wanted) refl)

  fallback-sound : Sound 19 (first_of (fallback_checks a b room))
  fallback-sound =
      rw (fallback-order a b room)
      (next-sound (first_of (pair_checks a b room)) _ pair-sound λ pass.
      let are = pair_of a b room pass in
      next-sound (first_of (entry_checks a)) _ (entries-sound a are.first) λ _.
      own-sound b are.second (source_of a))

-- ---- a grant

some-entries : (c : Settings) → 1 ≤ c.n → 1 ≤ entry_count c
unfolding entry_count
some-entries c h = go (eqb c.rule cca)
  where
    go : (x : Bool) → 1 ≤ cond x (c.n * c.n) c.n
    go true = mul-le-mul h h
    go false = h

-- the readings of a sheet that passes checks 1 to 6 are inside it
record Inside (s : List ℕ) : Type 0 where
  some : 0 < readings_length (settings_at s)
  inside : readings_start (settings_at s) + readings_length (settings_at s) ≤ length s

inside-sheet : (s : List ℕ) → first_of (sheet_checks s) ≡ none → Inside s
inside-sheet s pass =
    let E = entry_count (settings_at s) in
    let entries = some-entries (settings_at s) (within s pass).some_cabinet in
    let long = sheet-length-passed s pass in
    record { some = omega arith; inside = omega arith }

inside-by : (source : Source) (a b : List ℕ) → Inside a → Inside b → Inside (sheet_by source a b)
inside-by crusaders a b h i = h
inside-by direct a b h i = i

-- ---- any two sheets

module _ (a b answer : List ℕ) where
  tells :
      (check : Check) → first_of (fallback_checks a b (length answer)) ≡ check
      → let v = verdict check (settlement_of a) in
      FallbackTells v a b (shown_by v a b) (falling_of v a b)
  unfolding readings_part
  tells none e =
      let are =
      pair_of a b (length answer)
      (next-none-left (first_of (pair_checks a b (length answer))) _ (sym (fallback-order a b (length answer)) ∙ e)) in
      let cabinets = (within a are.first).cabinets in
      let readings =
      inside-by (source_of a) a b (inside-sheet a are.first) (inside-sheet b are.second) in
      record {
        answer = refl;
        below = omega arith;
        by = refl;
        part = refl;
        some = readings.some;
        inside = readings.inside;
      }
  tells (some r) e =
      record {
        refuses = refusal-tells r ((fallback-sound a b (length answer)).told r e);
        no_source = refl;
        no_start = refl;
        no_length = refl;
      }

pub fallback-told : FallbackTold
unfolding fallback
fallback-told a b answer = tells a b answer (first_of (fallback_checks a b (length answer))) refl
