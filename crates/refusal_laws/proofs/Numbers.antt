-- What a check says when it refuses: its own number, and the place 0 unless it points at an entry.
--   Says number check       the check refuses under that number alone, with the place 0
--   Plain numbers checks    each of the checks says the number at its place
-- Assumes nothing.
use mathlib.Core.Bool.{Bool, true, false, not, ◌&&◌, ◌||◌}
use mathlib.Core.List.{List, [], ◌∷◌, ◌++◌}
use mathlib.Core.Logic.{◌⊎◌, inl, inr, ⊎_elim}
use mathlib.Core.Option.{Option, none, some}
use mathlib.Core.Path.{◌≡◌, sym, ap}
use Prim.Native.Nat.{ℕ, zero, suc, ◌+◌, ◌*◌}
use native.Mathlib.Omega.{arith}
use lib.Dec.{eqb, ltb}
use lib.ListN.{length, get_or}
use Rattle.arithmetic.specs.Counting.{lowest}
use Rattle.arithmetic.proofs.Bools.{and_left, and_right}
use Rattle.model.specs.declared.Settings.{Settings}
use Rattle.model.specs.Refusals.{Refusal}
use Rattle.model.specs.Ensemble.{max_cabinets, max_window}
use Rattle.model.specs.RoundSheet.{header_size, settings_at, sheet_length}
use Rattle.model.specs.Refusals.{refusal, Check, refuse_if, at_entry, or_next, first_of, too_short, bad_cabinets, bad_faults}
use Rattle.model.specs.Refusals.{bad_method, unplanned, bad_window, bad_length, no_room, bad_mark, bad_missing, too_many_faults, bad_plan}
use Rattle.model.specs.Refusals.{target_missed, bad_spread, settings_checks, planner_checks, size_checks, sheet_checks, spread_checks}
use Rattle.model.specs.Refusals.{unknown_method, unplanned_method, unfit_spread}
use Rattle.model.specs.Refusals.{too_short_number, bad_cabinets_number, bad_faults_number, bad_method_number, bad_window_number}
use Rattle.model.specs.Refusals.{bad_length_number, no_room_number, bad_mark_number, bad_missing_number, too_many_faults_number}
use Rattle.model.specs.Refusals.{bad_plan_number, target_missed_number, bad_spread_number}

pub no_refusal {ℓ} : {X : Type ℓ} {r : Refusal} → ◌≡◌ {A = Check} none (some r) → X
no_refusal e = let z : ◌≡◌ {A = ℕ} 0 1 = cc in absurd (omega arith)

-- ---- one check

-- what a check says that has no entry to point at
abbrev pub Says : ℕ → Check → Type 0
Says number x = (r : Refusal) → x ≡ some r → r ≡ refusal number 0

pub says_if : (b : Bool) (number : ℕ) → Says number (refuse_if b number)
says_if true number r e = cc
says_if false number r e = no_refusal e

pub entry-says :
    (o : Option ℕ) (number : ℕ) (r : Refusal) → at_entry o number ≡ some r
    → (o ≡ some r.place) × (r.number ≡ number)
entry-says none number r e = no_refusal e
entry-says (some i) number r e =
    (ap {B = Option ℕ} (λ (x : Refusal). some x.place) same, ap (λ (x : Refusal). x.number) (sym same))
  where
    same : refusal number i ≡ r
    same = cc

-- ---- checks that have no entry to point at

pub data Plain : List ℕ → List Check → Type 0 where
  no_checks : Plain [] []
  check_more :
      {number : ℕ} {x : Check} {numbers : List ℕ} {checks : List Check} → Says number x → Plain numbers checks
      → Plain (number ∷ numbers) (x ∷ checks)

pub plain_append : {ns ms : List ℕ} {xs ys : List Check} → Plain ns xs → Plain ms ys → Plain (ns ++ ms) (xs ++ ys)
plain_append no_checks q = q
plain_append (check_more f p) q = check_more f (plain_append p q)

-- the first refusal of plain checks, if there is one, and else that of the checks behind them
pub plain_first :
    {ns : List ℕ} {xs : List Check} → Plain ns xs → (ys : List Check) (r : Refusal) → first_of (xs ++ ys) ≡ some r
    → ((i : ℕ) × (r ≡ refusal (get_or ns i 0) 0)) ⊎ (first_of ys ≡ some r)
unfolding first_of
plain_first no_checks ys r h = inr h
plain_first (check_more {number} {x} {numbers} {checks} f p) ys r h = go x f h (plain_first p ys r)
  where
    Out : List ℕ → Type 0
    Out ns = ((i : ℕ) × (r ≡ refusal (get_or ns i 0) 0)) ⊎ (first_of ys ≡ some r)

    go :
        (x : Check) → Says number x → or_next x (first_of (checks ++ ys)) ≡ some r
        → (first_of (checks ++ ys) ≡ some r → Out numbers) → Out (number ∷ numbers)
    go none f h ih = ⊎_elim (λ w. inl (suc w.0, w.1)) (λ e. inr e) (ih h)
    go (some y) f h ih = inl (0, f r h)

-- a test that passes of 0 and of every number of a list passes of the number at any place
unfoldable pub each : (ℕ → Bool) → List ℕ → Bool
each p [] = true
each p (n ∷ ns) = p n && each p ns

pub each_at : (p : ℕ → Bool) (ns : List ℕ) → p 0 ≡ true → each p ns ≡ true → (i : ℕ) → p (get_or ns i 0) ≡ true
unfolding each
each_at p [] z h i = z
each_at p (n ∷ ns) z h zero = and_left (p n) (each p ns) h
each_at p (n ∷ ns) z h (suc i) = each_at p ns z (and_right (p n) (each p ns) h) i

-- ---- the checks of the table

pub short-says : (s : List ℕ) → Says too_short_number (too_short s)
unfolding too_short
short-says s = says_if (ltb (length s) header_size) too_short_number

pub length-says : (given wanted : ℕ) → Says bad_length_number (bad_length given wanted)
unfolding bad_length
length-says given wanted = says_if (not (eqb given wanted)) bad_length_number

pub room_says : (given wanted : ℕ) → Says no_room_number (no_room given wanted)
unfolding no_room
room_says given wanted = says_if (ltb given wanted) no_room_number

pub faults-says : (accepted : ℕ) → Says too_many_faults_number (too_many_faults accepted)
unfolding too_many_faults
faults-says accepted = says_if (eqb accepted 0) too_many_faults_number

pub plan-says : (b : Bool) → Says bad_plan_number (bad_plan b)
unfolding bad_plan
plan-says b = says_if b bad_plan_number

pub target-says : (last target : ℕ) → Says target_missed_number (target_missed last target)
unfolding target_missed
target-says last target = says_if (ltb target last) target_missed_number

pub cabinets_say : (c : Settings) → Says bad_cabinets_number (bad_cabinets c)
unfolding bad_cabinets
cabinets_say c = says_if (eqb c.n 0 || ltb max_cabinets c.n) bad_cabinets_number

pub spread-says : (c : Settings) (D : ℕ) → Says bad_spread_number (bad_spread c D)
unfolding bad_spread
spread-says c D = says_if (unfit_spread c.rule D) bad_spread_number

-- by what is said of the rule and the estimator
plain_by :
    (c : Settings) (unknown : Bool)
    → Plain (2 ∷ 3 ∷ 4 ∷ 5 ∷ []) (bad_cabinets c ∷ bad_faults c ∷ refuse_if unknown bad_method_number ∷ bad_window c ∷ [])
unfolding bad_faults bad_window
plain_by c unknown =
    check_more (cabinets_say c)
    (check_more (says_if (ltb c.n (3 * c.m + 1)) bad_faults_number)
    (check_more (says_if unknown bad_method_number)
    (check_more (says_if (ltb max_window c.window) bad_window_number) no_checks)))

pub plain_settings : (c : Settings) → Plain (2 ∷ 3 ∷ 4 ∷ 5 ∷ []) (settings_checks c)
unfolding settings_checks bad_method
plain_settings c = plain_by c (unknown_method c.rule c.estimator)

pub plain_planner : (c : Settings) → Plain (2 ∷ 3 ∷ 4 ∷ 5 ∷ []) (planner_checks c)
unfolding planner_checks unplanned
plain_planner c = plain_by c (unplanned_method c.rule c.estimator)

pub plain_one : {number : ℕ} {x : Check} → Says number x → Plain (number ∷ []) (x ∷ [])
plain_one f = check_more f no_checks

plain_sizes : (s : List ℕ) → Plain (1 ∷ 2 ∷ 3 ∷ 4 ∷ 5 ∷ []) (size_checks s)
plain_sizes s = check_more (short-says s) (plain_settings (settings_at s))

pub plain_sheet : (s : List ℕ) → Plain (1 ∷ 2 ∷ 3 ∷ 4 ∷ 5 ∷ 6 ∷ []) (sheet_checks s)
unfolding sheet_checks
plain_sheet s = plain_append (plain_sizes s) (plain_one (length-says (length s) (sheet_length (settings_at s))))

pub plain_spread : (s : List ℕ) (D : ℕ) → Plain (1 ∷ 2 ∷ 3 ∷ 4 ∷ 5 ∷ 16 ∷ 6 ∷ []) (spread_checks s D)
unfolding spread_checks
plain_spread s D =
    plain_append (plain_sizes s)
    (check_more (spread-says (settings_at s) D) (plain_one (length-says (length s) (sheet_length (settings_at s)))))

-- ---- checks 8 and 9

module _ (mark bits : ℕ → ℕ) (E : ℕ) where
  pub mark-number : (r : Refusal) → bad_mark mark E ≡ some r → r.number ≡ bad_mark_number
  unfolding bad_mark
  mark-number r h = (entry-says (lowest (λ e. ltb 1 (mark e)) E) bad_mark_number r h).1

  pub missing-number : (r : Refusal) → bad_missing mark bits E ≡ some r → r.number ≡ bad_missing_number
  unfolding bad_missing
  missing-number r h = (entry-says (lowest (λ e. eqb (mark e) 0 && not (eqb (bits e) 0)) E) bad_missing_number r h).1
