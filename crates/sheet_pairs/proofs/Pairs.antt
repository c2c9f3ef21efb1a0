-- What it means that checks 1 to 6 of both sheets, 19 and 7 pass: the sheets are a pair, and of settling each alone only
-- its checks 8 to 10 are left.
-- Assumes nothing.
use mathlib.Core.Bool.{true, not}
use mathlib.Core.List.{List, [], ◌∷◌, ◌++◌}
use mathlib.Core.Option.{none}
use mathlib.Core.Path.{◌≡◌, sym, ap, ◌∙◌}
use Prim.Native.Nat.{ℕ}
use borrow.Author.Tests.{eqb-true, not-false}
use lib.Dec.{eqb}
use Rattle.arithmetic.proofs.Bools.{and_left, and_right}
use Rattle.model.specs.declared.Settings.{Settings}
use Rattle.model.specs.RoundSheet.{fca, cca, settings_at}
use Rattle.model.specs.AnswerSheet.{answer_length}
use Rattle.model.specs.Steps.{round_at}
use Rattle.model.specs.Refusals.{Check, or_next, first_of, no_room, too_many_faults, bad_pair_number, sheet_checks, entry_checks, settle_checks}
use Rattle.refusal_laws.proofs.Checks.{first_append, next-none, none-at, none_left, none_right, when_none}
use Rattle.refusal_laws.proofs.Numbers.{Says, says_if}
use Rattle.sheet_laws.proofs.Orders.{no_spread, settle-checks}
use Rattle.sheet_pairs.specs.Fallback.{paired, bad_pair, pair_checks, source_of, own_checks, fallback_checks}

-- ---- check 19

pub record Pair (c d : Settings) : Type 0 where
  pub cabinets : c.n ≡ d.n
  pub faults : c.m ≡ d.m
  pub window : c.window ≡ d.window
  pub by_crusaders : c.rule ≡ cca
  pub by_direct : d.rule ≡ fca

pub pair-passed : (c d : Settings) → bad_pair c d ≡ none → Pair c d
unfolding bad_pair
pair-passed c d h =
    let all : paired c d ≡ true = not-false (paired c d) (when_none (not (paired c d)) bad_pair_number h) in
    let from-m = and_right (eqb c.n d.n) _ all in
    let from-window = and_right (eqb c.m d.m) _ from-m in
    let rules = and_right (eqb c.window d.window) _ from-window in
    record {
      cabinets = eqb-true c.n d.n (and_left (eqb c.n d.n) _ all);
      faults = eqb-true c.m d.m (and_left (eqb c.m d.m) _ from-m);
      window = eqb-true c.window d.window (and_left (eqb c.window d.window) _ from-window);
      by_crusaders = eqb-true c.rule cca (and_left (eqb c.rule cca) _ rules);
      by_direct = eqb-true d.rule fca (and_right (eqb c.rule cca) _ rules);
    }

pub pair-says : (c d : Settings) → Says bad_pair_number (bad_pair c d)
unfolding bad_pair
pair-says c d = says_if (not (paired c d)) bad_pair_number

-- ---- checks 1 to 6 of both, 19 and 7

module _ (a b : List ℕ) (room : ℕ) where
  pub record Paired : Type 0 where
    pub first : first_of (sheet_checks a) ≡ none
    pub second : first_of (sheet_checks b) ≡ none
    pub pair : Pair (settings_at a) (settings_at b)
    pub roomy : no_room room (answer_length (settings_at a).n) ≡ none

  pub pair_of : first_of (pair_checks a b room) ≡ none → Paired
  unfolding pair_checks
  pair_of h =
      record {
        first = none_left (sheet_checks a) (sheet_checks b ++ last) h;
        second = none_left (sheet_checks b) last later;
        pair = pair-passed (settings_at a) (settings_at b) (none-at last (none_right (sheet_checks b) last later) 0);
        roomy = none-at last (none_right (sheet_checks b) last later) 1;
      }
    where
      last : List Check
      last = bad_pair (settings_at a) (settings_at b) ∷ no_room room (answer_length (settings_at a).n) ∷ []

      later : first_of (sheet_checks b ++ last) ≡ none
      later = none_right (sheet_checks a) (sheet_checks b ++ last) h

  -- the order of these checks
  pub pair-order :
      first_of (pair_checks a b room)
      ≡ or_next (first_of (sheet_checks a)) (or_next (first_of (sheet_checks b))
      (or_next (bad_pair (settings_at a) (settings_at b)) (no_room room (answer_length (settings_at a).n))))
  unfolding pair_checks first_of
  pair-order =
      let seventh : Check = no_room room (answer_length (settings_at a).n) in
      let last : List Check = bad_pair (settings_at a) (settings_at b) ∷ seventh ∷ [] in
      first_append (sheet_checks a) (sheet_checks b ++ last)
      ∙ ap (or_next (first_of (sheet_checks a)))
      (first_append (sheet_checks b) last
      ∙ ap (λ (x : Check). or_next (first_of (sheet_checks b)) (or_next (bad_pair (settings_at a) (settings_at b)) x))
      (next-none seventh))

  -- the room that 7 asks for is that of either sheet
  pub roomy-direct : Paired → no_room room (answer_length (settings_at b).n) ≡ none
  roomy-direct h = ap (λ (n : ℕ). no_room room (answer_length n)) (sym h.pair.cabinets) ∙ h.roomy

  -- the order of all checks
  pub fallback-order :
      first_of (fallback_checks a b room)
      ≡ or_next (first_of (pair_checks a b room)) (or_next (first_of (entry_checks a)) (first_of (own_checks (source_of a) b)))
  unfolding fallback_checks
  fallback-order =
      first_append (pair_checks a b room) (entry_checks a ++ own_checks (source_of a) b)
      ∙ ap (or_next (first_of (pair_checks a b room))) (first_append (entry_checks a) (own_checks (source_of a) b))

-- settling a sheet alone that passes 1 to 6 and 7
pub settle-left :
    (s : List ℕ) (room : ℕ) → first_of (sheet_checks s) ≡ none → no_room room (answer_length (settings_at s).n) ≡ none
    → first_of (settle_checks s 0 room) ≡ or_next (first_of (entry_checks s)) (too_many_faults (round_at s 0).count)
settle-left s room passes roomy = settle-checks s 0 room ∙ rw (no_spread s, passes, roomy)
