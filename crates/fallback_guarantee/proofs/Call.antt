-- Demand 1 of the call that falls back: `fallback-call` is the theorem that specs/Call.antt states. The checks before the
-- entries are plain; which of them come last goes by the sheet that settles the round.
-- Assumes nothing.
use mathlib.Core.List.{List, [], ◌∷◌, ◌++◌}
use mathlib.Core.Logic.{◌⊎◌, inl, inr}
use mathlib.Core.Option.{none, some}
use mathlib.Core.Path.{◌≡◌, refl, sym, ap, ◌∙◌}
use Prim.Native.Nat.{ℕ, ◌≤◌}
use native.Mathlib.Omega.{arith}
use lib.ListN.{length}
use Rattle.model.specs.Refusals.{Refusal}
use Rattle.model.specs.RoundSheet.{settings_at, entry_count, mark_at, bits_at}
use Rattle.model.specs.AnswerSheet.{answer_length, answer_bytes}
use Rattle.model.specs.Steps.{round_at}
use Rattle.model.specs.Refusals.{Check, or_next, first_of, too_many_faults, bad_mark, bad_missing, bad_mark_number}
use Rattle.model.specs.Refusals.{bad_missing_number, entry_checks}
use Rattle.refusal_laws.proofs.Checks.{none-at, none_right, next-none-left}
use Rattle.refusal_laws.proofs.Numbers.{no_refusal, Plain, no_checks, plain_one, faults-says, mark-number, missing-number}
use Rattle.refusal_laws.proofs.Numbers.{each}
use Rattle.sheet_laws.proofs.Answer.{length-answer_bytes}
use Rattle.sheet_laws.proofs.Checks.{room-passed}
use Rattle.sheet_laws.proofs.Outcomes.{refused-some}
use Rattle.sheet_pairs.specs.Fallback.{Source, crusaders, direct, source_of, sheet_by, pair_checks, own_checks}
use Rattle.sheet_pairs.specs.Fallback.{fallback_checks, settlement_of, fallback}
use Rattle.sheet_pairs.proofs.Pairs.{pair_of, fallback-order}
use Rattle.demand_1_2.specs.Demand1.{NoneApplies, InOrder}
use Rattle.demand_1_2.proofs.Demand1.{gives-first, leaves-first}
use Rattle.demand_1_2.proofs.Orders.{order-more, plain_then, entry-order, entry-placed}
use Rattle.fallback_guarantee.proofs.Checks.{plain_pair, front-order, parted}
use Rattle.fallback_guarantee.specs.Call.{crusaders_numbers, direct_numbers, PlacedIn, FallbackCall, FallbackCalls}

module _ (a b answer : List ℕ) where
  abbrev room : ℕ
  room = length answer

  abbrev E : List ℕ → ℕ
  E s = entry_count (settings_at s)

  -- ---- the order

  last_plain : Plain (10 ∷ []) (too_many_faults (round_at b 0).count ∷ [])
  last_plain = plain_one (faults-says (round_at b 0).count)

  by-crusaders : InOrder crusaders_numbers (pair_checks a b room ++ (entry_checks a ++ own_checks crusaders b))
  unfolding entry_checks
  by-crusaders = front-order a b room

  by-direct : InOrder direct_numbers (pair_checks a b room ++ (entry_checks a ++ own_checks direct b))
  unfolding entry_checks
  by-direct =
      let own : List Check = bad_mark (mark_at b) (E b) ∷ bad_missing (mark_at b) (bits_at b (E b)) (E b)
      ∷ too_many_faults (round_at b 0).count ∷ [] in
      let nine : Check = bad_missing (mark_at a) (bits_at a (E a)) (E a) in
      plain_then (plain_pair a b room) (8 ∷ 9 ∷ 8 ∷ 9 ∷ 10 ∷ []) (bad_mark (mark_at a) (E a) ∷ nine ∷ own)
      (order-more bad_mark_number (bad_mark (mark_at a) (E a)) (9 ∷ 8 ∷ 9 ∷ 10 ∷ []) (nine ∷ own)
      (mark-number (mark_at a) (bits_at a (E a)) (E a))
      (order-more bad_missing_number nine (8 ∷ 9 ∷ 10 ∷ []) own (missing-number (mark_at a) (bits_at a (E a)) (E a))
      (entry-order (mark_at b) (bits_at b (E b)) (E b) no_checks last_plain)))

  crusaders-order : source_of a ≡ crusaders → InOrder crusaders_numbers (fallback_checks a b room)
  unfolding fallback_checks
  crusaders-order e = rw e by-crusaders

  direct-order : source_of a ≡ direct → InOrder direct_numbers (fallback_checks a b room)
  unfolding fallback_checks
  direct-order e = rw e by-direct

  -- ---- what is left

  has_room :
      first_of (fallback_checks a b room) ≡ none
      → length (answer_bytes (settings_at a).n (round_at (sheet_by (source_of a) a b) 0)) ≤ length answer
  has_room h =
      let passed =
      next-none-left (first_of (pair_checks a b room)) _ (sym (fallback-order a b room) ∙ h) in
      let wide = room-passed room (answer_length (settings_at a).n) (pair_of a b room passed).roomy in
      let long = length-answer_bytes (settings_at a).n (round_at (sheet_by (source_of a) a b) 0) in
      omega arith

  -- ---- the place

  placed_first : (r : Refusal) → first_of (pair_checks a b room ++ entry_checks a) ≡ some r → PlacedIn a r
  unfolding entry_checks each
  placed_first r = entry-placed (mark_at a) (bits_at a (E a)) (E a) (plain_pair a b room) no_checks refl refl r

  placed-own : (r : Refusal) (source : Source) → first_of (own_checks source b) ≡ some r → PlacedIn b r
  unfolding entry_checks each first_of
  placed-own r crusaders h = no_refusal h
  placed-own r direct h = entry-placed (mark_at b) (bits_at b (E b)) (E b) no_checks last_plain refl refl r h

  placed :
      (r : Refusal) → first_of (fallback_checks a b room) ≡ some r → PlacedIn a r ⊎ (NoneApplies (entry_checks a) × PlacedIn b r)
  placed r h = go (first_of (pair_checks a b room ++ entry_checks a)) refl (sym (parted a b room) ∙ h)
    where
      go :
          (x : Check) → first_of (pair_checks a b room ++ entry_checks a) ≡ x
          → or_next x (first_of (own_checks (source_of a) b)) ≡ some r
          → PlacedIn a r ⊎ (NoneApplies (entry_checks a) × PlacedIn b r)
      go none e q =
          inr (none-at (entry_checks a) (none_right (pair_checks a b room) (entry_checks a) e), placed-own r (source_of a) q)
      go (some y) e q = inl (placed_first r (e ∙ q))

  call : FallbackCall a b answer
  unfolding fallback
  call =
      record {
        crusaders_order = crusaders-order;
        direct_order = direct-order;
        gives = gives-first (fallback_checks a b room) (settlement_of a);
        leaves =
            leaves-first (fallback_checks a b room) (settlement_of a)
            (answer_bytes (settings_at a).n (round_at (sheet_by (source_of a) a b) 0)) answer has_room;
        place = λ r h. placed r (refused-some (first_of (fallback_checks a b room)) (settlement_of a) r h);
      }

pub fallback-call : FallbackCalls
fallback-call = call
