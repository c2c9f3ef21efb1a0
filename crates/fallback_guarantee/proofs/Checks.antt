-- What the call's checks tell. Where the checks of both sheets pass, each has its own rule, and its settings are within
-- their limits. Where the call is granted, the sheet that settled the round accepts some reading, and the answer sheet
-- is that of its round. A refusal under 10 is the direct sheet's, after the checks of the crusaders sheet.
-- Assumes nothing.
use mathlib.Core.Bool.{not}
use mathlib.Core.List.{List, [], ◌∷◌, ◌++◌, append_assoc}
use mathlib.Core.Option.{none, some}
use mathlib.Core.Path.{◌≡◌, refl, sym, ap, ◌∙◌, subst}
use Prim.Native.Nat.{ℕ, ◌<◌}
use native.Mathlib.Nat.{pos_of_ne-zero}
use native.Mathlib.Omega.{arith}
use borrow.Author.Tests.{eq-eqb, ne_eqb}
use lib.Dec.{eqb}
use lib.ListN.{length, get_or}
use Rattle.arithmetic.specs.Writing.{overwrite}
use Rattle.arithmetic.proofs.Bools.{clash}
use Rattle.model.specs.Refusals.{Refusal}
use Rattle.model.specs.RoundSheet.{fca, cca, settings_at, entry_count, mark_at, bits_at}
use Rattle.model.specs.AnswerSheet.{answer_length, answer_bytes}
use Rattle.model.specs.Steps.{round_at}
use Rattle.model.specs.Refusals.{Check, or_next, first_of, too_many_faults, sheet_checks, entry_checks}
use Rattle.model.specs.Refusals.{too_many_faults_number}
use Rattle.model.specs.Calls.{granted, refused, verdict}
use Rattle.refusal_laws.proofs.Checks.{first_append, none_left, none_right, none-at, when_none}
use Rattle.refusal_laws.proofs.Limits.{Limits, limits}
use Rattle.refusal_laws.proofs.Numbers.{no_refusal, Plain, no_checks, check_more, plain_append}
use Rattle.refusal_laws.proofs.Numbers.{plain_one, plain_sheet, room_says, each, each_at}
use Rattle.sheet_laws.proofs.Checks.{settings-passed}
use Rattle.sheet_laws.proofs.Outcomes.{granted-none, granted-same, refused-some}
use Rattle.demand_1_2.specs.Demand1.{InOrder}
use Rattle.demand_1_2.proofs.Orders.{first-applies, entry-order}
use Rattle.sheet_pairs.specs.Fallback.{Source, crusaders, direct, source_of, sheet_by, pair_checks}
use Rattle.sheet_pairs.specs.Fallback.{own_checks, fallback_checks, Settlement, settlement_of, fallback}
use Rattle.sheet_pairs.proofs.Pairs.{Paired, pair_of, pair-says, fallback-order}

-- ---- which sheet settles the round

abbrev pub rule_of : Source → ℕ
rule_of crusaders = cca
rule_of direct = fca

pub not-both {ℓ} : {X : Type ℓ} {i : Source} → i ≡ crusaders → i ≡ direct → X
not-both {i} p q = let z : ◌≡◌ {A = ℕ} 0 1 = ap rule_of (sym q ∙ p) in absurd (omega arith)

module _ (a : List ℕ) where
  pub by-crusaders : 0 < (round_at a 0).count → source_of a ≡ crusaders
  unfolding source_of
  by-crusaders h = rw (ne_eqb (round_at a 0).count 0 (λ e. omega arith))

  by-direct : (round_at a 0).count ≡ 0 → source_of a ≡ direct
  unfolding source_of
  by-direct h = rw (eq-eqb (round_at a 0).count 0 h)

  some-counted : source_of a ≡ crusaders → 0 < (round_at a 0).count
  some-counted e = pos_of_ne-zero (λ z. not-both e (by-direct z))

-- ---- the checks of both sheets

module _ (a b : List ℕ) (room : ℕ) (pass : first_of (pair_checks a b room) ≡ none) where
  are : Paired a b room
  are = pair_of a b room pass

  sheet-passes : (i : Source) → first_of (sheet_checks (sheet_by i a b)) ≡ none
  sheet-passes crusaders = are.first
  sheet-passes direct = are.second

  pub pair-limits : (i : Source) → Limits (settings_at (sheet_by i a b))
  pair-limits i = limits (settings_at (sheet_by i a b)) (settings-passed (sheet_by i a b) (sheet-passes i))

  pub pair-rule : (i : Source) → (settings_at (sheet_by i a b)).rule ≡ rule_of i
  pair-rule crusaders = are.pair.by_crusaders
  pair-rule direct = are.pair.by_direct

-- ---- what is granted

module _ (a b answer : List ℕ) (i : Source) (size : ℕ)
    (g : (fallback a b answer).verdict ≡ granted (record { source = i; size = size })) where
  abbrev what : Settlement
  what = record { source = i; size = size }

  passes : first_of (fallback_checks a b (length answer)) ≡ none
  unfolding fallback
  passes =
      granted-none (first_of (fallback_checks a b (length answer))) (settlement_of a) what g

  pub granted-source : source_of a ≡ i
  unfolding fallback
  granted-source =
      ap (λ (x : Settlement). x.source)
      (granted-same (first_of (fallback_checks a b (length answer))) (settlement_of a) what g)

  pub granted-pair : first_of (pair_checks a b (length answer)) ≡ none
  unfolding fallback_checks
  granted-pair = none_left (pair_checks a b (length answer)) _ passes

  own-passes : first_of (own_checks i b) ≡ none
  unfolding fallback_checks
  own-passes =
      subst (λ (j : Source). first_of (own_checks j b) ≡ none) granted-source
      (none_right (entry_checks a) _ (none_right (pair_checks a b (length answer)) _ passes))

  -- the answer sheet, where it was written
  pub granted-buffer :
      (fallback a b answer).buffer ≡ overwrite (answer_bytes (settings_at a).n (round_at (sheet_by i a b) 0)) answer
  unfolding fallback
  granted-buffer = rw (passes, granted-source)

few-faults : (k : ℕ) → first_of (too_many_faults k ∷ []) ≡ none → 0 < k
unfolding too_many_faults
few-faults k h =
    pos_of_ne-zero
    (λ z. clash (eq-eqb k 0 z) (when_none (eqb k 0) too_many_faults_number (none-at (too_many_faults k ∷ []) h 0)))

pub granted-count :
    (a b answer : List ℕ) (i : Source) (size : ℕ)
    → (fallback a b answer).verdict ≡ granted (record { source = i; size = size })
    → 0 < (round_at (sheet_by i a b) 0).count
granted-count a b answer crusaders size g = some-counted a (granted-source a b answer crusaders size g)
granted-count a b answer direct size g =
    few-faults (round_at b 0).count (none_right (entry_checks b) _ (own-passes a b answer direct size g))

-- the crusaders sheet's own grant: its checks pass, and it accepts some reading
pub grants-crusaders :
    (a b answer : List ℕ) → first_of (pair_checks a b (length answer)) ≡ none → first_of (entry_checks a) ≡ none
    → 0 < (round_at a 0).count
    → (fallback a b answer).verdict ≡ granted (record { source = crusaders; size = answer_length (settings_at a).n })
unfolding fallback first_of
grants-crusaders a b answer pair entries some-acc =
    rw (fallback-order a b (length answer), pair, entries, by-crusaders a some-acc)

-- ---- a refusal under 10

module _ (a b : List ℕ) (room : ℕ) where
  abbrev E : ℕ
  E = entry_count (settings_at a)

  pub plain_pair : Plain (1 ∷ 2 ∷ 3 ∷ 4 ∷ 5 ∷ 6 ∷ 1 ∷ 2 ∷ 3 ∷ 4 ∷ 5 ∷ 6 ∷ 19 ∷ 7 ∷ []) (pair_checks a b room)
  unfolding pair_checks
  plain_pair =
      plain_append (plain_sheet a)
      (plain_append (plain_sheet b)
      (check_more (pair-says (settings_at a) (settings_at b)) (plain_one (room_says room (answer_length (settings_at a).n)))))

  -- the numbers of the checks before 10
  abbrev numbers : List ℕ
  numbers = 1 ∷ 2 ∷ 3 ∷ 4 ∷ 5 ∷ 6 ∷ 1 ∷ 2 ∷ 3 ∷ 4 ∷ 5 ∷ 6 ∷ 19 ∷ 7 ∷ 8 ∷ 9 ∷ []

  abbrev front : List Check
  front = pair_checks a b room ++ entry_checks a

  pub front-order : InOrder numbers front
  unfolding entry_checks
  front-order = entry-order (mark_at a) (bits_at a E) E plain_pair no_checks

  never-ten : (r : Refusal) → r.number ≡ too_many_faults_number → first_of front ≡ some r → ⊥
  unfolding each
  never-ten r ten h =
      let first = first-applies front r h in
      let other = each_at (λ n. not (eqb n too_many_faults_number)) numbers refl refl first.index in
      let number = front-order.says first.index r first.applies in
      clash other (ap not (eq-eqb (get_or numbers first.index 0) too_many_faults_number (sym number ∙ ten)))

  -- these checks, and then the direct sheet's own
  pub parted : first_of (fallback_checks a b room) ≡ or_next (first_of front) (first_of (own_checks (source_of a) b))
  unfolding fallback_checks
  parted =
      ap first_of (sym (append_assoc (pair_checks a b room) (entry_checks a) (own_checks (source_of a) b)))
      ∙ first_append front (own_checks (source_of a) b)

  -- the checks before it pass, and the direct sheet was to settle the round
  ten-last :
      (r : Refusal) → r.number ≡ too_many_faults_number → first_of (fallback_checks a b room) ≡ some r
      → (first_of (pair_checks a b room) ≡ none) × (source_of a ≡ direct)
  unfolding first_of
  ten-last r ten h = go (first_of front) refl (sym parted ∙ h)
    where
      falls : (i : Source) → first_of (own_checks i b) ≡ some r → i ≡ direct
      falls crusaders e = no_refusal e
      falls direct e = refl

      go :
          (x : Check) → first_of front ≡ x → or_next x (first_of (own_checks (source_of a) b)) ≡ some r
          → (first_of (pair_checks a b room) ≡ none) × (source_of a ≡ direct)
      go none e h = (none_left (pair_checks a b room) (entry_checks a) e, falls (source_of a) h)
      go (some y) e h = absurd (never-ten r ten (e ∙ h))

pub refused-ten :
    (a b answer : List ℕ) (r : Refusal) → (fallback a b answer).verdict ≡ refused r → r.number ≡ too_many_faults_number
    → (first_of (pair_checks a b (length answer)) ≡ none) × (source_of a ≡ direct)
unfolding fallback
refused-ten a b answer r h ten =
    ten-last a b (length answer) r ten
    (refused-some (first_of (fallback_checks a b (length answer))) (settlement_of a) r h)
