-- Document 02, "Paper 7. Fall back to the direct sheet": demand 1 of the call, as crates/demand_1_2/specs/Demand1.antt
-- has it of the others. Bytes of any kind and any length come in as the CCA sheet a and the FCA sheet b, and one answer
-- sheet or one numbered refusal comes out, the first that applies. The theorem is `fallback-call` of proofs/Call.antt.
--   crusaders_numbers, direct_numbers    the numbers of the checks, where the CCA sheet accepts a reading; where it
--                                      accepts none
--   FallbackCall                       what the call gives, leaves and points at
use Rattle.std.specs.Prelude.{List, [], ◌∷◌, ◌++◌, ◌⊎◌, ◌≡◌, ℕ, length}
use Rattle.model.specs.Refusals.{Refusal}
use Rattle.model.specs.RoundSheet.{settings_at, entry_count, mark_at, bits_at}
use Rattle.model.specs.AnswerSheet.{answer_bytes}
use Rattle.model.specs.Steps.{round_at}
use Rattle.model.specs.Refusals.{entry_checks}
use Rattle.model.specs.Calls.{refused}
use Rattle.sheet_pairs.specs.Fallback.{crusaders, direct, source_of, sheet_by, fallback_checks, settlement_of, fallback}
use Rattle.demand_1_2.specs.Demand1.{NoneApplies, InOrder, Gives, Leaves, Placed}

-- "19, .., after checks 1 to 6 of the CCA sheet and then of the FCA sheet; 7 follows it"; then 8 and 9 of the CCA sheet
abbrev pub crusaders_numbers : List ℕ
crusaders_numbers = 1 ∷ 2 ∷ 3 ∷ 4 ∷ 5 ∷ 6 ∷ 1 ∷ 2 ∷ 3 ∷ 4 ∷ 5 ∷ 6 ∷ 19 ∷ 7 ∷ 8 ∷ 9 ∷ []

-- "after a 10 the FCA sheet's own result is given"
abbrev pub direct_numbers : List ℕ
direct_numbers = crusaders_numbers ++ (8 ∷ 9 ∷ 10 ∷ [])

-- the place of a refusal among a sheet's entries
abbrev pub PlacedIn : List ℕ → Refusal → Type 0
PlacedIn s r = Placed (mark_at s) (bits_at s (entry_count (settings_at s))) (entry_count (settings_at s)) r

pub record FallbackCall (a b answer : List ℕ) : Type 0 where
  pub crusaders_order : source_of a ≡ crusaders → InOrder crusaders_numbers (fallback_checks a b (length answer))
  pub direct_order : source_of a ≡ direct → InOrder direct_numbers (fallback_checks a b (length answer))
  -- what is granted is the sheet that settled the round, and the answer sheet's length
  pub gives :
      Gives (fallback_checks a b (length answer)) (λ x. x ≡ settlement_of a) (fallback a b answer).verdict
  -- the answer sheet is that of the sheet that settled the round; a refusal changes nothing, and later bytes keep what
  -- they had
  pub leaves :
      Leaves (fallback a b answer).verdict
      (answer_bytes (settings_at a).n (round_at (sheet_by (source_of a) a b) 0))
      answer
      (fallback a b answer).buffer
  -- the lowest entry of the CCA sheet, or where that has none at fault, of the FCA sheet
  pub place :
      (r : Refusal) → (fallback a b answer).verdict ≡ refused r
      → PlacedIn a r ⊎ (NoneApplies (entry_checks a) × PlacedIn b r)

abbrev pub FallbackCalls : Type 0
FallbackCalls = (a b answer : List ℕ) → FallbackCall a b answer
