-- Document 02, "Paper 7. Fall back to the direct sheet": what the call gives, by what settling each sheet alone gives.
-- The theorem is `fallback-results` of proofs/Results.antt.
--   Kept, SettledBy          a refusal: nothing is shown or written; what one sheet's own settling gives
--   FallbackResults          the call, by the two
use Rattle.std.specs.Prelude.{List, [], ◌≡◌, ℕ, ◌*◌, ◌<◌, length}
use Rattle.std.proofs.Math.Option.{none, some}
use Rattle.model.specs.Refusals.{Refusal}
use Rattle.model.specs.RoundSheet.{word, settings_at, entry_count, bits_at}
use Rattle.model.specs.Refusals.{first_of, too_many_faults_number}
use Rattle.model.specs.Calls.{granted, refused, settle}
use Rattle.sheet_pairs.specs.Fallback.{Source, crusaders, direct, sheet_by, pair_checks, readings_part, fallback}

module _ (a b answer : List ℕ) where
  -- "A refusal shows an empty part", and changes no byte of the buffer
  pub record Kept (r : Refusal) : Type 0 where
    pub verdict : (fallback a b answer).verdict ≡ refused r
    pub shown : (fallback a b answer).shown ≡ []
    pub buffer : (fallback a b answer).buffer ≡ answer

  -- one of the two sheets settled the round: the answer sheet is that of settling it alone, and its readings are shown
  pub record SettledBy (source : Source) (size : ℕ) : Type 0 where
    pub verdict : (fallback a b answer).verdict ≡ granted (record { source = source; size = size })
    pub shown : (fallback a b answer).shown ≡ readings_part (sheet_by source a b)
    pub buffer : (fallback a b answer).buffer ≡ (settle (sheet_by source a b) answer).buffer
    -- the part is the readings without the marks: four bytes each, E of them
    pub long : length (fallback a b answer).shown ≡ 4 * entry_count (settings_at (sheet_by source a b))
    pub readings :
        (e : ℕ) → e < entry_count (settings_at (sheet_by source a b))
        → word (fallback a b answer).shown (4 * e)
        ≡ bits_at (sheet_by source a b) (entry_count (settings_at (sheet_by source a b))) e

  pub record Results : Type 0 where
    -- "Turned away: 19, .. after checks 1 to 6 of the CCA sheet and then of the FCA sheet; 7 follows it"
    pub turned_away : (r : Refusal) → first_of (pair_checks a b (length answer)) ≡ some r → Kept r
    -- where these pass, the CCA sheet is settled
    pub settles :
        first_of (pair_checks a b (length answer)) ≡ none
        → (size : ℕ) → (settle a answer).verdict ≡ granted size → SettledBy crusaders size
    -- "Other refusals of the CCA sheet stand"
    pub stands :
        first_of (pair_checks a b (length answer)) ≡ none
        → (r : Refusal) → (settle a answer).verdict ≡ refused r → (r.number ≡ too_many_faults_number → ⊥) → Kept r
    -- "after a 10 the FCA sheet's own result is given"
    pub falls-back :
        first_of (pair_checks a b (length answer)) ≡ none
        → (r : Refusal) → (settle a answer).verdict ≡ refused r → r.number ≡ too_many_faults_number
        → (size : ℕ) → (settle b answer).verdict ≡ granted size → SettledBy direct size
    pub refuses :
        first_of (pair_checks a b (length answer)) ≡ none
        → (r : Refusal) → (settle a answer).verdict ≡ refused r → r.number ≡ too_many_faults_number
        → (own : Refusal) → (settle b answer).verdict ≡ refused own → Kept own

abbrev pub FallbackResults : Type 0
FallbackResults = (a b answer : List ℕ) → Results a b answer
