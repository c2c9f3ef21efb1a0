-- Document 02, "Paper 7. Fall back to the direct sheet" (docs/FORMAT.md, 16): how far sound cabinets can be from each
-- other and from true time after a round in which each settles its crusaders sheet or falls back to its direct sheet,
-- where t cabinets are bad, t below N-m. The theorem is `fallback-guarantee` of proofs/Guarantee.antt. Stations.antt
-- says the same of the first round of a run, and Witnesses.antt has rounds that reach the limits.
--
-- It is of sheets in bytes. A station gives N, m, δ and κ, and what its good cabinets hold; its own rule and estimator
-- play no part, and every sheet has an estimator of its own. The limits are `wide_gap` and `wide_error` of demand 3
-- (crates/demand_3/specs/Guarantee.antt), for every t below N-m. Exact.antt has them to the tick, and for an odd N.
-- What is not claimed: anything of a later round. "A fallback means that more than m are bad, so no planned window
-- follows it".
--
--   Cabinet               a sound cabinet: its two sheets and its answer buffer, any bytes
--   outcome, new_value     what the call gives it; bytes 6 to 9 of its answer sheet
--   Fits                  a sheet is of the station's N, m and δ
--   Relayed, Heard        what is asked of a crusaders sheet, and of a direct one
--   ReadBy, Settles       one of them, by the sheet that settled the round; a cabinet that is not refused
--   Apart, Astray         any two such cabinets are at most so far apart; any one from true time
--   FallbackLimits        what holds of all of them
--   FallbackGuarantee     of all stations, good sets and true values
use Rattle.std.specs.Prelude.{Bool, true, List, ◌≡◌, ℕ, ◌+◌, ◌*◌, ◌-◌, ◌≤◌, ◌<◌, ℤ, length}
use Rattle.std.proofs.Math.Option.{none}
use Rattle.std.specs.Int.{w32}
use Rattle.std.proofs.Common.{to_z}
use Rattle.model.specs.Ensemble.{Reading}
use Rattle.model.specs.RoundSheet.{word, settings_at, entry_count, entry_at}
use Rattle.model.specs.AnswerSheet.{answer_length}
use Rattle.model.specs.Refusals.{first_of, refusal, too_many_faults_number, entry_checks}
use Rattle.model.specs.Calls.{granted, refused}
use Rattle.sheet_pairs.specs.Fallback.{Source, crusaders, direct, sheet_by, pair_checks, Fallback, fallback}
use Rattle.demand_1_2.specs.Demand2.{Bytes}
use Rattle.run.specs.Run.{Station, N, m, δ}
use Rattle.demand_3.specs.Guarantee.{apart, Good, bad, wide_gap, wide_error}

-- ---- Words

pub record Cabinet : Type 0 where
  pub crusaders_sheet : List ℕ
  pub direct_sheet : List ℕ
  pub buffer : List ℕ

abbrev pub outcome : Cabinet → Fallback
outcome p = fallback p.crusaders_sheet p.direct_sheet p.buffer

abbrev pub new_value : Cabinet → ℤ
new_value p = to_z w32 (word (outcome p).buffer 6)

-- an entry of a sheet
abbrev pub entry : List ℕ → ℕ → Reading
entry s e = entry_at s (entry_count (settings_at s)) e

-- ---- What is asked

-- of a sheet: it is of bytes, and N, m and δ are the station's
pub record Fits (st : Station) (s : List ℕ) : Type 0 where
  pub bytes : Bytes s
  pub cabinets : (settings_at s).n ≡ N st
  pub faults : (settings_at s).m ≡ m st
  pub window : (settings_at s).window ≡ δ st

-- of a crusaders sheet: a good relay hands on what a good cabinet holds. All other copies are anything
abbrev pub Relayed : Station → (ℕ → Bool) → List ℕ → Type 0
Relayed st good s =
    (r i : ℕ) → r < N st → i < N st → good r ≡ true → good i ≡ true → entry s (r * N st + i) ≡ st.first r

-- of a direct sheet: what a good cabinet holds is read. All other readings are anything
abbrev pub Heard : Station → (ℕ → Bool) → List ℕ → Type 0
Heard st good s = (r : ℕ) → r < N st → good r ≡ true → entry s r ≡ st.first r

abbrev pub ReadBy : Station → (ℕ → Bool) → Source → List ℕ → Type 0
ReadBy st good crusaders s = Relayed st good s
ReadBy st good direct s = Heard st good s

-- a sound cabinet that is not refused, by which of its sheets; of its other sheet nothing is asked
pub record Settles (st : Station) (good : ℕ → Bool) (source : Source) (p : Cabinet) : Type 0 where
  pub fits : Fits st (sheet_by source p.crusaders_sheet p.direct_sheet)
  pub reads : ReadBy st good source (sheet_by source p.crusaders_sheet p.direct_sheet)
  pub settles : (outcome p).verdict ≡ granted (record { source = source; size = answer_length (N st) })

-- ---- The limits

module _ (st : Station) (good : ℕ → Bool) where
  -- any two that are not refused, each by either of its sheets
  abbrev pub Apart : ℕ → Type 0
  Apart limit =
      (i j : Source) (p q : Cabinet) → Settles st good i p → Settles st good j q
      → apart (new_value p) (new_value q) ≤ limit

  abbrev pub Astray : ℤ → ℕ → Type 0
  Astray true-value limit = (i : Source) (p : Cabinet) → Settles st good i p → apart (new_value p) true-value ≤ limit

  pub record FallbackLimits (true-value : ℤ) : Type 0 where
    -- "For t below N-m the wider first-round limits must hold between any two sound cabinets, also where one settled by
    -- CCA and the other fell back"
    pub precise : Apart (wide_gap st (bad st good))
    pub accurate : Astray true-value (wide_error st (bad st good))

  -- a sound cabinet's crusaders sheet
  pub record Crusades (p : Cabinet) : Type 0 where
    pub fits : Fits st p.crusaders_sheet
    pub relayed : Relayed st good p.crusaders_sheet

  pub record FallbackMeaning : Type 0 where
    -- "A fallback means that more than m are bad", whatever the direct sheet has
    pub fallen :
        (p : Cabinet) → Crusades p → (size : ℕ)
        → (outcome p).verdict ≡ granted (record { source = direct; size = size }) → m st < bad st good
    -- so does a refusal under 10
    pub refused_10 :
        (p : Cabinet) → Crusades p → (outcome p).verdict ≡ refused (refusal too_many_faults_number 0) → m st < bad st good
    -- with at most m bad a cabinet whose sheets pass the checks before 10 settles its crusaders sheet
    pub planned :
        (p : Cabinet) → Crusades p → bad st good ≤ m st
        → first_of (pair_checks p.crusaders_sheet p.direct_sheet (length p.buffer)) ≡ none
        → first_of (entry_checks p.crusaders_sheet) ≡ none
        → (outcome p).verdict ≡ granted (record { source = crusaders; size = answer_length (N st) })

abbrev pub FallbackGuarantee : Type 0
FallbackGuarantee =
    (st : Station) (good : ℕ → Bool) (true-value : ℤ) → Good st good true-value
    → FallbackMeaning st good × (bad st good < N st - m st → FallbackLimits st good true-value)
