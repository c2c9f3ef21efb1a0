-- Document 02, "Paper 7. Fall back to the direct sheet" (docs/FORMAT.md, 16): "When CCA finds too many faults, a
-- dispatcher wants FCA tried on what was heard directly". "The call gets a CCA sheet and an FCA sheet, with D 0", here
-- a and b, and an answer buffer.
--   Source, source_of            which of the two sheets settles the round
--   paired, bad_pair             check 19
--   pair_checks                  1 to 6 of both sheets, 19 and 7
--   own_checks, fallback_checks   8 to 10 of the FCA sheet, after a 10 of the CCA sheet; all checks of the call
--   readings_part                the part of a sheet that holds its readings
--   Settlement, Fallback        what the call grants; what it gives, shows and leaves
--   shown_by, fallback           the part that is shown; the call
use Rattle.std.specs.Prelude.{Bool, not, cond, ◌&&◌, List, [], ◌∷◌, ◌++◌, ℕ, ◌+◌, ◌*◌, eqb, length, take, drop}
use Rattle.arithmetic.specs.Writing.{overwrite}
use Rattle.model.specs.declared.Settings.{Settings}
use Rattle.model.specs.RoundSheet.{fca, cca, header_size, settings_at, entry_count}
use Rattle.model.specs.AnswerSheet.{answer_length, answer_bytes}
use Rattle.model.specs.Steps.{round_at}
use Rattle.model.specs.Refusals.{Check, refuse_if, first_of, no_room, too_many_faults, bad_pair_number}
use Rattle.model.specs.Refusals.{sheet_checks, entry_checks}
use Rattle.model.specs.Calls.{Verdict, granted, refused, verdict, lent}

-- "It answers which one settled the round": the CCA sheet, or the FCA sheet
pub data Source : Type 0 where
  crusaders : Source
  direct : Source

-- "When CCA finds too many faults": it accepts no reading
abbrev pub source_by : ℕ → Source
source_by accepted = cond (eqb accepted 0) direct crusaders

unfoldable pub source_of : List ℕ → Source
source_of a = source_by (round_at a 0).count

abbrev pub sheet_by : Source → List ℕ → List ℕ → List ℕ
sheet_by crusaders a b = a
sheet_by direct a b = b

-- ---- The checks

-- 19: "the sheets differ in N, m or δ, or are not CCA then FCA"; estimators may differ
abbrev pub paired : Settings → Settings → Bool
paired c d =
    eqb c.n d.n
    && (eqb c.m d.m && (eqb c.window d.window && (eqb c.rule cca && eqb d.rule fca)))

unfoldable pub bad_pair : Settings → Settings → Check
bad_pair c d = refuse_if (not (paired c d)) bad_pair_number

-- "after checks 1 to 6 of the CCA sheet and then of the FCA sheet; 7 follows it"; the answer buffer has this length
unfoldable pub pair_checks : List ℕ → List ℕ → ℕ → List Check
pair_checks a b answer =
    sheet_checks a
    ++ (sheet_checks b
    ++ (bad_pair (settings_at a) (settings_at b) ∷ no_room answer (answer_length (settings_at a).n) ∷ []))

-- "after a 10 the FCA sheet's own result is given"; while the CCA sheet settles, the FCA sheet's entries are not looked
-- at
abbrev pub own_checks : Source → List ℕ → List Check
own_checks crusaders b = []
own_checks direct b = entry_checks b ++ (too_many_faults (round_at b 0).count ∷ [])

-- "Other refusals of the CCA sheet stand": 8 and 9 of its entries
unfoldable pub fallback_checks : List ℕ → List ℕ → ℕ → List Check
fallback_checks a b answer = pair_checks a b answer ++ (entry_checks a ++ own_checks (source_of a) b)

-- ---- What is shown

-- a sheet's readings: four bytes each, E of them, behind the sizes and the marks
abbrev pub readings_start : Settings → ℕ
readings_start c = header_size + entry_count c

abbrev pub readings_length : Settings → ℕ
readings_length c = 4 * entry_count c

unfoldable pub readings_part : List ℕ → List ℕ
readings_part s = take (readings_length (settings_at s)) (drop (readings_start (settings_at s)) s)

-- ---- The call

-- what is granted: which sheet settled the round, and the answer sheet's length
pub record Settlement : Type 0 where
  pub source : Source
  pub size : ℕ

pub record Fallback : Type 0 where
  pub verdict : Verdict Settlement
  pub shown : List ℕ
  pub buffer : List ℕ

-- "shows the readings of whichever sheet settled the round"; "A refusal shows an empty part"
abbrev pub shown_by : Verdict Settlement → List ℕ → List ℕ → List ℕ
shown_by (granted x) a b = readings_part (sheet_by x.source a b)
shown_by (refused r) a b = []

abbrev pub settlement_of : List ℕ → Settlement
settlement_of a = record { source = source_of a; size = answer_length (settings_at a).n }

-- the answer sheet is that of the sheet that settles the round
abbrev pub fallback_after : Check → List ℕ → List ℕ → List ℕ → Fallback
fallback_after check a b answer =
    record {
      verdict = verdict check (settlement_of a);
      shown = shown_by (verdict check (settlement_of a)) a b;
      buffer =
          lent check (overwrite (answer_bytes (settings_at a).n (round_at (sheet_by (source_of a) a b) 0)) answer) answer;
    }

unfoldable pub fallback : List ℕ → List ℕ → List ℕ → Fallback
fallback a b answer = fallback_after (first_of (fallback_checks a b (length answer))) a b answer
