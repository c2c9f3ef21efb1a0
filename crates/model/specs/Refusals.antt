-- Document 01, "Numbers of refusal" (docs/FORMAT.md, 7): the table, a definition for each check in its order, and the
-- checks that apply to each call. Of what a call is lent to fill they ask the length.
--   too_short_number .. bad_pair_number        the numbers, 1 to 19
--   Check                       what a check gives: its refusal, or nothing
--   refuse_if, at_entry           a check whose place is 0; a check whose place is the lowest entry at fault
--   first_of                     "Checks run in this order, those that apply to the call": the first that refuses
--   too_short .. target_missed    checks 1 to 12
--   bad_spread                   check 16
--   settings_checks              2 to 5, of a sheet's settings
--   planner_checks               2 to 5, of a plan's settings
--   size_checks, sheet_checks     1 to 5, of a sheet's sizes; 1 to 6, of a sheet
--   spread_checks                1 to 5, 16 and 6, of a sheet and a spread
--   array_checks, entry_checks    8 and 9, of two parallel arrays; of a sheet's entries
--   planning_checks              2 to 5 and 11, of settings and a start or a step that fails or not
--   read_checks, write_checks, row_checks, settle_checks, plan_checks, step_checks, target_checks    the checks of each call
use Rattle.std.specs.Prelude.{Bool, cond, not, ◌&&◌, ◌||◌, List, [], ◌∷◌, ◌++◌, ℕ, ◌+◌, ◌*◌, leb, ltb, eqb, length, ℤ}
use Rattle.std.proofs.Math.Option.{Option, none, some}
use Rattle.arithmetic.specs.Counting.{lowest}
use Rattle.model.specs.declared.Settings.{Settings}
use Rattle.model.specs.Ensemble.{max_cabinets, max_window, max_spread}
use Rattle.model.specs.RoundSheet.{fca, trimmed_mean, trims, average, midpoint, header_size}
use Rattle.model.specs.RoundSheet.{byte, settings_at, entry_count, sheet_length}
use Rattle.model.specs.RoundSheet.{mark_at, bits_at, bits_in}
use Rattle.model.specs.AnswerSheet.{answer_length}
use Rattle.model.specs.Steps.{round_at}
use Rattle.model.specs.Planner.{Plan, max_accuracy, max_rounds, max_step_accuracy, window_after}

-- the numbers of the table
abbrev pub too_short_number : ℕ
too_short_number = 1

abbrev pub bad_cabinets_number : ℕ
bad_cabinets_number = 2

abbrev pub bad_faults_number : ℕ
bad_faults_number = 3

abbrev pub bad_method_number : ℕ
bad_method_number = 4

abbrev pub bad_window_number : ℕ
bad_window_number = 5

abbrev pub bad_length_number : ℕ
bad_length_number = 6

abbrev pub no_room_number : ℕ
no_room_number = 7

abbrev pub bad_mark_number : ℕ
bad_mark_number = 8

abbrev pub bad_missing_number : ℕ
bad_missing_number = 9

abbrev pub too_many_faults_number : ℕ
too_many_faults_number = 10

abbrev pub bad_plan_number : ℕ
bad_plan_number = 11

abbrev pub target_missed_number : ℕ
target_missed_number = 12

-- document 02, request 1: 13 to 15 (crates/trace/specs/Replay.antt)
abbrev pub bad_trace_number : ℕ
bad_trace_number = 13

abbrev pub bad_roles_number : ℕ
bad_roles_number = 14

abbrev pub run_stopped_number : ℕ
run_stopped_number = 15

-- document 02, request 2
abbrev pub bad_spread_number : ℕ
bad_spread_number = 16

-- document 02, request 6: 17 and 18 (crates/interval/specs/Interval.antt)
abbrev pub bad_interval_number : ℕ
bad_interval_number = 17

abbrev pub no_interval_number : ℕ
no_interval_number = 18

-- document 02, request 7 (crates/sheet_pairs/specs/Fallback.antt)
abbrev pub bad_pair_number : ℕ
bad_pair_number = 19

-- "A refusal gives its number and a place: for 8 and 9 the lowest entry at fault, else 0"
pub record Refusal : Type 0 where
  pub number : ℕ
  pub place : ℕ

abbrev pub refusal : ℕ → ℕ → Refusal
refusal number place = record { number = number; place = place }

-- what a check gives
abbrev pub Check : Type 0
Check = Option Refusal

abbrev pub refuse_if : Bool → ℕ → Check
refuse_if fails number = cond fails (some (refusal number 0)) none

abbrev pub at_entry : Option ℕ → ℕ → Check
at_entry (some e) number = some (refusal number e)
at_entry none number = none

-- the first refusal stands
abbrev pub or_next : Check → Check → Check
or_next (some r) next = some r
or_next none next = next

unfoldable pub first_of : List Check → Check
first_of [] = none
first_of (r ∷ rs) = or_next r (first_of rs)

-- 1 (stub): "sheet under 8 bytes"
unfoldable pub too_short : List ℕ → Check
too_short s = refuse_if (ltb (length s) header_size) too_short_number

-- 2 (ensemble): "N is 0 or above 64"
unfoldable pub bad_cabinets : Settings → Check
bad_cabinets c = refuse_if (eqb c.n 0 || ltb max_cabinets c.n) bad_cabinets_number

-- 3 (fault plan): "N below 3m+1"
unfoldable pub bad_faults : Settings → Check
bad_faults c = refuse_if (ltb c.n (3 * c.m + 1)) bad_faults_number

-- 4 (rule): "unknown rule or estimator"; document 02, request 5: with rules 2 and 3 "the estimator byte must be 0, else
-- refusal 4"
abbrev pub unknown_method : ℕ → ℕ → Bool
unknown_method rule estimator = ltb trimmed_mean rule || ltb (cond (trims rule) average midpoint) estimator

unfoldable pub bad_method : Settings → Check
bad_method c = refuse_if (unknown_method c.rule c.estimator) bad_method_number

-- "The planner still refuses these rules under 4"
abbrev pub unplanned_method : ℕ → ℕ → Bool
unplanned_method rule estimator = trims rule || ltb midpoint estimator

unfoldable pub unplanned : Settings → Check
unplanned c = refuse_if (unplanned_method c.rule c.estimator) bad_method_number

-- 5 (window): "δ above 1,000,000"
unfoldable pub bad_window : Settings → Check
bad_window c = refuse_if (ltb max_window c.window) bad_window_number

-- 6 (length): "not 8 + 5E bytes"; for the writer "6 when an array is not E long"
unfoldable pub bad_length : ℕ → ℕ → Check
bad_length given wanted = refuse_if (not (eqb given wanted)) bad_length_number

-- 7 (tray): "answer buffer too short"; for the reader "7 when either array is shorter than E", for the writer "7 when
-- its buffer is short"
unfoldable pub no_room : ℕ → ℕ → Check
no_room given wanted = refuse_if (ltb given wanted) no_room_number

-- 8 (mark): "a mark not 0 or 1"
unfoldable pub bad_mark : (ℕ → ℕ) → ℕ → Check
bad_mark mark E = at_entry (lowest (λ e. ltb 1 (mark e)) E) bad_mark_number

-- 9 (ghost): "missing, bytes not zero"
abbrev pub not_zero : ℕ → ℕ → Bool
not_zero mark bits = eqb mark 0 && not (eqb bits 0)

unfoldable pub bad_missing : (ℕ → ℕ) → (ℕ → ℕ) → ℕ → Check
bad_missing mark bits E = at_entry (lowest (λ e. not_zero (mark e) (bits e)) E) bad_missing_number

-- 10 (too many faults): "no reading accepted"; with rules 2 and 3 it "does not arise", since N-2m are counted
unfoldable pub too_many_faults : ℕ → Check
too_many_faults accepted = refuse_if (eqb accepted 0) too_many_faults_number

-- 11 (plan): "starting κ above 1,000,000,000, or above 32 rounds; for a step as said above"
unfoldable pub bad_plan : Bool → Check
bad_plan fails = refuse_if fails bad_plan_number

-- 12 (target): "window after 32 rounds above target"
unfoldable pub target_missed : ℕ → ℕ → Check
target_missed last target = refuse_if (ltb target last) target_missed_number

-- 16: "D above 100,000, or above 0 with CCA" (document 02, request 2); with rules 2 and 3 "D must be 0 here, else
-- refusal 16" (request 5)
abbrev pub unfit_spread : ℕ → ℕ → Bool
unfit_spread rule D = ltb max_spread D || (ltb 0 D && not (eqb rule fca))

unfoldable pub bad_spread : Settings → ℕ → Check
bad_spread c D = refuse_if (unfit_spread c.rule D) bad_spread_number

-- checks 2 to 5, of a sheet's settings
unfoldable pub settings_checks : Settings → List Check
settings_checks c = bad_cabinets c ∷ bad_faults c ∷ bad_method c ∷ bad_window c ∷ []

-- the same of a plan's
unfoldable pub planner_checks : Settings → List Check
planner_checks c = bad_cabinets c ∷ bad_faults c ∷ unplanned c ∷ bad_window c ∷ []

-- checks 1 to 5, of a sheet's sizes
abbrev pub size_checks : List ℕ → List Check
size_checks s = too_short s ∷ settings_checks (settings_at s)

-- checks 1 to 6, of a sheet's sizes and length
unfoldable pub sheet_checks : List ℕ → List Check
sheet_checks s = size_checks s ++ (bad_length (length s) (sheet_length (settings_at s)) ∷ [])

-- with a caller's spread: document 02, request 2: 16 stands "after 5"
unfoldable pub spread_checks : List ℕ → ℕ → List Check
spread_checks s D = size_checks s ++ (bad_spread (settings_at s) D ∷ bad_length (length s) (sheet_length (settings_at s)) ∷ [])

-- checks 8 and 9, of two parallel arrays of E entries: the mark of each, and the bits of its reading. "All marks are
-- checked before any 9"
abbrev pub array_checks : (ℕ → ℕ) → (ℕ → ℕ) → ℕ → List Check
array_checks mark bits E = bad_mark mark E ∷ bad_missing mark bits E ∷ []

-- of a sheet's entries
unfoldable pub entry_checks : List ℕ → List Check
entry_checks s = array_checks (mark_at s) (bits_at s (entry_count (settings_at s))) (entry_count (settings_at s))

-- the reader, lent arrays of these lengths: "refusing under 1 to 9"
unfoldable pub read_checks : List ℕ → ℕ → ℕ → List Check
read_checks s marks readings =
    sheet_checks s
    ++ (no_room marks (entry_count (settings_at s)) ∷ no_room readings (entry_count (settings_at s)) ∷ entry_checks s)

-- the writer, lent a buffer of this length: "refuses under 2 to 9"
unfoldable pub write_checks : Settings → List ℕ → List ℤ → ℕ → List Check
write_checks c marks readings buffer =
    settings_checks c
    ++ (bad_length (length marks) (entry_count c)
    ∷ bad_length (length readings) (entry_count c)
    ∷ no_room buffer (sheet_length c)
    ∷ array_checks (byte marks) (bits_in readings) (entry_count c))

-- the row accessor: "A sheet that checks 1 to 6, 8 or 9 refuse"
unfoldable pub row_checks : List ℕ → List Check
row_checks s = sheet_checks s ++ entry_checks s

-- settling with a spread, lent an answer buffer of this length: checks 1 to 5, 16, and 6 to 10
unfoldable pub settle_checks : List ℕ → ℕ → ℕ → List Check
settle_checks s D answer =
    spread_checks s D
    ++ (no_room answer (answer_length (settings_at s).n) ∷ (entry_checks s ++ (too_many_faults (round_at s D).count ∷ [])))

-- checks 2 to 5, and then 11
abbrev pub planning_checks : Settings → Bool → List Check
planning_checks c fails = planner_checks c ++ (bad_plan fails ∷ [])

-- the planner: checks 2 to 5 and 11
unfoldable pub plan_checks : Settings → ℕ → ℕ → List Check
plan_checks c κ k = planning_checks c (ltb max_accuracy κ || ltb max_rounds k)

-- "A step is refused under 2 to 5, and under 11 when 32 rounds or more are done or the plan's accuracy is above
-- 1,100,000,000"
unfoldable pub step_checks : Plan → List Check
step_checks p = planning_checks p.settings (leb max_rounds p.rounds || ltb max_step_accuracy p.accuracy)

-- the count for a target: checks 2 to 5, 11 and 12
unfoldable pub target_checks : Settings → ℕ → ℕ → List Check
target_checks c κ target =
    planner_checks c ++ (bad_plan (ltb max_accuracy κ) ∷ target_missed (window_after max_rounds c κ) target ∷ [])
