-- Where two checks refuse at once the earlier one stands: for each pair of neighbours in the table of refusals a call that both refuse, and
-- the refusal that it gets. The checker computes each.
-- Assumes nothing.
use mathlib.Core.List.{List, [], ◌∷◌}
use mathlib.Core.Option.{none, some}
use mathlib.Core.Path.{◌≡◌, refl}
use Prim.Native.Nat.{ℕ, ◌+◌, ◌-◌}
use lib.IntN.{ℤ, pos}
use Rattle.arithmetic.specs.Counting.{count, any_below, lowest}
use Rattle.model.specs.declared.Settings.{Settings}
use Rattle.model.specs.Ensemble.{max_window, max_spread}
use Rattle.model.specs.RoundSheet.{fca, cca, trimmed_midpoint, trimmed_mean, average, median, word, entry_count, sheet_length, entry_at, bytes4, reading_bytes}
use Rattle.model.specs.RoundSheet.{size_bytes, sheet_bytes}
use Rattle.model.specs.AnswerSheet.{answer_length}
use Rattle.model.specs.Steps.{readings_of, accepted, accepted_at, round_of, trimmed_round, round_by, round_at}
use Rattle.model.specs.Planner.{max_accuracy, max_rounds, ceil_div, past_div, window_factor, next_window, growth, advance, after}
use Rattle.model.specs.Refusals.{Check, refusal, first_of, too_short, bad_cabinets, bad_faults, bad_method, unplanned, bad_window, bad_length, no_room, bad_mark}
use Rattle.model.specs.Refusals.{bad_missing, too_many_faults, bad_plan, target_missed, bad_spread, settings_checks, planner_checks, sheet_checks, spread_checks, entry_checks}
use Rattle.model.specs.Refusals.{read_checks, write_checks, row_checks, settle_checks, plan_checks, step_checks, target_checks}
use Rattle.model.specs.Refusals.{bad_cabinets_number, bad_faults_number, bad_length_number, bad_mark_number}
use Rattle.model.specs.Refusals.{bad_method_number, bad_missing_number, bad_plan_number, bad_window_number}
use Rattle.model.specs.Refusals.{no_room_number, too_many_faults_number, too_short_number, bad_spread_number}

-- N and m with FCA and median, a rule and a window
abbrev with : ℕ → ℕ → ℕ → ℕ → Settings
with n m rule window = record { n = n; m = m; rule = rule; estimator = median; window = window }

-- a sheet of one cabinet or two, with these marks and readings
abbrev one : ℕ → ℕ → List ℕ
one mark reading = sheet_bytes (with 1 0 fca 0) (mark ∷ []) (pos reading ∷ [])

abbrev two : ℕ → ℕ → ℕ → ℕ → List ℕ
two m0 m1 r0 r1 = sheet_bytes (with 2 0 fca 0) (m0 ∷ m1 ∷ []) (pos r0 ∷ pos r1 ∷ [])

-- a plan for four cabinets
abbrev fourth : ℕ → Settings
fourth window = with 4 1 fca window

-- settling: 1 before 2, and so on, 16 between 5 and 6; with 8 and 9 entry 0 is missing and not zero, and entry 1 has the mark 2
unfoldable pub settle_firsts : List Check
settle_firsts =
    first_of (settle_checks [] 0 0)
    ∷ first_of (settle_checks (sheet_bytes (with 0 1 255 0) [] []) 0 0)
    ∷ first_of (settle_checks (sheet_bytes (with 3 1 255 0) [] []) 0 0)
    ∷ first_of (settle_checks (sheet_bytes (with 4 1 255 (max_window + 1)) [] []) 0 0)
    ∷ first_of (settle_checks (sheet_bytes (with 4 1 fca (max_window + 1)) [] []) (max_spread + 1) 0)
    ∷ first_of (settle_checks (sheet_bytes (with 4 1 fca 0) [] []) (max_spread + 1) 0)
    ∷ first_of (settle_checks (sheet_bytes (with 4 1 cca 0) [] []) 1 0)
    ∷ first_of (settle_checks (sheet_bytes (with 4 1 fca 0) [] []) max_spread 0)
    ∷ first_of (settle_checks (one 2 0) 0 (answer_length 1 - 1))
    ∷ first_of (settle_checks (two 0 2 5 0) 0 (answer_length 2))
    ∷ first_of (settle_checks (two 0 0 0 5) 0 (answer_length 2))
    ∷ first_of (settle_checks (one 0 0) 0 (answer_length 1))
    ∷ []

unfoldable pub settle_wanted : List Check
settle_wanted =
    some (refusal too_short_number 0)
    ∷ some (refusal bad_cabinets_number 0)
    ∷ some (refusal bad_faults_number 0)
    ∷ some (refusal bad_method_number 0)
    ∷ some (refusal bad_window_number 0)
    ∷ some (refusal bad_spread_number 0)
    ∷ some (refusal bad_spread_number 0)
    ∷ some (refusal bad_length_number 0)
    ∷ some (refusal no_room_number 0)
    ∷ some (refusal bad_mark_number 1)
    ∷ some (refusal bad_missing_number 1)
    ∷ some (refusal too_many_faults_number 0)
    ∷ []

pub settle-order : settle_firsts ≡ settle_wanted
unfolding count any_below lowest word entry_count entry_at bytes4 reading_bytes size_bytes sheet_bytes readings_of accepted accepted_at round_of round_by round_at first_of too_short bad_cabinets bad_faults bad_method bad_window bad_length no_room bad_mark bad_missing too_many_faults bad_spread settings_checks spread_checks entry_checks settle_checks settle_firsts settle_wanted
settle-order = refl

-- the reader: 6 before 7, 7 before 8, 8 before 9; the row accessor: 8 before 9; the writer: 5 before 6, 6 before 7, and so on
unfoldable pub carry_firsts : List Check
carry_firsts =
    first_of (read_checks (sheet_bytes (with 1 0 fca 0) [] []) 0 0)
    ∷ first_of (read_checks (one 2 0) 1 0)
    ∷ first_of (read_checks (two 0 2 5 0) 2 2)
    ∷ first_of (row_checks (two 0 2 5 0))
    ∷ first_of (write_checks (with 1 0 fca (max_window + 1)) [] [] 0)
    ∷ first_of (write_checks (with 1 0 fca 0) (1 ∷ []) [] 0)
    ∷ first_of (write_checks (with 1 0 fca 0) (2 ∷ []) (pos 0 ∷ []) (sheet_length (with 1 0 fca 0) - 1))
    ∷ first_of (write_checks (with 2 0 fca 0) (0 ∷ 2 ∷ []) (pos 5 ∷ pos 0 ∷ []) (sheet_length (with 2 0 fca 0)))
    ∷ []

unfoldable pub carry_wanted : List Check
carry_wanted =
    some (refusal bad_length_number 0)
    ∷ some (refusal no_room_number 0)
    ∷ some (refusal bad_mark_number 1)
    ∷ some (refusal bad_mark_number 1)
    ∷ some (refusal bad_window_number 0)
    ∷ some (refusal bad_length_number 0)
    ∷ some (refusal no_room_number 0)
    ∷ some (refusal bad_mark_number 1)
    ∷ []

pub carry_order : carry_firsts ≡ carry_wanted
unfolding lowest word entry_count bytes4 reading_bytes size_bytes sheet_bytes first_of too_short bad_cabinets bad_faults bad_method bad_window bad_length no_room bad_mark bad_missing settings_checks sheet_checks entry_checks read_checks row_checks write_checks carry_firsts carry_wanted
carry_order = refl

-- the planner and a step: 5 before 11; the count for a target: 11 before 12
unfoldable pub plan_firsts : List Check
plan_firsts =
    first_of (plan_checks (fourth (max_window + 1)) (max_accuracy + 1) 0)
    ∷ first_of (step_checks (record { settings = fourth (max_window + 1); accuracy = 0; rounds = max_rounds }))
    ∷ first_of (target_checks (fourth 100) (max_accuracy + 1) 0)
    ∷ []

unfoldable pub plan_wanted : List Check
plan_wanted = some (refusal bad_window_number 0) ∷ some (refusal bad_window_number 0) ∷ some (refusal bad_plan_number 0) ∷ []

pub plan-order : plan_firsts ≡ plan_wanted
unfolding ceil_div past_div window_factor next_window growth advance after first_of bad_cabinets bad_faults unplanned bad_window bad_plan target_missed planner_checks plan_checks step_checks target_checks plan_firsts plan_wanted
plan-order = refl

-- ---- Document 02, request 5: rules 2 and 3, in the sizes of a sheet of four cabinets, and in a plan

abbrev trimmed : ℕ → ℕ → ℕ → Settings
trimmed rule estimator window = record { n = 4; m = 1; rule = rule; estimator = estimator; window = window }

-- none of the readings is present
abbrev silent : ℕ → List ℕ
silent rule = sheet_bytes (trimmed rule average 0) (0 ∷ 0 ∷ 0 ∷ 0 ∷ []) (pos 0 ∷ pos 0 ∷ pos 0 ∷ pos 0 ∷ [])

-- no rule 4; "The estimator byte must be 0, else refusal 4", before 5; "D must be 0 here, else refusal 16", before 6; "refusal 10 does not
-- arise"; "The planner still refuses these rules under 4"
unfoldable pub trimmed_firsts : List Check
trimmed_firsts =
    first_of (settle_checks (sheet_bytes (trimmed (trimmed_mean + 1) average 0) [] []) 0 0)
    ∷ first_of (settle_checks (sheet_bytes (trimmed trimmed_midpoint median (max_window + 1)) [] []) 0 0)
    ∷ first_of (settle_checks (sheet_bytes (trimmed trimmed_mean average (max_window + 1)) [] []) 1 0)
    ∷ first_of (settle_checks (sheet_bytes (trimmed trimmed_midpoint average 0) [] []) 1 0)
    ∷ first_of (settle_checks (sheet_bytes (trimmed trimmed_mean average 0) [] []) 1 0)
    ∷ first_of (settle_checks (silent trimmed_midpoint) 0 (answer_length 4))
    ∷ first_of (settle_checks (silent trimmed_mean) 0 (answer_length 4))
    ∷ first_of (plan_checks (trimmed trimmed_midpoint average (max_window + 1)) 0 0)
    ∷ first_of (step_checks (record { settings = trimmed trimmed_mean average 0; accuracy = 0; rounds = max_rounds }))
    ∷ first_of (target_checks (trimmed trimmed_midpoint average 0) 0 0)
    ∷ []

unfoldable pub trimmed_wanted : List Check
trimmed_wanted =
    some (refusal bad_method_number 0)
    ∷ some (refusal bad_method_number 0)
    ∷ some (refusal bad_window_number 0)
    ∷ some (refusal bad_spread_number 0)
    ∷ some (refusal bad_spread_number 0)
    ∷ none
    ∷ none
    ∷ some (refusal bad_method_number 0)
    ∷ some (refusal bad_method_number 0)
    ∷ some (refusal bad_method_number 0)
    ∷ []

pub trimmed-order : trimmed_firsts ≡ trimmed_wanted
unfolding lowest word entry_count entry_at bytes4 reading_bytes size_bytes sheet_bytes readings_of trimmed_round round_by round_at first_of too_short bad_cabinets bad_faults bad_method unplanned bad_window bad_length no_room bad_mark bad_missing too_many_faults bad_plan target_missed bad_spread settings_checks planner_checks spread_checks entry_checks settle_checks plan_checks step_checks target_checks trimmed_firsts trimmed_wanted
trimmed-order = refl
