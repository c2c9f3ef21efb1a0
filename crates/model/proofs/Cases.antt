-- Document 01's worked cases hold of the definitions: the checker computes each answer.
-- Assumes nothing.
use mathlib.Core.List.{map}
use mathlib.Core.Path.{◌≡◌, refl}
use Rattle.arithmetic.specs.Counting.{count, any_below, lowest, sum}
use Rattle.arithmetic.specs.Writing.{table}
use Rattle.model.specs.RoundSheet.{word, entry_count, entry_at, row_entries, row_part, bytes4, reading_bytes, size_bytes, sheet_bytes}
use Rattle.model.specs.Steps.{decide_row, readings_of, accepted, accepted_at, numbered, average_of, median_of, midpoint_of, estimate, mean, round_of, rank, is_kept, ranked, trimmed_midpoint_of, trimmed_mean_of, trimmed_value, trimmed_round, round_by, round_at}
use Rattle.model.specs.Planner.{ceil_div, past_div, window_factor, next_window, growth, advance, after}
use Rattle.model.specs.Refusals.{first_of, too_short, bad_cabinets, bad_faults, bad_method, unplanned, bad_window, bad_length, no_room, bad_mark, bad_missing, too_many_faults, bad_plan, target_missed, bad_spread, settings_checks, planner_checks, sheet_checks, spread_checks, entry_checks, row_checks, settle_checks, target_checks}
use Rattle.model.specs.Calls.{row}
use Rattle.model.specs.Listing.{digits_up_to, line, cabinet_lines, round_text, refusal_text, listing}
use Rattle.model.specs.Cases.{Case, cases, halves, ask, of_round, sheet1, listing1, sheet10, rows_shown, rows_wanted, spread_shown, spread_wanted, trimmed_shown, trimmed_wanted}

-- cases 1 to 12
pub rounds_on_paper : map (λ (k : Case). ask k.asks) cases ≡ map (λ (k : Case). k.answer) cases
unfolding count any_below lowest sum decide_row readings_of accepted accepted_at numbered average_of median_of midpoint_of estimate mean round_of round_by ceil_div past_div window_factor next_window growth advance after first_of bad_cabinets bad_faults unplanned bad_window too_many_faults bad_plan target_missed planner_checks target_checks cases ask of_round
rounds_on_paper = refl

-- document 02, request 4
pub halves_on_paper : map (λ (k : Case). ask k.asks) halves ≡ map (λ (k : Case). k.answer) halves
unfolding count any_below lowest sum decide_row readings_of accepted accepted_at numbered average_of median_of midpoint_of estimate mean round_of round_by ceil_div past_div window_factor next_window growth advance after first_of too_many_faults halves ask of_round
halves_on_paper = refl

-- the listing of case 1, from the bytes of its sheet
pub listing_on_paper : listing sheet1 ≡ listing1
unfolding count any_below lowest sum table word entry_count entry_at bytes4 reading_bytes size_bytes sheet_bytes readings_of accepted accepted_at numbered median_of estimate mean round_of round_by round_at first_of too_short bad_cabinets bad_faults bad_method bad_window bad_length no_room bad_mark bad_missing too_many_faults settings_checks bad_spread spread_checks entry_checks settle_checks digits_up_to line cabinet_lines round_text refusal_text listing sheet1 listing1
listing_on_paper = refl

-- the rows of cabinets 0 and N-1, and of no cabinet
pub rows_on_paper : rows_shown ≡ rows_wanted
unfolding lowest word entry_count row_entries row_part bytes4 reading_bytes size_bytes sheet_bytes first_of too_short bad_cabinets bad_faults bad_method bad_window bad_length bad_mark bad_missing settings_checks sheet_checks entry_checks row_checks row sheet1 sheet10 rows_shown rows_wanted
rows_on_paper = refl

-- what two cabinets find with a spread
pub spread_on_paper : spread_shown ≡ spread_wanted
unfolding count any_below lowest sum readings_of accepted accepted_at numbered median_of estimate mean round_of round_by spread_shown spread_wanted
spread_on_paper = refl

-- document 02, request 5
pub trimmed_on_paper : trimmed_shown ≡ trimmed_wanted
unfolding count lowest sum table readings_of mean rank is_kept ranked trimmed_midpoint_of trimmed_mean_of trimmed_value trimmed_round round_by trimmed_shown trimmed_wanted
trimmed_on_paper = refl
