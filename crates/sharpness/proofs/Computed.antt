-- The round of Worst.antt for two stations of seven with a window of 7, computed from the first readings to
-- the last byte. A check comes to them before it comes to the theorem, so that a false statement is refused by its
-- numbers.
-- Assumes nothing.
use mathlib.Core.Path.{refl}
use native.Mathlib.Omega.{arith}
use lib.Dec.{lit<, lit≤}
use Rattle.arithmetic.specs.Counting.{count, any_below, lowest, sum}
use Rattle.arithmetic.specs.Writing.{table, overwrite}
use Rattle.model.specs.RoundSheet.{word, entry_count, entry_at, bytes4, reading_bytes, size_bytes, sheet_bytes}
use Rattle.model.specs.AnswerSheet.{answer_header, answer_bytes}
use Rattle.model.specs.Steps.{decide_row, readings_of, accepted, accepted_at, numbered, average_of, median_of, midpoint_of}
use Rattle.model.specs.Steps.{estimate, mean, round_of, round_by, round_at}
use Rattle.model.specs.Planner.{ceil_div, past_div, window_factor, next_window, growth, advance}
use Rattle.model.specs.Refusals.{first_of, too_short, bad_cabinets, bad_faults, bad_method, bad_window, bad_length, no_room}
use Rattle.model.specs.Refusals.{bad_mark, bad_missing, too_many_faults, bad_plan, bad_spread, unplanned, settings_checks, planner_checks, spread_checks}
use Rattle.model.specs.Refusals.{entry_checks, write_checks, settle_checks, plan_checks, step_checks}
use Rattle.model.specs.Calls.{write, settle_spread, settle, step}
use Rattle.run.specs.Run.{Station, State, Sends, heard, entry_of, sheet_of, settled, next}
use Rattle.run.specs.Rounds.{below, listed}
use Rattle.demand_3.specs.Exact.{half_up, half_down}
use Rattle.sharpness.specs.Sharpness.{Covered, Reached}
use Rattle.sharpness.proofs.Worst.{spread, base, first_reading, worst_station, worst_sends, true_value}
use Rattle.sharpness.proofs.Run.{meets}

-- a round, with all that it computes by: whoever unfolds it unfolds its line
computed : Station → State → Sends → State
unfolding count any_below lowest sum table overwrite
    word entry_count entry_at bytes4 reading_bytes size_bytes sheet_bytes answer_header answer_bytes
    decide_row readings_of accepted accepted_at numbered average_of median_of midpoint_of estimate mean round_of round_by round_at
    ceil_div past_div window_factor next_window growth advance
    first_of too_short bad_cabinets bad_faults bad_method bad_window bad_length no_room bad_mark bad_missing too_many_faults bad_plan
    bad_spread unplanned settings_checks planner_checks spread_checks entry_checks write_checks settle_checks plan_checks step_checks
    write settle_spread settle step heard entry_of sheet_of settled next listed spread base first_reading worst_station worst_sends
    half_up half_down
computed = next

-- three of seven bad: two good ones at 0 and two at 7
three_covered : Covered 7 2 3 7 4
unfolding computed
three_covered = record { grants = refl; more = lit< tt; fewer = lit< tt; crowded = lit≤ tt; inexact = omega arith }

pub three-reached : Reached 7 2 3 7 4
unfolding computed
three-reached =
    record {
      station = worst_station 7 2 3 7 4;
      round = worst_sends 7 2 3 7 4;
      good = below 4;
      true-value = true_value 7 2 3 7 4;
      p = 0;
      q = 1;
      chosen = refl;
      accuracy = refl;
      meets = meets 7 2 3 7 4 three_covered;
      counts = refl;
      sound = ((lit< tt, refl), (lit< tt, refl));
      unrefused = (refl, refl);
      farthest = refl;
      widest = λ _. refl;
    }

-- four of seven bad: good ones at 1, 8 and 5
four_covered : Covered 7 2 4 7 4
unfolding computed
four_covered = record { grants = refl; more = lit< tt; fewer = lit< tt; crowded = lit≤ tt; inexact = omega arith }

pub four-reached : Reached 7 2 4 7 4
unfolding computed
four-reached =
    record {
      station = worst_station 7 2 4 7 4;
      round = worst_sends 7 2 4 7 4;
      good = below 3;
      true-value = true_value 7 2 4 7 4;
      p = 0;
      q = 1;
      chosen = refl;
      accuracy = refl;
      meets = meets 7 2 4 7 4 four_covered;
      counts = refl;
      sound = ((lit< tt, refl), (lit< tt, refl));
      unrefused = (refl, refl);
      farthest = refl;
      widest = λ _. refl;
    }
