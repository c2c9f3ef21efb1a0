-- The rounds of specs/Rounds.antt, computed from the first readings to the last byte. A check comes to them before it
-- comes to the laws, so that a false definition is refused by its numbers.
-- Assumes nothing.
use mathlib.Core.List.{List, [], ◌∷◌}
use mathlib.Core.Path.{◌≡◌, refl, sym, ap, subst, fun_ext, ◌∙◌}
use Prim.Native.Nat.{ℕ, zero, suc}
use lib.ListN.{get_or}
use Rattle.arithmetic.specs.Counting.{count, any_below, lowest, sum}
use Rattle.arithmetic.specs.Writing.{table, overwrite}
use Rattle.model.specs.Ensemble.{Reading, missing, Readings}
use Rattle.model.specs.RoundSheet.{word, entry_count, entry_at, bytes4, reading_bytes, size_bytes, sheet_bytes}
use Rattle.model.specs.AnswerSheet.{answer_header, answer_bytes}
use Rattle.model.specs.Steps.{decide_row, readings_of, accepted, accepted_at, numbered, average_of, median_of, midpoint_of}
use Rattle.model.specs.Steps.{estimate, mean, round_of, round_by, round_at}
use Rattle.model.specs.Planner.{ceil_div, past_div, window_factor, next_window, growth, advance}
use Rattle.model.specs.Refusals.{first_of, too_short, bad_cabinets, bad_faults, bad_method, bad_window, bad_length, no_room}
use Rattle.model.specs.Refusals.{bad_mark, bad_missing, too_many_faults, bad_plan, bad_spread, unplanned, settings_checks, planner_checks, spread_checks}
use Rattle.model.specs.Refusals.{entry_checks, write_checks, settle_checks, plan_checks, step_checks}
use Rattle.model.specs.Calls.{write, settle_spread, settle, step}
use Rattle.run.specs.Run.{Station, State, Sends, heard, entry_of, sheet_of, settled, next, start, state_after}
use Rattle.model.specs.Cases.{at, minus}
use Rattle.run.specs.Rounds.{held_after, unstepped, listed, wide_station, wide_sends, exact_station, exact_sends, half_station, half_sends}
use Rattle.run.specs.Rounds.{close_station, close_sends, one_more_station, one_more_sends, median_station, median_sends, average_station, average_sends}
use Rattle.run.specs.Rounds.{odd_wide_station, odd_wide_sends, odd_close_station, odd_close_sends, pair_station, pair_sends}
use Rattle.run.specs.Rounds.{odd_rows_station, odd_rows_sends, still_station, still_sends}
use Rattle.run.specs.Rounds.{both_station, both_sends, mixed_station, mixed_sends}
use Rattle.run.specs.Rounds.{direct_station, direct_first, direct_second, direct_next, direct_sends}
use Rattle.run.specs.Rounds.{crusaders_station, crusaders_first, crusaders_second, crusaders_next, RoundsComputed}

-- a round, with all that it computes by: whoever unfolds it unfolds its line
unfoldable pub computed : Station → State → Sends → State
unfolding count any_below lowest sum table overwrite
    word entry_count entry_at bytes4 reading_bytes size_bytes sheet_bytes answer_header answer_bytes
    decide_row readings_of accepted accepted_at numbered average_of median_of midpoint_of estimate mean round_of round_by round_at
    ceil_div past_div window_factor next_window growth advance
    first_of too_short bad_cabinets bad_faults bad_method bad_window bad_length no_room bad_mark bad_missing too_many_faults bad_plan
    bad_spread unplanned settings_checks planner_checks spread_checks entry_checks write_checks settle_checks plan_checks step_checks
    write settle_spread settle step heard entry_of sheet_of settled next listed
computed = next

-- A second round is computed from what the first gave, written out, and not from the first round once more for each
-- entry. `with3 a b c h` is a, b, c and then what `h` has, which is `h` where its first three are these.
unfoldable with3 : Reading → Reading → Reading → Readings → Readings
with3 a b c h zero = a
with3 a b c h (suc zero) = b
with3 a b c h (suc (suc zero)) = c
with3 a b c h (suc (suc (suc p))) = h (suc (suc (suc p)))

module _ (h : Readings) {a b c : Reading} (e : table h 3 ≡ a ∷ b ∷ c ∷ []) where
  nth : (p : ℕ) → get_or (table h 3) p missing ≡ get_or (a ∷ b ∷ c ∷ []) p missing
  nth p = ap (λ (l : List Reading). get_or l p missing) e

  with3-at : (p : ℕ) → with3 a b c h p ≡ h p
  unfolding table with3
  with3-at zero = sym (nth 0)
  with3-at (suc zero) = sym (nth 1)
  with3-at (suc (suc zero)) = sym (nth 2)
  with3-at (suc (suc (suc p))) = refl

  with3-same : with3 a b c h ≡ h
  with3-same = fun_ext with3-at

  -- a second round from these three
  from3 : (now : State) (st : Station) (x : Sends) {l : List Reading}
      → held_after st (record { plan = now.plan; held = with3 a b c h }) x 3 ≡ l
      → held_after st (record { plan = now.plan; held = h }) x 3 ≡ l
  from3 now st x {l} r =
      subst (λ (g : Readings). held_after st (record { plan = now.plan; held = g }) x 3 ≡ l) with3-same r

direct-from :
    held_after direct_station (record { plan = direct_next.plan; held = with3 (minus 25) (at 25) (at 0) direct_next.held }) direct_second 3
    ≡ minus 13 ∷ at 13 ∷ at 0 ∷ []
direct-from = unfold computed with3 direct_station direct_first direct_second direct_next in refl

direct_again :
    held_after direct_station
    (record { plan = (unstepped direct_station direct_next).plan; held = with3 (minus 25) (at 25) (at 0) direct_next.held })
    direct_second 3
    ≡ minus 13 ∷ at 13 ∷ at 22 ∷ []
direct_again = unfold computed with3 direct_station direct_first direct_second direct_next in refl

crusaders-from :
    held_after crusaders_station
    (record { plan = crusaders_next.plan; held = with3 (at 26) (at 0) (at 0) crusaders_next.held })
    crusaders_second 3
    ≡ at 6 ∷ at 6 ∷ at 6 ∷ []
crusaders-from = unfold computed with3 crusaders_station crusaders_first crusaders_second crusaders_next in refl

crusaders_again :
    held_after crusaders_station
    (record { plan = (unstepped crusaders_station crusaders_next).plan; held = with3 (at 26) (at 0) (at 0) crusaders_next.held })
    crusaders_second 3
    ≡ at 6 ∷ at 19 ∷ at 6 ∷ []
crusaders_again = unfold computed with3 crusaders_station crusaders_first crusaders_second crusaders_next in refl

direct-held : table direct_next.held 3 ≡ minus 25 ∷ at 25 ∷ at 0 ∷ []
direct-held = unfold computed direct_station direct_first direct_next in refl

crusaders-held : table crusaders_next.held 3 ≡ at 26 ∷ at 0 ∷ at 0 ∷ []
crusaders-held = unfold computed crusaders_station crusaders_first crusaders_next in refl

direct-next-held : held_after direct_station direct_next direct_second 3 ≡ minus 13 ∷ at 13 ∷ at 0 ∷ []
direct-next-held = from3 direct_next.held direct-held direct_next direct_station direct_second direct-from

two-rounds :
    (st : Station) (sends : ℕ → Sends) → state_after st sends 2 ≡ next st (next st (start st) (sends 0)) (sends 1)
unfolding state_after
two-rounds st sends = refl

pub rounds-computed : RoundsComputed
rounds-computed =
    record {
      wide = unfold computed wide_station wide_sends in refl;
      exact = unfold computed exact_station exact_sends in refl;
      odd_wide = unfold computed odd_wide_station odd_wide_sends in refl;
      half = unfold computed half_station half_sends in refl;
      close = unfold computed close_station close_sends in refl;
      one_more = unfold computed one_more_station one_more_sends in refl;
      odd_close = unfold computed odd_close_station odd_close_sends in refl;
      odd_rows = unfold computed odd_rows_station odd_rows_sends in refl;
      still = unfold computed still_station still_sends in refl;
      pair = unfold computed pair_station pair_sends in refl;
      median = unfold computed median_station median_sends in refl;
      average = unfold computed average_station average_sends in refl;
      both = unfold computed both_station both_sends in refl;
      mixed = unfold computed mixed_station mixed_sends in refl;
      direct-first = direct-held;
      direct-second = direct-next-held;
      direct-run =
          unfold direct_sends direct_next in
          ap (λ (now : State). table now.held 3) (two-rounds direct_station direct_sends) ∙ direct-next-held;
      direct_repeated =
          from3 direct_next.held direct-held (unstepped direct_station direct_next) direct_station direct_second
          direct_again;
      crusaders-first = crusaders-held;
      crusaders-second =
          from3 crusaders_next.held crusaders-held crusaders_next crusaders_station crusaders_second
          crusaders-from;
      crusaders_repeated =
          from3 crusaders_next.held crusaders-held (unstepped crusaders_station crusaders_next) crusaders_station
          crusaders_second crusaders_again;
    }
