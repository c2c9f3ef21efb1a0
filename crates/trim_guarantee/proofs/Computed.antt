-- The claims of specs/Witnesses.antt: the checker computes them from the bytes of the sheets. A check comes to this before
-- it comes to the theorem, so that a false limit is refused by its numbers. What is asked of a sheet is tested as a spread
-- of 0 asks it, with an accuracy that asks nothing.
-- Assumes nothing.
use mathlib.Core.Bool.{Bool, false, not, ◌&&◌}
use mathlib.Core.Path.{◌≡◌, refl}
use Prim.Native.Nat.{ℕ}
use native.Mathlib.Omega.{arith}
use lib.IntN.{pos}
use Rattle.arithmetic.specs.Counting.{count, any_below, lowest, sum, eq_z}
use Rattle.arithmetic.specs.Writing.{table, overwrite}
use Rattle.model.specs.declared.Settings.{Settings}
use Rattle.model.specs.Ensemble.{ticks}
use Rattle.model.specs.RoundSheet.{trimmed_midpoint, trimmed_mean, word, entry_count, entry_at, bytes4, reading_bytes, size_bytes, sheet_bytes}
use Rattle.model.specs.AnswerSheet.{answer_header, answer_bytes}
use Rattle.model.specs.Steps.{readings_of, mean, rank, is_kept, ranked, trimmed_midpoint_of, trimmed_mean_of, trimmed_value}
use Rattle.model.specs.Steps.{trimmed_round, round_by, round_at}
use Rattle.model.specs.Planner.{ceil_div, past_div}
use Rattle.model.specs.Refusals.{first_of, too_short, bad_cabinets, bad_faults, bad_method, bad_window, bad_length, no_room}
use Rattle.model.specs.Refusals.{bad_mark, bad_missing, too_many_faults, bad_spread, settings_checks, spread_checks}
use Rattle.model.specs.Refusals.{entry_checks, settle_checks}
use Rattle.model.specs.Calls.{settle_spread}
use Rattle.run.specs.Rounds.{below}
use Rattle.decision_laws.proofs.Equality.{eq_z-true}
use Rattle.demand_3.proofs.Computed.Tested.{tested}
use Rattle.spread_guarantee.specs.Guarantee.{Cabinet, reading, new_value, bad}
use Rattle.spread_guarantee.specs.Guarantee as spread
use Rattle.spread_guarantee.proofs.Computed.{Tested, reads-tested}
use Rattle.trim_guarantee.specs.Guarantee.{Reads, Alike}
use Rattle.trim_guarantee.specs.Witnesses.{trimmed, five, seven, low, high, five_low, five_high, seven_low, seven_high, bottom, top}
use Rattle.trim_guarantee.specs.Witnesses.{Met, MidpointReached, HalvesReached, MeanReached, TwoFaultyReached, EndsReached, RangeReached}

-- an accuracy that asks nothing of the readings below
abbrev any : ℕ
any = 100

reads_of : (c : Settings) (sound : ℕ → Bool) (p : Cabinet) → spread.Reads c 0 any (pos 0) sound p → Reads c c.window sound p
reads_of c sound p h =
    record {
      bytes = h.bytes;
      passes = h.passes;
      settings = h.settings;
      present = h.present;
      precise = λ r s lr ls er es. omega (arith, h.precise r s lr ls er es);
    }

-- two cabinets read a sound one differently
abbrev differ : Settings → (ℕ → Bool) → Cabinet → Cabinet → Bool
differ c sound p q = any_below (λ r. sound r && not (eq_z (ticks (reading p r)) (ticks (reading q r)))) c.n

alike-tested : (c : Settings) (sound : ℕ → Bool) (p q : Cabinet) → differ c sound p q ≡ false → Alike c sound p q
alike-tested c sound p q e r l g =
    eq_z-true (ticks (reading p r)) (ticks (reading q r))
    (tested sound (λ i. eq_z (ticks (reading p i)) (ticks (reading q i))) c.n e r l g)

met :
    (c : Settings) (sounds t : ℕ) (p q : Cabinet)
    → bad c (below sounds) ≡ t
    → Tested c 0 any (pos 0) (below sounds) p
    → Tested c 0 any (pos 0) (below sounds) q
    → differ c (below sounds) p q ≡ false
    → Met c sounds t p q
met c sounds t p q counts tp tq near =
    record {
      counts = counts;
      reads_low = reads_of c (below sounds) p (reads-tested c 0 any (pos 0) (below sounds) p tp);
      reads_high = reads_of c (below sounds) q (reads-tested c 0 any (pos 0) (below sounds) q tq);
      alike = alike-tested c (below sounds) p q near;
    }

ends :
    (rule : ℕ) → bad (trimmed rule 7) (below 3) ≡ 1
    → Tested (trimmed rule 7) 0 any (pos 0) (below 3) (bottom rule)
    → Tested (trimmed rule 7) 0 any (pos 0) (below 3) (top rule)
    → new_value 0 (bottom rule) ≡ pos 0
    → new_value 0 (top rule) ≡ pos 7
    → EndsReached rule
ends rule counts at-bottom at_top lowest highest =
    record {
      counts = counts;
      reads_bottom =
          reads_of (trimmed rule 7) (below 3) (bottom rule)
          (reads-tested (trimmed rule 7) 0 any (pos 0) (below 3) (bottom rule) at-bottom);
      reads_top =
          reads_of (trimmed rule 7) (below 3) (top rule)
          (reads-tested (trimmed rule 7) 0 any (pos 0) (below 3) (top rule) at_top);
      lowest = lowest;
      highest = highest;
    }

all-reached : MidpointReached × HalvesReached × MeanReached × TwoFaultyReached × RangeReached
unfolding
    count any_below lowest sum table overwrite word entry_count entry_at bytes4 reading_bytes size_bytes sheet_bytes
    answer_header answer_bytes readings_of mean rank is_kept ranked trimmed_midpoint_of trimmed_mean_of trimmed_value trimmed_round
    round_by round_at ceil_div past_div first_of too_short bad_cabinets bad_faults bad_method bad_window bad_length no_room bad_mark
    bad_missing too_many_faults bad_spread settings_checks spread_checks entry_checks settle_checks settle_spread
all-reached = (
  record {
    met = met (trimmed trimmed_midpoint 2) 3 1 (low trimmed_midpoint) (high trimmed_midpoint) refl (refl, refl, refl, refl)
        (refl, refl, refl, refl) refl;
    low_value = refl;
    high_value = refl;
    widest = refl;
  },
  record {
    met = met (trimmed trimmed_mean 2) 3 1 (low trimmed_mean) (high trimmed_mean) refl (refl, refl, refl, refl)
        (refl, refl, refl, refl) refl;
    widest = refl;
  },
  record {
    met = met (five trimmed_mean 4) 4 1 five_low five_high refl (refl, refl, refl, refl) (refl, refl, refl, refl) refl;
    low_value = refl;
    high_value = refl;
    widest = refl;
    odd_widest = refl;
  },
  record {
    met = met (seven trimmed_mean 5) 5 2 seven_low seven_high refl (refl, refl, refl, refl) (refl, refl, refl, refl) refl;
    low_value = refl;
    high_value = refl;
    widest = refl;
    odd_widest = refl;
  },
  record {
    by_midpoint = ends trimmed_midpoint refl (refl, refl, refl, refl) (refl, refl, refl, refl) refl refl;
    by_mean = ends trimmed_mean refl (refl, refl, refl, refl) (refl, refl, refl, refl) refl refl;
  },
)

pub midpoint-reached : MidpointReached
midpoint-reached = all-reached.0

pub halves-reached : HalvesReached
halves-reached = all-reached.1

pub mean-reached : MeanReached
mean-reached = all-reached.2

pub two-faulty-reached : TwoFaultyReached
two-faulty-reached = all-reached.3

pub range-reached : RangeReached
range-reached = all-reached.4
