-- The claims of specs/Witnesses.antt: the checker computes them from the bytes of the sheets. A check comes to this
-- before it comes to the theorem, so that a false limit is refused by its numbers.
-- Assumes nothing.
use mathlib.Core.Bool.{Bool, true, false, not, ◌&&◌}
use mathlib.Core.Option.{none}
use mathlib.Core.Path.{◌≡◌, refl}
use Prim.Native.Nat.{ℕ, ◌<◌}
use borrow.Author.Tests.{leb-true, not-true}
use lib.Dec.{leb, lit<}
use lib.IntN.{ℤ, pos, negsuc}
use lib.ListN.{length}
use Rattle.arithmetic.specs.Counting.{count, any_below, lowest, sum}
use Rattle.arithmetic.specs.Writing.{table, overwrite}
use Rattle.arithmetic.proofs.Bools.{and_left, and_right}
use Rattle.model.specs.declared.Settings.{Settings}
use Rattle.model.specs.Ensemble.{is_present, ticks}
use Rattle.model.specs.RoundSheet.{word, settings_at, entry_count, entry_at, bytes4, reading_bytes, size_bytes, sheet_bytes}
use Rattle.model.specs.AnswerSheet.{answer_header, answer_bytes}
use Rattle.model.specs.Steps.{readings_of, accepted, accepted_at, numbered, median_of, estimate, mean, round_of, round_by, round_at}
use Rattle.model.specs.Steps.{span_width}
use Rattle.model.specs.Planner.{ceil_div, past_div}
use Rattle.model.specs.Refusals.{first_of, too_short, bad_cabinets, bad_faults, bad_method, bad_window, bad_length, no_room}
use Rattle.model.specs.Refusals.{bad_mark, bad_missing, too_many_faults, bad_spread, settings_checks, spread_checks}
use Rattle.model.specs.Refusals.{entry_checks, settle_checks}
use Rattle.model.specs.Calls.{settle_spread}
use Rattle.run.specs.Rounds.{below}
use Rattle.refusal_laws.proofs.Checks.{none-at}
use Rattle.sheet_laws.proofs.Words.{all-bytes, bytes-tested}
use Rattle.demand_3.specs.Guarantee.{apart}
use Rattle.demand_3.proofs.Computed.Tested.{tested}
use Rattle.spread_guarantee.specs.Guarantee.{Cabinet, reading, new_value, bad, Reads, Alike}
use Rattle.spread_guarantee.specs.Guarantee.{spread_gap, spread_error}
use Rattle.spread_guarantee.specs.Witnesses.{wired, low, high, paper_gap, Hull, Reached, SpreadReached, WholeReached}
use Rattle.spread_guarantee.specs.Witnesses.{fifth, five_low, five_high, OddSpreadReached}

-- ---- what is asked of a sheet, as tests that compute

module _ (c : Settings) (D κ : ℕ) (truth : ℤ) (good : ℕ → Bool) (p : Cabinet) where
  abbrev close-to : ℕ → ℕ → Bool
  close-to r s = leb (apart (ticks (reading p r)) (ticks (reading p s))) (span_width c D)

  abbrev near-truth : ℕ → Bool
  near-truth r = leb (apart (ticks (reading p r)) truth) κ

  abbrev near-good : ℕ → Bool
  near-good r = not (any_below (λ s. good s && not (close-to r s)) c.n)

  abbrev fine : ℕ → Bool
  fine r = is_present (reading p r) && (near-truth r && near-good r)

  abbrev pub Tested : Type 0
  Tested =
      (all-bytes p.sheet ≡ true)
      × (first_of (settle_checks p.sheet D (length p.buffer)) ≡ none)
      × (settings_at p.sheet ≡ c)
      × (any_below (λ r. good r && not (fine r)) c.n ≡ false)

  pub reads-tested : Tested → Reads c D κ truth good p
  reads-tested (bytes, passes, same, none-amiss) =
      record {
        bytes = bytes-tested p.sheet bytes;
        passes = λ i l. none-at (settle_checks p.sheet D (length p.buffer)) passes i;
        settings = same;
        present = λ r l g. and_left (is_present (reading p r)) _ (is_fine r l g);
        accurate = λ r l g. leb-true _ _ (and_left (near-truth r) _ (is_near r l g));
        precise = λ r s lr ls gr gs.
            leb-true _ _
            (tested good (close-to r) c.n (not-true _ (and_right (near-truth r) (near-good r) (is_near r lr gr))) s ls gs);
      }
    where
      is_fine : (r : ℕ) → r < c.n → good r ≡ true → fine r ≡ true
      is_fine = tested good fine c.n none-amiss

      is_near : (r : ℕ) → r < c.n → good r ≡ true → (near-truth r && near-good r) ≡ true
      is_near r l g = and_right (is_present (reading p r)) _ (is_fine r l g)

-- two cabinets read a good one further apart than D
abbrev apart-at : Settings → ℕ → (ℕ → Bool) → Cabinet → Cabinet → Bool
apart-at c D good p q =
    any_below (λ r. good r && not (leb (apart (ticks (reading p r)) (ticks (reading q r))) D)) c.n

alike-tested :
    (c : Settings) (D : ℕ) (good : ℕ → Bool) (p q : Cabinet) → apart-at c D good p q ≡ false → Alike c D good p q
alike-tested c D good p q e r l g =
    leb-true _ _ (tested good (λ r. leb (apart (ticks (reading p r)) (ticks (reading q r))) D) c.n e r l g)

-- ---- the hull

pub hull_small : Hull 1 2
unfolding count any_below word entry_count entry_at bytes4 reading_bytes size_bytes sheet_bytes readings_of accepted accepted_at
hull_small = record { low_accepted = refl; high_accepted = refl; width = refl; above = lit< tt }

pub hull_widest : Hull 1_000_000 100_000
unfolding count any_below word entry_count entry_at bytes4 reading_bytes size_bytes sheet_bytes readings_of accepted accepted_at
hull_widest = record { low_accepted = refl; high_accepted = refl; width = refl; above = lit< tt }

-- ---- the limits

reached-tested :
    (δ D : ℕ) (lowest highest : ℤ)
    → bad (wired δ) (below 3) ≡ 1
    → Tested (wired δ) D D (pos 0) (below 3) (low δ D)
    → Tested (wired δ) D D (pos 0) (below 3) (high δ D)
    → apart-at (wired δ) D (below 3) (low δ D) (high δ D) ≡ false
    → new_value D (low δ D) ≡ lowest
    → new_value D (high δ D) ≡ highest
    → apart lowest highest ≡ spread_gap (wired δ) D 1
    → apart highest (pos 0) ≡ spread_error (wired δ) D D 1
    → paper_gap (wired δ) D 1 < apart lowest highest
    → Reached δ D lowest highest
reached-tested δ D lowest highest counts at_low at_high near is-low is-high widest farthest passed =
    record {
      met =
          record {
            counts = counts;
            reads_low = reads-tested (wired δ) D D (pos 0) (below 3) (low δ D) at_low;
            reads_high = reads-tested (wired δ) D D (pos 0) (below 3) (high δ D) at_high;
            alike = alike-tested (wired δ) D (below 3) (low δ D) (high δ D) near;
          };
      low_value = is-low;
      high_value = is-high;
      widest = rw (is-low, is-high) widest;
      farthest = rw is-high farthest;
      paper_passed = rw (is-low, is-high) passed;
    }

all-reached : SpreadReached × Reached 2 4 (negsuc 1) (pos 6) × OddSpreadReached
unfolding
    count any_below lowest sum table overwrite word entry_count entry_at bytes4 reading_bytes size_bytes sheet_bytes
    answer_header answer_bytes readings_of accepted accepted_at numbered median_of estimate mean round_of round_by round_at ceil_div past_div first_of
    too_short bad_cabinets bad_faults bad_method bad_window bad_length no_room bad_mark bad_missing too_many_faults bad_spread
    settings_checks spread_checks entry_checks settle_checks settle_spread
all-reached = (
  reached-tested 1 2 (negsuc 0) (pos 3) refl (refl, refl, refl, refl) (refl, refl, refl, refl) refl refl refl refl refl
      (lit< tt),
  reached-tested 2 4 (negsuc 1) (pos 6) refl (refl, refl, refl, refl) (refl, refl, refl, refl) refl refl refl refl refl
      (lit< tt),
  record {
    counts = refl;
    reads_low = reads-tested fifth 1 1 (pos 0) (below 4) five_low (refl, refl, refl, refl);
    reads_high = reads-tested fifth 1 1 (pos 0) (below 4) five_high (refl, refl, refl, refl);
    alike = alike-tested fifth 1 (below 4) five_low five_high refl;
    widest = refl;
    wider = refl;
    farthest = refl;
  },
)

pub spread-reached : SpreadReached
spread-reached = all-reached.0

pub whole-reached : WholeReached
unfolding past_div
whole-reached =
    record {
      reached = all-reached.1;
      past_passed = rw (all-reached.1.low_value, all-reached.1.high_value) (lit< tt);
    }

pub odd-spread-reached : OddSpreadReached
odd-spread-reached = all-reached.2
