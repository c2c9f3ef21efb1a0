-- The answer of the call for the interval tells what it gives.
-- Assumes nothing.
use mathlib.Core.Bool.{true, ◌&&◌}
use mathlib.Core.Logic.{⊎_elim}
use mathlib.Core.Path.{◌≡◌, refl, ap}
use Prim.Native.Nat.{ℕ}
use native.Mathlib.Omega.{arith}
use borrow.Author.Tests.{leb-true}
use lib.Dec.{leb}
use Rattle.arithmetic.proofs.Bools.{and_left, and_right}
use Rattle.model.specs.Refusals.{Refusal}
use Rattle.model.specs.Refusals.{refusal, bad_interval_number, no_interval_number}
use Rattle.model.specs.Calls.{Verdict, granted, refused}
use Rattle.interval.specs.Interval.{Interval, stays_within, starts_within, meets, interval}
use Rattle.interval.specs.Guarantee.{Answered}
use Rattle.interval.proofs.Guarantee.{interval-guarantee}
use Rattle.interval_packing.specs.Answers.{scheduling_of}
use Rattle.call_laws.specs.Statements.{IntervalRefused, IntervalTells, IntervalTold}
use Rattle.call_laws.proofs.Sound.{refusal-tells}

refused_so : (number : ℕ) (r : Refusal) → (leb 17 number && leb number 18) ≡ true → r ≡ refusal number 0
    → IntervalRefused r (scheduling_of (refused r))
refused_so number r h e =
    let is = ap (λ (x : Refusal). x.number) e in
    let place = ap (λ (x : Refusal). x.place) e in
    let least = leb-true 17 number (and_left (leb 17 number) (leb number 18) h) in
    let most = leb-true number 18 (and_right (leb 17 number) (leb number 18) h) in
    record {
      refuses = refusal-tells r (record { first = omega arith; last = omega arith; small = omega arith });
      of-interval = omega arith;
      nowhere = place;
      no_least = refl;
      no_greatest = refl;
    }

tells : (δ c r : ℕ) (v : Verdict Interval) → Answered δ c r v → IntervalTells v (scheduling_of v)
unfolding meets
tells δ c r (granted i) w =
    let is = w.1.0 in
    record {
      answer = refl;
      least = refl;
      greatest = refl;
      some =
          leb-true 1 i.least
          (and_left (leb 1 i.least) (stays_within δ c r i.least && starts_within c r i.least) is.least_meets);
      ordered = (is.all_between i.least is.least_meets).1;
    }
tells δ c r (refused x) w =
    ⊎_elim (λ o. refused_so bad_interval_number x refl o.1) (λ o. refused_so no_interval_number x refl o.1.1) w

pub interval-told : IntervalTold
interval-told δ c r = tells δ c r (interval δ c r) (interval-guarantee.right δ c r)
