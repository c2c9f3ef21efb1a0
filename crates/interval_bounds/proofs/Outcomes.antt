-- What the call gives, by its two checks.
-- Assumes nothing.
use mathlib.Core.Bool.{Bool, true, false}
use mathlib.Core.Option.{none, some}
use mathlib.Core.Path.{◌≡◌, refl, sym, ap, ◌∙◌}
use Prim.Native.Nat.{ℕ}
use lib.Dec.{ltb}
use borrow.Author.Tests.{ltb-true, ltb-false}
use Rattle.model.specs.Refusals.{Check, Refusal, refuse_if, first_of, bad_interval_number, no_interval_number}
use Rattle.model.specs.Calls.{granted, refused, verdict}
use Rattle.refusal_laws.proofs.Checks.{when_none}
use Rattle.interval.specs.Interval.{Interval, out_of_range, interval, interval_checks, bad_interval}
use Rattle.interval.specs.Formula.{least_by, greatest_by}
use Rattle.interval.specs.Guarantee.{InRange}
use Rattle.interval.proofs.Guarantee.{in_range_lem, interval-none, interval-found}

module _ (δ c r : ℕ) where
  -- an input outside its range is refused first
  pub outside_refused : (x : Refusal) → some x ≡ refuse_if (out_of_range δ c r) bad_interval_number
      → refused x ≡ interval δ c r
  unfolding interval interval_checks bad_interval first_of
  outside_refused x e = rw (sym e) refl

  module _ (passed : none ≡ refuse_if (out_of_range δ c r) bad_interval_number) where
    pub inside : InRange δ c r
    inside = in_range_lem δ c r (when_none (out_of_range δ c r) bad_interval_number (sym passed))

    abbrev bounds : Interval
    bounds = record { least = least_by c r; greatest = greatest_by δ c r }

    by_bounds : {check : Check} → check ≡ refuse_if (ltb (greatest_by δ c r) (least_by c r)) no_interval_number
        → verdict check bounds ≡ interval δ c r
    by_bounds e = ap (λ (x : Check). verdict x bounds) e ∙ go (ltb (greatest_by δ c r) (least_by c r)) refl
      where
        go : (b : Bool) → ltb (greatest_by δ c r) (least_by c r) ≡ b
            → verdict (refuse_if b no_interval_number) bounds ≡ interval δ c r
        go true t = sym (interval-none δ c r inside (ltb-true (greatest_by δ c r) (least_by c r) t))
        go false t = sym (interval-found δ c r inside (ltb-false (greatest_by δ c r) (least_by c r) t))

    pub none_refused : (x : Refusal)
        → some x ≡ refuse_if (ltb (greatest_by δ c r) (least_by c r)) no_interval_number → refused x ≡ interval δ c r
    none_refused x e = by_bounds e

    pub bounds_granted : none ≡ refuse_if (ltb (greatest_by δ c r) (least_by c r)) no_interval_number
        → granted bounds ≡ interval δ c r
    bounds_granted e = by_bounds e

-- what each way out says
pub ruleset ways = (outside_refused, none_refused, bounds_granted)
