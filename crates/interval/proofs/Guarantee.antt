-- What the call gives, by the least and the greatest that the code finds, and the statement of specs/Guarantee.antt.
-- Assumes nothing.
use mathlib.Core.Bool.{Bool, true, false, not, ◌&&◌, ◌||◌}
use mathlib.Core.Logic.{◌⊎◌, inl, inr, ⊎_elim}
use mathlib.Core.Option.{none, some}
use mathlib.Core.Path.{◌≡◌, refl, sym, ap, ap₂, ◌∙◌, subst⁻¹}
use Prim.Native.Nat.{ℕ, suc, ◌*◌, ◌-◌, ◌/◌, ◌≤◌, ◌<◌}
use native.Mathlib.Nat.{le_refl, le_trans, le_antisymm, mul-le-mul_right, div-lt_iff_lt-mul}
use native.Mathlib.Omega.{arith}
use borrow.Author.Tests.{le-leb, lt-leb, leb-true, leb-false, lt-ltb, le-ltb, ltb-true, ltb-false}
use lib.Dec.{leb, ltb}
use Rattle.arithmetic.specs.Counting.{any_below, lowest, highest}
use Rattle.arithmetic.proofs.Bools.{both_ways, clash, and_left, and_right, and_intro, and_false, or_left, or_right}
use Rattle.arithmetic.proofs.Bools.{or_cases, or_false}
use Rattle.arithmetic.proofs.Counting.{any-true, any_false, lowest-some, highest-some}
use Rattle.model.specs.Refusals.{Refusal}
use Rattle.model.specs.Ensemble.{max_window}
use Rattle.model.specs.Refusals.{Check, refusal, or_next, first_of, bad_interval_number, no_interval_number}
use Rattle.model.specs.Calls.{Verdict, granted, refused}
use Rattle.interval.specs.Interval.{max_precision, max_drift, stays_within, starts_within, meets, searched, out_of_range, bad_interval, no_interval, interval_checks}
use Rattle.interval.specs.Interval.{Interval, found, interval}
use Rattle.interval.specs.Formula.{least_by, greatest_by}
use Rattle.interval.specs.Guarantee.{InRange, IsInterval, most_interval, Answered, IntervalGuarantee, NoIntervalReasons}
use Rattle.interval.proofs.Formula.{stays-up-to, starts_from, least-positive, greatest-narrow, greatest-wide, meets-between}

-- ---- the ranges

pub in_range_lem : (δ c r : ℕ) → out_of_range δ c r ≡ false → InRange δ c r
unfolding out_of_range
in_range_lem δ c r e =
    let rest = or_right (ltb max_window δ) (ltb max_precision c || (ltb r 1 || ltb max_drift r)) e in
    let drift = or_right (ltb max_precision c) (ltb r 1 || ltb max_drift r) rest in
    record {
      window = ltb-false max_window δ (or_left (ltb max_window δ) (ltb max_precision c || (ltb r 1 || ltb max_drift r)) e);
      precision = ltb-false max_precision c (or_left (ltb max_precision c) (ltb r 1 || ltb max_drift r) rest);
      some_drift = ltb-false r 1 (or_left (ltb r 1) (ltb max_drift r) drift);
      drift = ltb-false max_drift r (or_right (ltb r 1) (ltb max_drift r) drift);
    }

in_range-passes : (δ c r : ℕ) → InRange δ c r → out_of_range δ c r ≡ false
unfolding out_of_range
in_range-passes δ c r h =
    or_false
    (le-ltb max_window δ h.window)
    (or_false (le-ltb max_precision c h.precision) (or_false (le-ltb r 1 h.some_drift) (le-ltb max_drift r h.drift)))

bad-outside : (δ c r : ℕ) → out_of_range δ c r ≡ true → bad_interval δ c r ≡ some (refusal bad_interval_number 0)
unfolding bad_interval
bad-outside δ c r e = rw e refl

first-outside : (δ c r : ℕ) → out_of_range δ c r ≡ true → first_of (interval_checks δ c r) ≡ some (refusal bad_interval_number 0)
unfolding interval_checks first_of
first-outside δ c r e = ap (λ (x : Check). or_next x (or_next (no_interval δ c r) none)) (bad-outside δ c r e)

pub interval-outside : (δ c r : ℕ) → out_of_range δ c r ≡ true → interval δ c r ≡ refused (refusal bad_interval_number 0)
unfolding interval
interval-outside δ c r e = rw (first-outside δ c r e) refl

module _ (δ c r : ℕ) (h : InRange δ c r) where
  abbrev least : ℕ
  least = least_by c r

  abbrev greatest : ℕ
  greatest = greatest_by δ c r

  both : (R : ℕ) → meets δ c r R ≡ (leb R greatest && leb least R)
  both R = meets-between r h.drift δ c R h.some_drift

  pub meets-from-to : (R : ℕ) → least ≤ R → R ≤ greatest → meets δ c r R ≡ true
  meets-from-to R l k = both R ∙ and_intro (le-leb R greatest k) (le-leb least R l)

  pub meets-only : (R : ℕ) → meets δ c r R ≡ true → (least ≤ R) × (R ≤ greatest)
  meets-only R e =
      let t = sym (both R) ∙ e in (
        leb-true least R (and_right (leb R greatest) (leb least R) t),
        leb-true R greatest (and_left (leb R greatest) (leb least R) t),
      )

  below_fails : (R : ℕ) → R < least → meets δ c r R ≡ false
  below_fails R l = both R ∙ and_false (leb R greatest) (lt-leb least R l)

  above_fails : (R : ℕ) → greatest < R → meets δ c r R ≡ false
  above_fails R l = both R ∙ ap (λ (b : Bool). b && leb least R) (lt-leb R greatest l)

  pub greatest-most : greatest ≤ most_interval
  unfolding greatest_by
  greatest-most =
      let window = h.window in
      let some = h.some_drift in
      let drift = h.drift in
      let narrow : δ - c ≤ max_window = omega arith in
      let product : (δ - c) * (2000000 - r) ≤ max_window * (2000000 - r) = mul-le-mul_right (2000000 - r) narrow in
      let divisor : 0 < 2 * r = omega arith in
      let dividend : (δ - c) * (2000000 - r) < suc most_interval * (2 * r) = omega arith in
      let below : (δ - c) * (2000000 - r) / (2 * r) < suc most_interval = (div-lt_iff_lt-mul divisor).1 dividend in
      omega arith

  module _ (ordered : least ≤ greatest) where
    fits : (R : ℕ) → R ≤ greatest → R < searched
    unfolding searched
    fits R l = let most = greatest-most in omega arith

    any_found : any_below (meets δ c r) searched ≡ true
    any_found = any-true (meets δ c r) searched least (fits least ordered) (meets-from-to least (le_refl least) ordered)

    least-found : lowest (meets δ c r) searched ≡ some least
    least-found =
        lowest-some (meets δ c r) searched least (fits least ordered) (meets-from-to least (le_refl least) ordered) below_fails

    greatest-found : highest (meets δ c r) searched ≡ some greatest
    greatest-found =
        highest-some (meets δ c r) searched greatest (fits greatest (le_refl greatest))
        (meets-from-to greatest ordered (le_refl greatest)) (λ j l _. above_fails j l)

    pub interval-found : interval δ c r ≡ granted (record { least = least; greatest = greatest })
    unfolding interval interval_checks bad_interval no_interval first_of
    interval-found = rw (in_range-passes δ c r h, any_found, least-found, greatest-found) refl

  module _ (none : greatest < least) where
    pub none-meets : (R : ℕ) → meets δ c r R ≡ false
    none-meets R =
        ⊎_elim
        (λ (e : leb least R ≡ true). let l = leb-true least R e in above_fails R (omega arith))
        (λ (e : leb least R ≡ false). below_fails R (leb-false least R e))
        (both_ways (leb least R))

    pub interval-none : interval δ c r ≡ refused (refusal no_interval_number 0)
    unfolding interval interval_checks bad_interval no_interval first_of
    interval-none =
        rw (in_range-passes δ c r h, any_false (meets δ c r) searched (λ R _. none-meets R)) refl

-- ---- the statement

interval-right : (δ c r : ℕ) → Answered δ c r (interval δ c r)
interval-right δ c r =
    ⊎_elim
    (λ (e : out_of_range δ c r ≡ true).
    subst⁻¹ (Answered δ c r) (interval-outside δ c r e)
    (inl ((λ h. clash e (in_range-passes δ c r h)), refl)))
    (λ (e : out_of_range δ c r ≡ false). inside (in_range_lem δ c r e))
    (both_ways (out_of_range δ c r))
  where
    inside : InRange δ c r → Answered δ c r (interval δ c r)
    inside h =
        ⊎_elim
        (λ (e : leb (least_by c r) (greatest_by δ c r) ≡ true).
        let some = leb-true (least_by c r) (greatest_by δ c r) e in
        subst⁻¹ (Answered δ c r) (interval-found δ c r h some) (
          h,
          (
            record {
              least_meets = meets-from-to δ c r h (least_by c r) (le_refl (least_by c r)) some;
              greatest_meets = meets-from-to δ c r h (greatest_by δ c r) some (le_refl (greatest_by δ c r));
              all_between = meets-only δ c r h;
              between_meets = meets-from-to δ c r h;
            },
            greatest-most δ c r h,
          ),
        ))
        (λ (e : leb (least_by c r) (greatest_by δ c r) ≡ false).
        let none = leb-false (least_by c r) (greatest_by δ c r) e in
        subst⁻¹ (Answered δ c r) (interval-none δ c r h none)
        (inr (h, (none-meets δ c r h none, refl))))
        (both_ways (leb (least_by c r) (greatest_by δ c r)))

-- two answers that are right are one
module _ (δ c r : ℕ) where
  same-interval : (i j : Interval) → IsInterval δ c r i → IsInterval δ c r j → i ≡ j
  same-interval i j p q =
      ap₂ (λ (l g : ℕ). let of : Interval = record { least = l; greatest = g } in of)
      (le_antisymm (p.all_between j.least q.least_meets).0 (q.all_between i.least p.least_meets).0)
      (le_antisymm (q.all_between i.greatest p.greatest_meets).1 (p.all_between j.greatest q.greatest_meets).1)

  -- an interval and a refusal are not both right
  apart : (i : Interval) (x : Refusal) → Answered δ c r (granted i) → Answered δ c r (refused x) → ⊥
  apart i x p =
      ⊎_elim (λ o. o.0 p.0) (λ o. clash p.1.0.least_meets (o.1.0 i.least))

  same_answer : (v w : Verdict Interval) → Answered δ c r v → Answered δ c r w → v ≡ w
  same_answer (granted i) (granted j) p q = ap {B = Verdict Interval} granted (same-interval i j p.1.0 q.1.0)
  same_answer (granted i) (refused y) p q = absurd (apart i y p q)
  same_answer (refused x) (granted j) p q = absurd (apart j x q p)
  same_answer (refused x) (refused y) p q =
      ap {B = Verdict Interval} refused
      (⊎_elim
      (λ a. ⊎_elim (λ b. a.1 ∙ sym b.1) (λ b. absurd (a.0 b.0)) q)
      (λ a. ⊎_elim (λ b. absurd (b.0 a.0)) (λ b. a.1.1 ∙ sym b.1.1) q)
      p)

pub interval-guarantee : IntervalGuarantee
interval-guarantee =
    record {
      right = interval-right;
      only = λ δ c r v p. same_answer δ c r v (interval δ c r) p (interval-right δ c r);
    }

-- ---- why there is none

pub no_interval_reasons : NoIntervalReasons
no_interval_reasons δ c r h =
    record {
      narrow = λ l R one. stays R one ∙ lt-leb R (greatest_by δ c r) (none l R one);
      wide = λ l. stays 1 (le_refl 1) ∙ le-leb 1 (greatest_by δ c r) (some l);
      enough = least_by c r;
      second = λ R l. starts R (le_trans (least-positive r h.drift c) l) ∙ le-leb (least_by c r) R l;
    }
  where
    stays : (R : ℕ) → 1 ≤ R → stays_within δ c r R ≡ leb R (greatest_by δ c r)
    stays R one = stays-up-to r h.drift δ c R h.some_drift one

    starts : (R : ℕ) → 1 ≤ R → starts_within c r R ≡ leb (least_by c r) R
    starts R one = starts_from r h.drift c R one

    none : δ ≤ c → (R : ℕ) → 1 ≤ R → greatest_by δ c r < R
    none l R one = let zero = greatest-narrow δ c r l in omega arith

    some : c < δ → 1 ≤ greatest_by δ c r
    some l = greatest-wide δ c r h.some_drift h.drift l
