-- The theorem of specs/Guarantee.antt: the readings moved up are naturals, of which crates/value_laws/proofs/Apart.antt
-- says how far they lie apart.
-- Assumes nothing.
use mathlib.Core.Bool.{Bool, true, false, not, ◌&&◌, ◌||◌}
use mathlib.Core.List.{List}
use mathlib.Core.Logic.{⊎_elim}
use mathlib.Core.Option.{none}
use mathlib.Core.Path.{◌≡◌, refl, sym, ap, ◌∙◌, subst}
use Prim.Native.Nat.{ℕ, ◌+◌, ◌*◌, ◌-◌, ◌/◌, ◌%◌, ◌≤◌, ◌<◌, zero-le}
use native.Mathlib.Nat.{lt_of_lt_of_le, mul-zero, mul_comm, mul_assoc, mul-le-mul, add-mul, one-mul}
use native.Mathlib.Omega.{arith}
use borrow.Author.Tests.{le-leb, lt-ltb, le-ltb, ltb-true, ltb-false, eqb-true, eqb-false}
use lib.Dec.{ltb, eqb}
use Rattle.arithmetic.proofs.Bools.{both_ways, clash, to-T}
use lib.IntN.{ℤ, pos, ◌+ℤ◌, ◌-ℤ◌}
use lib.ListN.{length}
use lib.Signed.{◌≤ℤ◌}
use Rattle.arithmetic.specs.Counting.{bit, count, sum}
use Rattle.arithmetic.specs.Naturals.{down, total}
use Rattle.arithmetic.proofs.Shift.{down_cong, pos-down, add_down, add_pos-down, neg_down, down-up}
use Rattle.arithmetic.proofs.Sums.{total_ext, total_add, total_const, sum_ext, sum-down}
use Rattle.model.specs.declared.Settings.{Settings}
use Rattle.model.specs.Ensemble.{Reading, missing, present, Readings, is_present, ticks, quorum, max_cabinets, max_window, max_spread}
use Rattle.model.specs.RoundSheet.{cca, settings_at}
use Rattle.model.specs.AnswerSheet.{answer_length}
use Rattle.model.specs.Steps.{accepted_at, Round, round_of, round_at, span_width}
use Rattle.model.specs.Refusals.{first_of, settle_checks}
use Rattle.model.specs.Calls.{granted, settle_spread}
use Rattle.refusal_laws.proofs.Limits.{Limits}
use Rattle.sheet_laws.proofs.Outcomes.{granted-none}
use Rattle.round_laws.specs.Naturals.{shifted, Even, even_nat, mean_nat}
use Rattle.round_laws.proofs.Local.{EqualBelow, round-by-spans}
use Rattle.round_laws.proofs.Represent.{reach, reach-above, raise, represented}
use Rattle.round_laws.proofs.Natural.{accepted-present, acc-of, used-of, round-count, round-used, round-value}
use Rattle.value_laws.proofs.Extremes.{LeastOf, least}
use Rattle.round_laws.proofs.Shifted.{even-down}
use Rattle.value_laws.proofs.Means.{odd-one, rounds-up, mean-split}
use Rattle.value_laws.proofs.Apart as apart
use Rattle.value_laws.proofs.Sheets.{settled-limits, settled-spread, settled-some}
use Rattle.demand_1_2.specs.Demand2.{LowestAccepted, BySpans}
use Rattle.demand_1_2.proofs.Represented.{le-of-down, accepted-up}
use Rattle.sum_guarantee.specs.Guarantee.{readings, width, distance, rounded, apart_limit, sum_limit, widest_sum, close_limit, SumLimits, SumGuarantee}

-- the difference of two numbers that were moved down alike
sub-down : (k a b : ℕ) → b ≤ a → down k a -ℤ down k b ≡ pos (a - b)
sub-down k a b l =
    ap (λ z. down k a +ℤ z) (neg_down k b) ∙ add_down k a b k ∙ down_cong (k + b) (a + k) 0 (a - b) (omega arith)
    ∙ sym (pos-down (a - b))

-- a present reading
reading_is : (v : Reading) → is_present v ≡ true → v ≡ present (ticks v)
reading_is (present z) e = refl
reading_is missing e = clash e refl

le-pos : (a b : ℕ) → a ≤ b → pos a ≤ℤ pos b
le-pos a b h = record { le = to-T (le-leb a b h) }

-- more than half is left, or half and the whole part is odd
rounds-up_is :
    (n rest whole : ℕ)
    → (ltb n (2 * rest) || (eqb n (2 * rest) && not (even_nat whole))) ≡ rounds-up n rest whole
rounds-up_is n rest whole = go (ltb n (2 * rest)) (eqb n (2 * rest)) (even_nat whole) refl refl refl
  where
    go :
        (a b c : Bool) → ltb n (2 * rest) ≡ a → eqb n (2 * rest) ≡ b → even_nat whole ≡ c
        → (a || (b && not c)) ≡ rounds-up n rest whole
    go true b c ea eb ec = sym (lt-ltb n (2 * rest + whole % 2) (omega (arith, ltb-true n (2 * rest) ea)))
    go false true true ea eb ec =
        sym
        (le-ltb n (2 * rest + whole % 2) (omega (arith, eqb-true n (2 * rest) eb, eqb-true (whole % 2) 0 ec)))
    go false true false ea eb ec =
        sym (lt-ltb n (2 * rest + whole % 2) (omega (arith, eqb-true n (2 * rest) eb, odd-one whole ec)))
    go false false c ea eb ec =
        sym (le-ltb n (2 * rest + whole % 2) (below (eqb-false n (2 * rest) eb) (ltb-false n (2 * rest) ea)))
      where
        below : (n ≡ 2 * rest → ⊥) → 2 * rest ≤ n → 2 * rest + whole % 2 ≤ n
        below other l =
            ⊎_elim
            (λ e. let h = ltb-true (2 * rest) n e in omega arith)
            (λ e. let h = ltb-false (2 * rest) n e in absurd (other (omega arith)))
            (both_ways (ltb (2 * rest) n))

-- the rounding of naturals moved down by an even number
rounded-down :
    (k n total low : ℕ) → Even k
    → rounded n total (down k low) ≡ down k (low + (total / n + bit (rounds-up n (total % n) (low + total / n))))
rounded-down k n total low even =
    rw (add_pos-down k low (total / n), even-down k (low + total / n) even)
    (ap (λ (b : Bool). down k (low + total / n) +ℤ pos (bit b)) (rounds-up_is n (total % n) (low + total / n))
    ∙ add_pos-down k (low + total / n) (bit (rounds-up n (total % n) (low + total / n)))
    ∙ ap (down k) (omega arith))

module _ (s : List ℕ) (D : ℕ) (answer : List ℕ) (size : ℕ) (spans : BySpans s)
    (ok : (settle_spread s D answer).verdict ≡ granted size) where
  passes : first_of (settle_checks s D (length answer)) ≡ none
  unfolding settle_spread
  passes = granted-none (first_of (settle_checks s D (length answer))) (answer_length (settings_at s).n) size ok

  abbrev own : Settings
  own = settings_at s

  abbrev v : Readings
  v = readings s

  abbrev n : ℕ
  n = (settings_at s).n

  within : Limits (settings_at s)
  within = settled-limits s D answer passes

  -- ---- the readings as naturals

  -- an even number of at least their reach
  k : ℕ
  k = reach v n + reach v n

  even-k : Even k
  unfolding k
  even-k = record { half = reach v n; twice = refl }

  far : reach v n ≤ k
  unfolding k
  far = omega arith

  abbrev here : ℕ → Bool
  here r = is_present (readings s r)

  abbrev x : ℕ → ℕ
  x = raise k v

  same : EqualBelow n v (shifted k here x)
  same = represented k v n far

  abbrev acc : ℕ → Bool
  acc = acc-of own D here x

  -- the round by FCA or CCA
  round_is : round_at s D ≡ round_of own D v
  unfolding round_at
  round_is = round-by-spans own D v (le-ltb cca own.rule spans)

  some-acc : 0 < count acc n
  some-acc =
      subst (λ (a : ℕ). 0 < a) (ap (λ (r : Round). r.count) round_is ∙ round-count own D here x v k same)
      (settled-some s D answer passes)

  lo : LeastOf acc x n
  lo = least acc x n some-acc

  abbrev low : ℕ
  low = x lo.index

  most : n < 2 * quorum own
  most = omega (arith, within.faults)

  abbrev d : ℕ → ℕ
  d = apart.distance (span_width own D) here x (quorum own) n most k own.estimator lo

  used-above : (r : ℕ) → r < n → low ≤ used-of own D here x k r
  used-above r l = (apart.used-near (span_width own D) here x (quorum own) n most k own.estimator lo r l).low

  -- ---- the lowest accepted reading

  ticks-are : (r : ℕ) → r < n → ticks (v r) ≡ down k (x r)
  ticks-are r l = sym (down-up k (ticks (v r)) (lt_of_lt_of_le (reach-above v n r l) far))

  accepted_is : (r : ℕ) → r < n → accepted_at own D v r ≡ acc r
  unfolding accepted_at
  accepted_is r l = accepted-up v n k far (span_width own D) (quorum own) r l

  lowest : LowestAccepted own D v (down k low)
  lowest =
      record {
        reading =
            record {
              cabinet = lo.index;
              in_range = lo.in_range;
              accepted = accepted_is lo.index lo.in_range ∙ lo.passes;
              reads =
                  reading_is (v lo.index)
                  (accepted-present (span_width own D) here x (quorum own) n lo.index lo.passes)
                  ∙ ap present (ticks-are lo.index lo.in_range);
            };
        none_below = λ r l e.
            subst (λ z. down k low ≤ℤ z) (sym (ticks-are r l))
            (le-of-down k low (x r) (lo.first r l (sym (accepted_is r l) ∙ e)));
      }

  -- ---- the distances

  distance_is : (r : ℕ) → r < n → distance s D (down k low) r ≡ pos (d r)
  distance_is r l =
      ap (λ z. z -ℤ down k low)
      (ap (λ (t : Round). t.used r) round_is ∙ round-used own D here x v k same some-acc r l)
      ∙ sub-down k (used-of own D here x k r) low (used-above r l)

  sum_is : sum (distance s D (down k low)) n ≡ pos (total d n)
  sum_is =
      sum_ext (distance s D (down k low)) (λ r. down 0 (d r)) n (λ r l. distance_is r l ∙ pos-down (d r))
      ∙ sum-down 0 d n
      ∙ ap (λ (j : ℕ). down j (total d n)) (mul-zero n)
      ∙ sym (pos-down (total d n))

  used-total : total (used-of own D here x k) n ≡ total d n + low * n
  used-total =
      total_ext (used-of own D here x k) (λ r. d r + low) n (λ r l. omega (arith, used-above r l))
      ∙ total_add d (λ _. low) n
      ∙ ap (λ (j : ℕ). total d n + j) (total_const low n ∙ mul_comm n low)

  value_is : (round_at s D).value ≡ rounded n (total d n) (down k low)
  value_is =
      ap (λ (t : Round). t.value) round_is
      ∙ round-value own D here x v k same within.some_cabinet even-k some-acc
      ∙ ap (λ (t : ℕ). down k (mean_nat n t)) used-total
      ∙ ap (down k) (sym (mean-split n within.some_cabinet (total d n) low))
      ∙ sym (rounded-down k n (total d n) low even-k)

  -- ---- the limits of their sum

  twice_most : total d n ≤ sum_limit s D
  twice_most =
      omega (
        arith,
        apart.distances_twice (span_width own D) here x (quorum own) n most k own.estimator lo,
        ap (λ (j : ℕ). j * width s D) (mul_comm 2 n) ∙ mul_assoc n 2 (width s D),
      )

  widest-most : sum_limit s D ≤ widest_sum
  widest-most =
      let cabinets : 2 * n ≤ 2 * max_cabinets = omega (arith, within.cabinets) in
      let span : width s D ≤ max_window + max_spread = omega (arith, within.window, settled-spread s D answer passes) in
      mul-le-mul {n₂ = 2 * max_cabinets} {m₂ = max_window + max_spread} cabinets span

  closer-most : total d n ≤ close_limit s D
  closer-most =
      let rest : n - quorum own ≡ own.m = omega (arith, within.faults) in
      let scaled = ap (λ (j : ℕ). (n + j) * width s D) rest in
      let one : n + own.m ≡ n + own.m - 1 + 1 = omega (arith, within.some_cabinet) in
      let split = ap (λ (j : ℕ). j * width s D) one ∙ add-mul (n + own.m - 1) 1 (width s D) in
      omega (
        arith,
        apart.distances_most (span_width own D) here x (quorum own) n most k own.estimator lo,
        one-mul (width s D),
      )

  pub limits : SumLimits s D
  limits =
      record {
        low = down k low;
        is_lowest = lowest;
        above = λ r l. subst (λ z. pos 0 ≤ℤ z) (sym (distance_is r l)) (le-pos 0 (d r) zero-le);
        within = λ r l.
            subst (λ z. z ≤ℤ pos (apart_limit s D)) (sym (distance_is r l))
            (le-pos (d r) (apart_limit s D)
            (apart.distance_most (span_width own D) here x (quorum own) n most k own.estimator lo r l));
        total = total d n;
        is_total = sum_is;
        at_most = twice_most;
        narrow = widest-most;
        closer = closer-most;
        value = value_is;
      }

pub sum-guarantee : SumGuarantee
sum-guarantee s D answer size spans ok = limits s D answer size spans ok
