-- The limits of one round. With at most m bad nobody is refused, a new value strays from the true one by at most the
-- growth planned, and the sums of two differ by at most two windows for each bad one, or one. With more, but fewer than
-- n - m, bad the wider limits hold, to the tick. By counting: each used value is bounded row by row, the bounds are
-- summed, and the mean of n follows.
--   unrefused                              every good reading is accepted
--   accuracy-bad, precision-spread         any estimators, by how many are bad, where readings of a good one differ by
--                                          at most D
--   accuracy-few, precision-few            any estimators
--   precision-median                       medians, where both read alike what both have
--   accuracy-many, precision-many          any estimators
-- Assumes nothing.
use mathlib.Core.Bool.{Bool, true, false, not, ◌&&◌}
use mathlib.Core.Logic.{⊎_elim}
use mathlib.Core.Path.{◌≡◌, refl, sym, ap, ◌∙◌, subst}
use Prim.Native.Nat.{ℕ, ◌+◌, ◌*◌, ◌-◌, ◌/◌, ◌≤◌, ◌<◌}
use native.Mathlib.Nat.{le_trans, mul_assoc, mul_comm, mul-le-mul_right, one-mul, zero-mul}
use native.Mathlib.Omega.{arith}
use Rattle.arithmetic.specs.Counting.{bit, count}
use Rattle.arithmetic.proofs.Bools.{both_ways, clash, and_right, and_intro}
use Rattle.arithmetic.proofs.Counting.{count_mono, count-not, share}
use Rattle.arithmetic.specs.Naturals.{total}
use Rattle.arithmetic.proofs.Sums.{total_add, total_const, total_scale, count-total}
use Rattle.model.specs.Planner.{ceil_div}
use Rattle.model.specs.RoundSheet.{median}
use Rattle.value_laws.proofs.Extremes.{LeastOf, GreatestOf, least, greatest}
use Rattle.limit_laws.proofs.Means.{MeansClose, rise, fall, mean-close, mean-rise, mean-fall, mean-apart}
use Rattle.limit_laws.proofs.Means.{rise_ceil, total-close}
use Rattle.value_laws.proofs.Acceptance.{inside_span, inside_intro, NatSpan, span-accepted}
use Rattle.value_laws.proofs.Ranks.{Numbered}
use Rattle.value_laws.proofs.Estimates.{Between, used-within, median-numbered}
use Rattle.limit_laws.proofs.Settled.{Receiver, accepts, estimate_by, used_by, value_by, used-accepted}
use Rattle.limit_laws.proofs.Settled.{used-replaced, bad_count, BothAlike, Spread, ReadsSome, Few, Reads, Truth}
use Rattle.limit_laws.proofs.Hull.{SpanOf, span_of, accepts-present, good_in, good_in_good, good_in_many, astray}
use Rattle.limit_laws.proofs.Hull.{astray-count, astray-few, Near, Strays, good-near, used_strays}
use Rattle.limit_laws.proofs.Medians.{alone, median-above, median-below}

-- a value within d of the true one
pub record Accurate (T d value : ℕ) : Type 0 where
  pub above : value ≤ T + d
  pub below : T ≤ value + d

module _ (n m w : ℕ) (good : ℕ → Bool) (g : ℕ → ℕ) where
  -- ---- fewer than n - m bad

  module _ (h : Spread n m w good g) where
    some-n : 0 < n
    some-n = omega (arith, h.many)

    module _ (v : Receiver) (s : ReadsSome n m w good g v) (most : ℕ)
        (sums : total (astray n m w good v) n ≤ most) where
      -- bounds a and b of the good values: the used values add up to at most n times b and the window once for each row
      -- that is not both good and accepted, and to at least n times a less as much
      module _ (a b : ℕ)
          (low : (i : ℕ) → i < n → good i ≡ true → a ≤ g i)
          (high : (i : ℕ) → i < n → good i ≡ true → g i ≤ b) where
        row : (r : ℕ) → r < n → Strays n m w good v a b r
        row = used_strays n m w good g v h s a b low high

        total-above : total (used_by n m w v) n ≤ n * b + most * w
        total-above =
            omega (
              arith,
              total-close n some-n w (astray n m w good v) most sums (used_by n m w v) (λ _. b) (λ r l. (row r l).above),
              total_const b n,
            )

        total-below : n * a ≤ total (used_by n m w v) n + most * w
        total-below =
            omega (
              arith,
              total-close n some-n w (astray n m w good v) most sums (λ _. a) (used_by n m w v) (λ r l. (row r l).below),
              total_const a n,
            )

      -- a new value is within κ, and what the mean makes of those rows, of the true one
      accurate : (T κ : ℕ) → Truth n good g T κ → Accurate T (κ + rise n (most * w)) (value_by n m w v)
      accurate T κ truth =
          let used = total (used_by n m w v) n in
          let a = mean-rise n some-n used (T + κ) (most * w) (total-above (T - κ) (T + κ) low truth.above) in
          let b = mean-fall n some-n used (T - κ) (most * w) (total-below (T - κ) (T + κ) low truth.above) in
          record { above = omega arith; below = omega arith }
        where
          low : (r : ℕ) → r < n → good r ≡ true → T - κ ≤ g r
          low r l e = omega (arith, truth.below r l e)

    -- how many rows can be astray, and how far the sum of the used values can so pass n times the highest good value
    abbrev most : ℕ
    most = m + bad_count n good

    abbrev excess : ℕ
    excess = most * w

    astray-most : (v : Receiver) → ReadsSome n m w good g v → total (astray n m w good v) n ≤ most
    astray-most v s = astray-few n m w good v s.unrefused (omega (arith, h.many))

    pub accuracy-many :
        (v : Receiver) → ReadsSome n m w good g v → (T κ : ℕ) → Truth n good g T κ
        → Accurate T (κ + rise n excess) (value_by n m w v)
    accuracy-many v s = accurate v s most (astray-most v s)

    pub precision-many :
        (p q : Receiver) → ReadsSome n m w good g p → ReadsSome n m w good g q
        → value_by n m w p ≤ value_by n m w q + (w + (rise n excess + fall n w excess))
    precision-many p q sp sq =
        mean-apart n some-n (total (used_by n m w p) n) (total (used_by n m w q) n) (g lo.index) (g hi.index) w excess
        (total-above p sp most (astray-most p sp) (g lo.index) (g hi.index) lo.first hi.first)
        (total-below q sq most (astray-most q sq) (g lo.index) (g hi.index) lo.first hi.first)
        (h.close hi.index lo.index hi.in_range lo.in_range hi.passes lo.passes)
      where
        some_good : 0 < count good n
        some_good = omega (arith, h.many, count-not good n)

        lo : LeastOf good g n
        lo = least good g n some_good

        hi : GreatestOf good g n
        hi = greatest good g n some_good

  -- ---- at most m bad

  module _ (h : Few n m w good g) where
    few-spread : Spread n m w good g
    few-spread = record { many = omega (arith, h.planned, h.few); close = h.close }

    many-good : n - m ≤ count good n
    many-good = omega (arith, h.few, count-not good n)

    module _ (v : Receiver) (s : Reads n good g v) where
      -- the span from the lowest good reading holds all good ones
      pub good-accepted : (r : ℕ) → r < n → good r ≡ true → accepts n m w v r ≡ true
      good-accepted r l e = span-accepted w v.pres v.x (n - m) n r l (s.here r l e) span
        where
          lo : LeastOf good g n
          lo = least good g n (omega (arith, h.planned, many-good))

          reads : (t : ℕ) → t < n → good t ≡ true → v.x t ≡ g t
          reads t k q = s.alike t k q (s.here t k q)

          low : (t : ℕ) → t < n → good t ≡ true → g lo.index ≤ v.x t
          low t k q = omega (arith, lo.first t k q, reads t k q)

          high : (t : ℕ) → t < n → good t ≡ true → v.x t ≤ g lo.index + w
          high t k q = omega (arith, h.close t lo.index k lo.in_range q lo.passes, reads t k q)

          span : NatSpan w v.pres v.x (n - m) n r
          span =
              record {
                start = g lo.index;
                low = low r l e;
                high = high r l e;
                holds =
                    le_trans many-good
                    (count_mono good
                    (λ t. v.pres t && inside_span w (g lo.index) (v.x t))
                    n
                    (λ t k q. and_intro (s.here t k q)
                    (inside_intro w (g lo.index) (v.x t) (low t k q) (high t k q))));
              }

      enough-accepted : n - m ≤ count (accepts n m w v) n
      enough-accepted = le_trans many-good (count_mono good (accepts n m w v) n good-accepted)

      pub unrefused : 0 < count (accepts n m w v) n
      unrefused = omega (arith, h.planned, enough-accepted)

      few-reads : ReadsSome n m w good g v
      few-reads = record { alike = s.alike; unrefused = unrefused }

      -- what is used for a good one is its value
      used-good : (r : ℕ) → r < n → good r ≡ true → used_by n m w v r ≡ g r
      used-good r l e = used-accepted n m w v r (good-accepted r l e) ∙ s.alike r l e (s.here r l e)

      lowest : LeastOf (accepts n m w v) v.x n
      lowest = least (accepts n m w v) v.x n unrefused

      highest : GreatestOf (accepts n m w v) v.x n
      highest = greatest (accepts n m w v) v.x n unrefused

      used-between : (r : ℕ) → r < n → Between (v.x lowest.index) (v.x highest.index) (used_by n m w v r)
      used-between =
          used-within (accepts n m w v) n v.x unrefused _ _ lowest.first highest.first v.k v.kind

      few-astray : total (astray n m w good v) n ≤ bad_count n good
      few-astray =
          let c = count_mono good (λ r. accepts n m w v r && good r) n (λ r l e. and_intro (good-accepted r l e) e) in
          omega (arith, astray-count n m w good v, count-not good n)

      -- most: as many as are bad, or more
      pub accuracy-bad :
          (most : ℕ) → bad_count n good ≤ most → (T κ : ℕ) → Truth n good g T κ
          → Accurate T (κ + ceil_div (most * w) n) (value_by n m w v)
      accuracy-bad most few T κ truth =
          let a = accurate few-spread v few-reads most (le_trans few-astray few) T κ truth in
          let c = rise_ceil n (some-n few-spread) (most * w) in
          record { above = omega (arith, a.above); below = omega (arith, a.below) }

      pub accuracy-few : (T κ : ℕ) → Truth n good g T κ → Accurate T (κ + ceil_div (m * w) n) (value_by n m w v)
      accuracy-few = accuracy-bad m h.few

-- ---- two receivers, at most m bad, whose readings of a good one differ by at most D

module _ (n m w D : ℕ) (good : ℕ → Bool) (g g' : ℕ → ℕ) (h : Few n m w good g) (h' : Few n m w good g')
    (Near-by : (r : ℕ) → r < n → good r ≡ true → g r ≤ g' r + D)
    (p q : Receiver) (sp : Reads n good g p) (sq : Reads n good g' q) (most : ℕ) (few : bad_count n good ≤ most) where
  -- used values that differ by at most D, and j windows more at the bad ones
  apart-few :
      (j : ℕ) → ((r : ℕ) → r < n → used_by n m w p r ≤ used_by n m w q r + (D + j * w))
      → MeansClose n (value_by n m w p) (value_by n m w q) (D * n + j * (most * w))
  apart-few j far =
      mean-close n some (total (used_by n m w p) n) (total (used_by n m w q) n) (D * n + j * (most * w))
      (omega (
        arith,
        total-close n some w apart (j * most) sums (used_by n m w p) (λ r. used_by n m w q r + D) row,
        total_add (used_by n m w q) (λ _. D) n,
        total_const D n,
        mul_comm n D,
        mul_assoc j most w,
      ))
    where
      some : 0 < n
      some = omega (arith, h.planned)

      apart : ℕ → ℕ
      apart r = bit (not (good r)) * j

      sums : total apart n ≤ j * most
      sums =
          let a = total_scale (λ r. bit (not (good r))) j n in
          let b = ap (λ (y : ℕ). y * j) (count-total (λ r. not (good r)) n) in
          let c = mul-le-mul_right j few in
          let d = mul_comm j most in
          omega arith

      row : (r : ℕ) → r < n → used_by n m w p r ≤ used_by n m w q r + D + apart r * w
      row r l =
          ⊎_elim
          (λ e.
          omega (arith, used-good n m w good g h p sp r l e, used-good n m w good g' h' q sq r l e, Near-by r l e))
          (λ e. let d : apart r * w ≡ j * w = rw e (ap (λ (y : ℕ). y * w) (one-mul j)) in omega (arith, far r l))
          (both_ways (good r))

  -- H2: an accepted reading at p and one at q lie within w of the values of one good one
  accepted-close :
      (r s : ℕ) → accepts n m w p r ≡ true → accepts n m w q s ≡ true → p.x r ≤ q.x s + (D + 2 * w)
  accepted-close r s a b = omega (arith, near.above, near'.below, Near-by shared.0 shared.1 its_good)
    where
      span : SpanOf n m w p r
      span = span_of n m w p r a

      span' : SpanOf n m w q s
      span' = span_of n m w q s b

      many : n - m ≤ count (good_in n m w good p span.start) n + bad_count n good
      many = good_in_many n m w good p r span

      many' : n - m ≤ count (good_in n m w good q span'.start) n + bad_count n good
      many' = good_in_many n m w good q s span'

      shared :
          (t : ℕ) × (t < n)
          × (good_in n m w good p span.start t ≡ true) × (good_in n m w good q span'.start t ≡ true)
      shared =
          share (good_in n m w good p span.start) (good_in n m w good q span'.start) good n
          (λ t _ e. good_in_good n m w good p span.start t e)
          (λ t _ e. good_in_good n m w good q span'.start t e)
          (omega (arith, h.planned, h.few, count-not good n, many, many'))

      its_good : good shared.0 ≡ true
      its_good = good_in_good n m w good p span.start shared.0 shared.2

      near : Near w g p r shared.0
      near = good-near n m w good g p sp.alike r shared.0 span shared.1 shared.2

      near' : Near w g' q s shared.0
      near' = good-near n m w good g' q sq.alike s shared.0 span' shared.1 shared.3

  pub precision-spread : MeansClose n (value_by n m w p) (value_by n m w q) (D * n + 2 * (most * w))
  precision-spread = apart-few 2 far
    where
      far : (r : ℕ) → r < n → used_by n m w p r ≤ used_by n m w q r + (D + 2 * w)
      far r l =
          let hi = highest n m w good g h p sp in
          let lo = lowest n m w good g' h' q sq in
          let c = accepted-close hi.index lo.index hi.passes lo.passes in
          omega (
            arith,
            (used-between n m w good g h p sp r l).high,
            (used-between n m w good g' h' q sq r l).low,
          )

-- ---- receivers that read good ones alike

module _ (n m w : ℕ) (good : ℕ → Bool) (g : ℕ → ℕ) (h : Few n m w good g) where
  same-value : (r : ℕ) → r < n → good r ≡ true → g r ≤ g r + 0
  same-value r l e = omega arith

  pub precision-few :
      (p q : Receiver) → Reads n good g p → Reads n good g q
      → MeansClose n (value_by n m w p) (value_by n m w q) (2 * (m * w))
  precision-few p q sp sq =
      subst (MeansClose n (value_by n m w p) (value_by n m w q)) no_spread
      (precision-spread n m w 0 good g g h h same-value p q sp sq m h.few)
    where
      no_spread : 0 * n + 2 * (m * w) ≡ 2 * (m * w)
      no_spread = omega (arith, zero-mul n)

  -- where q settles by the median: an accepted reading at p lies within w of it
  module _ (p q : Receiver) (sp : Reads n good g p) (sq : Reads n good g q) (agree : BothAlike n p q)
      (kind : q.kind ≡ median) where
    -- p alone accepts bad ones only
    few-alone : count (alone (accepts n m w p) (accepts n m w q)) n ≤ m
    few-alone =
        le_trans
        (count_mono
        (alone (accepts n m w p) (accepts n m w q))
        (λ t. not (good t))
        n
        (λ t l e.
        ⊎_elim
        (λ f.
        clash (and_right (accepts n m w p t) (not (accepts n m w q t)) e)
        (ap not (good-accepted n m w good g h q sq t l f)))
        (ap not)
        (both_ways (good t))))
        h.few

    same : (t : ℕ) → t < n → accepts n m w p t ≡ true → accepts n m w q t ≡ true → p.x t ≡ q.x t
    same t l a b = agree t l (accepts-present n m w p t a) (accepts-present n m w q t b)

    the_median : Numbered (accepts n m w q) n q.x ((count (accepts n m w q) n + 1) / 2) (estimate_by n m w q)
    the_median = rw kind (median-numbered (accepts n m w q) n q.x (unrefused n m w good g h q sq) q.k)

    median-high : (r : ℕ) → accepts n m w p r ≡ true → p.x r ≤ estimate_by n m w q + w
    median-high r e =
        median-above n m w (accepts n m w p) (accepts n m w q) p.x q.x same r (span_of n m w p r e)
        h.planned few-alone _ the_median

    median-low : (r : ℕ) → accepts n m w p r ≡ true → estimate_by n m w q ≤ p.x r + w
    median-low r e =
        median-below n m w (accepts n m w p) (accepts n m w q) p.x q.x same r (span_of n m w p r e)
        h.planned few-alone _ the_median

  -- rows that neither accepts count too: the median at p is itself an accepted reading there
  pub precision-median :
      (p q : Receiver) → Reads n good g p → Reads n good g q → BothAlike n p q → p.kind ≡ median → q.kind ≡ median
      → MeansClose n (value_by n m w p) (value_by n m w q) (m * w)
  precision-median p q sp sq agree kp kq =
      subst (MeansClose n (value_by n m w p) (value_by n m w q)) no_spread
      (apart-few n m w 0 good g g h h same-value p q sp sq m h.few 1 far)
    where
      no_spread : 0 * n + 1 * (m * w) ≡ m * w
      no_spread = omega (arith, zero-mul n, one-mul (m * w))

      agree' : BothAlike n q p
      agree' r l a b = sym (agree r l b a)

      own : Numbered (accepts n m w p) n p.x ((count (accepts n m w p) n + 1) / 2) (estimate_by n m w p)
      own = the_median q p sq sp agree' kp

      row :
          (r : ℕ) → r < n → (a b : Bool) → accepts n m w p r ≡ a → accepts n m w q r ≡ b
          → used_by n m w p r ≤ used_by n m w q r + w
      row r l true true a b =
          omega (arith, used-accepted n m w p r a, used-accepted n m w q r b, same p q sp sq agree kq r l a b)
      row r l true false a b =
          omega (arith, used-accepted n m w p r a, used-replaced n m w q r b, median-high p q sp sq agree kq r a)
      row r l false true a b =
          omega (arith, used-replaced n m w p r a, used-accepted n m w q r b, median-low q p sq sp agree' kp r b)
      row r l false false a b =
          let high = median-high p q sp sq agree kq own.index own.admitted in
          omega (arith, used-replaced n m w p r a, used-replaced n m w q r b, own.number)

      far : (r : ℕ) → r < n → used_by n m w p r ≤ used_by n m w q r + (0 + 1 * w)
      far r l = omega (arith, row r l (accepts n m w p r) (accepts n m w q r) refl refl)
