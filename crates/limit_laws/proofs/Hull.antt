-- The span of an accepted reading holds all but the bad ones of n - m. So where fewer than n - m are bad, each
-- accepted reading lies within w of a good one, and each used value lies within w of the good values' hull, and in it
-- where the reading is good and accepted.
--   good_in a t        t is good, accepted, and its reading lies in the span from a
--   astray r           1 where r is not both good and accepted, else 0
--   Near r s           r's reading lies within w of s's good value
--   Strays a b r       the value used for r lies in [a, b], or within w of it where r is astray
-- Assumes nothing.
use mathlib.Core.Bool.{Bool, true, false, not, ◌&&◌}
use mathlib.Core.Logic.{⊎_elim}
use mathlib.Core.Path.{◌≡◌}
use Prim.Native.Nat.{ℕ, ◌+◌, ◌*◌, ◌-◌, ◌≤◌, ◌<◌}
use native.Mathlib.Omega.{arith}
use Rattle.arithmetic.specs.Counting.{bit, count}
use Rattle.arithmetic.proofs.Bools.{both_ways, and_left, and_right, and_intro}
use Rattle.arithmetic.proofs.Counting.{count_mono, count-not, count-some}
use Rattle.arithmetic.specs.Naturals.{total}
use Rattle.arithmetic.proofs.Sums.{count-total}
use Rattle.round_laws.proofs.Natural.{accepted-present}
use Rattle.value_laws.proofs.Acceptance.{inside_span, inside-low, inside-high, NatSpan, accepted_nat_span}
use Rattle.value_laws.proofs.Counts.{count_overlap}
use Rattle.value_laws.proofs.Estimates.{Between, used-within}
use Rattle.limit_laws.proofs.Settled.{Receiver, accepts, used_by, used-accepted, bad_count, GoodAlike, Spread}
use Rattle.limit_laws.proofs.Settled.{ReadsSome}

module _ (n m w : ℕ) (v : Receiver) where
  -- a span that holds r's reading and n - m accepted ones
  abbrev pub SpanOf : ℕ → Type 0
  SpanOf r = NatSpan w (accepts n m w v) v.x (n - m) n r

  pub span_of : (r : ℕ) → accepts n m w v r ≡ true → SpanOf r
  span_of = accepted_nat_span w v.pres v.x (n - m) n

  pub accepts-present : (r : ℕ) → accepts n m w v r ≡ true → v.pres r ≡ true
  accepts-present = accepted-present w v.pres v.x (n - m) n

module _ (n m w : ℕ) (good : ℕ → Bool) (v : Receiver) where
  abbrev pub good_in : ℕ → ℕ → Bool
  good_in a t = (accepts n m w v t && inside_span w a (v.x t)) && good t

  good_in_accepted : (a t : ℕ) → good_in a t ≡ true → accepts n m w v t ≡ true
  good_in_accepted a t e =
      and_left (accepts n m w v t) (inside_span w a (v.x t))
      (and_left (accepts n m w v t && inside_span w a (v.x t)) (good t) e)

  good_in_inside : (a t : ℕ) → good_in a t ≡ true → inside_span w a (v.x t) ≡ true
  good_in_inside a t e =
      and_right (accepts n m w v t) (inside_span w a (v.x t))
      (and_left (accepts n m w v t && inside_span w a (v.x t)) (good t) e)

  pub good_in_good : (a t : ℕ) → good_in a t ≡ true → good t ≡ true
  good_in_good a t e = and_right (accepts n m w v t && inside_span w a (v.x t)) (good t) e

  pub good_in_many : (r : ℕ) (h : SpanOf n m w v r) → n - m ≤ count (good_in h.start) n + bad_count n good
  good_in_many r h =
      omega (arith, h.holds, count_overlap (λ t. accepts n m w v t && inside_span w h.start (v.x t)) good n)

  abbrev pub astray : ℕ → ℕ
  astray r = bit (not (accepts n m w v r && good r))

  pub astray-count : total astray n + count (λ r. accepts n m w v r && good r) n ≡ n
  astray-count =
      omega (
        arith,
        count-total (λ r. not (accepts n m w v r && good r)) n,
        count-not (λ r. accepts n m w v r && good r) n,
      )

  -- K: where something is accepted, n - m are, and at most the bad ones of those are not good
  pub astray-few : 0 < count (accepts n m w v) n → m ≤ n → total astray n ≤ m + bad_count n good
  astray-few ok fits = omega (arith, astray-count, good_in_many first span, held)
    where
      some-accepted : (r : ℕ) × (r < n) × (accepts n m w v r ≡ true)
      some-accepted = count-some (accepts n m w v) n ok

      first : ℕ
      first = some-accepted.0

      span : SpanOf n m w v first
      span = span_of n m w v first some-accepted.2

      held : count (good_in span.start) n ≤ count (λ r. accepts n m w v r && good r) n
      held =
          count_mono (good_in span.start) (λ r. accepts n m w v r && good r) n
          (λ t _ e. and_intro (good_in_accepted span.start t e) (good_in_good span.start t e))

pub record Near (w : ℕ) (g : ℕ → ℕ) (v : Receiver) (r s : ℕ) : Type 0 where
  pub above : v.x r ≤ g s + w
  pub below : g s ≤ v.x r + w

pub record Strays (n m w : ℕ) (good : ℕ → Bool) (v : Receiver) (a b r : ℕ) : Type 0 where
  pub above : used_by n m w v r ≤ b + astray n m w good v r * w
  pub below : a ≤ used_by n m w v r + astray n m w good v r * w

module _ (n m w : ℕ) (good : ℕ → Bool) (g : ℕ → ℕ) (v : Receiver) where
  -- the good ones in a span lie within w of each reading in it
  pub good-near :
      GoodAlike n good g v → (r s : ℕ) (h : SpanOf n m w v r) → s < n → good_in n m w good v h.start s ≡ true
      → Near w g v r s
  good-near alike r s h l e =
      let i = good_in_inside n m w good v h.start s e in
      let a = inside-low w h.start (v.x s) i in
      let b = inside-high w h.start (v.x s) i in
      let p = accepts-present n m w v s (good_in_accepted n m w good v h.start s e) in
      let q = alike s l (good_in_good n m w good v h.start s e) p in
      record { above = omega (arith, h.low, h.high); below = omega (arith, h.low, h.high) }

  module _ (h : Spread n m w good g) (s : ReadsSome n m w good g v) where
    -- C
    near-good : (r : ℕ) → accepts n m w v r ≡ true → (i : ℕ) × (i < n) × (good i ≡ true) × Near w g v r i
    near-good r e =
        let p = span_of n m w v r e in
        let f = count-some (good_in n m w good v p.start) n
        (omega (arith, good_in_many n m w good v r p, h.many)) in
        (f.0, f.1, good_in_good n m w good v p.start f.0 f.2, good-near s.alike r f.0 p f.1 f.2)

    -- bounds a and b of the good values
    module _ (a b : ℕ) (low : (i : ℕ) → i < n → good i ≡ true → a ≤ g i)
        (high : (i : ℕ) → i < n → good i ≡ true → g i ≤ b) where
      used-near : (r : ℕ) → r < n → Between (a - w) (b + w) (used_by n m w v r)
      used-near r l =
          used-within
          (accepts n m w v)
          n
          v.x
          s.unrefused
          (a - w)
          (b + w)
          (λ i _ e. let f = near-good i e in omega (arith, low f.0 f.1 f.2, f.3.below))
          (λ i _ e. let f = near-good i e in omega (arith, high f.0 f.1 f.2, f.3.above))
          v.k
          v.kind
          r
          l

      pub used_strays : (r : ℕ) → r < n → Strays n m w good v a b r
      used_strays r l = ⊎_elim within without (both_ways (accepts n m w v r && good r))
        where
          within : (accepts n m w v r && good r) ≡ true → Strays n m w good v a b r
          within e =
              let t = and_left (accepts n m w v r) (good r) e in
              let f = and_right (accepts n m w v r) (good r) e in
              let u = used-accepted n m w v r t in
              let q = s.alike r l f (accepts-present n m w v r t) in
              let y = low r l f in
              let z = high r l f in
              record { above = omega arith; below = omega arith }

          without : (accepts n m w v r && good r) ≡ false → Strays n m w good v a b r
          without e =
              let d : astray n m w good v r * w ≡ w = rw e (omega arith) in
              let u = used-near r l in
              record { above = omega arith; below = omega arith }
