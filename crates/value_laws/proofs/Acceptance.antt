-- Which readings are accepted: those of any span as wide as the window that holds enough readings. Every reading of
-- such a span is accepted, so an accepted reading stands in a span of enough accepted ones.
--   inside_span w a y           y lies in the span of width w from a
--   NatSpan w p x need n r     a span that holds r's number and need numbers of indices that pass p
-- Assumes nothing.
use mathlib.Core.Bool.{Bool, true, ◌&&◌}
use mathlib.Core.Path.{◌≡◌}
use Prim.Native.Nat.{ℕ, ◌+◌, ◌≤◌, ◌<◌}
use native.Mathlib.Nat.{le_trans}
use native.Mathlib.Omega.{arith}
use lib.Dec.{leb}
use borrow.Author.Tests.{le-leb, leb-true}
use Rattle.arithmetic.specs.Counting.{count}
use Rattle.arithmetic.proofs.Bools.{and_left, and_right, and_intro}
use Rattle.arithmetic.proofs.Counting.{count_mono, count-pos, any_some, any-true}
use Rattle.round_laws.specs.Naturals.{spans, accepted_nat}
use Rattle.value_laws.proofs.Extremes.{LeastOf, least}

abbrev pub inside_span : ℕ → ℕ → ℕ → Bool
inside_span w a y = leb a y && leb y (a + w)

pub inside_intro : (w a y : ℕ) → a ≤ y → y ≤ a + w → inside_span w a y ≡ true
inside_intro w a y l h = and_intro (le-leb a y l) (le-leb y (a + w) h)

pub inside-low : (w a y : ℕ) → inside_span w a y ≡ true → a ≤ y
inside-low w a y e = leb-true a y (and_left (leb a y) (leb y (a + w)) e)

pub inside-high : (w a y : ℕ) → inside_span w a y ≡ true → y ≤ a + w
inside-high w a y e = leb-true y (a + w) (and_right (leb a y) (leb y (a + w)) e)

pub record NatSpan (w : ℕ) (p : ℕ → Bool) (x : ℕ → ℕ) (need n r : ℕ) : Type 0 where
  pub start : ℕ
  pub low : start ≤ x r
  pub high : x r ≤ start + w
  pub holds : need ≤ count (λ t. p t && inside_span w start (x t)) n

module _ (w : ℕ) (pres : ℕ → Bool) (x : ℕ → ℕ) (need n : ℕ) where
  -- s's span, taken apart
  spans-rest : (s r : ℕ) → spans w pres x s r ≡ true → (pres r && inside_span w (x s) (x r)) ≡ true
  spans-rest s r e = and_right (pres s) (pres r && inside_span w (x s) (x r)) e

  spans-inside : (s r : ℕ) → spans w pres x s r ≡ true → inside_span w (x s) (x r) ≡ true
  spans-inside s r e = and_right (pres r) (inside_span w (x s) (x r)) (spans-rest s r e)

  module _ (r : ℕ) (ok : accepted_nat w pres x need n r ≡ true) where
    from : (s : ℕ) × (s < n) × ((spans w pres x s r && leb need (count (spans w pres x s) n)) ≡ true)
    unfolding accepted_nat
    from = any_some (λ s. spans w pres x s r && leb need (count (spans w pres x s) n)) n ok

    from-spans : spans w pres x from.0 r ≡ true
    from-spans = and_left (spans w pres x from.0 r) (leb need (count (spans w pres x from.0) n)) from.2

    pub accepted_in_span : NatSpan w pres x need n r
    accepted_in_span =
        let s = from.0 in
        let enough = and_right (spans w pres x s r) (leb need (count (spans w pres x s) n)) from.2 in
        record {
          start = x s;
          low = inside-low w (x s) (x r) (spans-inside s r from-spans);
          high = inside-high w (x s) (x r) (spans-inside s r from-spans);
          holds =
              le_trans (leb-true need _ enough)
              (count_mono (spans w pres x s) (λ t. pres t && inside_span w (x s) (x t)) n (λ t _ e. spans-rest s t e));
        }

  -- a present reading of a span that holds enough is accepted: the span from its lowest present reading holds as many
  pub span-accepted :
      (r : ℕ) → r < n → pres r ≡ true → NatSpan w pres x need n r
      → accepted_nat w pres x need n r ≡ true
  unfolding accepted_nat
  span-accepted r l here h =
      any-true
      (λ s. spans w pres x s r && leb need (count (spans w pres x s) n))
      n
      s
      low.in_range
      (and_intro (reaches r l (and_intro here (inside_intro w a (x r) h.low h.high))) (le-leb need _ enough))
    where
      a : ℕ
      a = h.start

      held : ℕ → Bool
      held t = pres t && inside_span w a (x t)

      low : LeastOf held x n
      low = least held x n (count-pos held n r l (and_intro here (inside_intro w a (x r) h.low h.high)))

      s : ℕ
      s = low.index

      reaches : (t : ℕ) → t < n → held t ≡ true → spans w pres x s t ≡ true
      reaches t lt e =
          let f = low.first t lt e in
          let i = and_right (pres t) (inside_span w a (x t)) e in
          let u = inside-high w a (x t) i in
          let v = inside-low w a (x s) (and_right (pres s) (inside_span w a (x s)) low.passes) in
          and_intro
          (and_left (pres s) (inside_span w a (x s)) low.passes)
          (and_intro (and_left (pres t) (inside_span w a (x t)) e) (inside_intro w (x s) (x t) f (omega arith)))

      enough : need ≤ count (spans w pres x s) n
      enough = le_trans h.holds (count_mono held (spans w pres x s) n reaches)

  -- an accepted reading lies in a span that holds enough accepted ones
  pub accepted_nat_span :
      (r : ℕ) → accepted_nat w pres x need n r ≡ true
      → NatSpan w (accepted_nat w pres x need n) x need n r
  accepted_nat_span r e =
      record {
        start = h.start;
        low = h.low;
        high = h.high;
        holds =
            le_trans
            h.holds
            (count_mono
            (λ t. pres t && inside_span w h.start (x t))
            (λ t. accepted_nat w pres x need n t && inside_span w h.start (x t))
            n
            (λ t l i. and_intro (also t l i) (and_right (pres t) (inside_span w h.start (x t)) i)));
      }
    where
      h : NatSpan w pres x need n r
      h = accepted_in_span r e

      also : (t : ℕ) → t < n → (pres t && inside_span w h.start (x t)) ≡ true → accepted_nat w pres x need n t ≡ true
      also t l i =
          let j = and_right (pres t) (inside_span w h.start (x t)) i in
          span-accepted t l
          (and_left (pres t) (inside_span w h.start (x t)) i)
          (record {
            start = h.start;
            low = inside-low w h.start (x t) j;
            high = inside-high w h.start (x t) j;
            holds = h.holds;
          })
