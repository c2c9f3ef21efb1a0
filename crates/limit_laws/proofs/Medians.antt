-- Two receivers that read alike what both accept: an accepted reading of the one lies within w of the median of the
-- other, where at most m are accepted by the one alone and n is above 3m.
-- Assumes nothing.
use mathlib.Core.Bool.{Bool, true, not, ◌&&◌}
use mathlib.Core.Logic.{⊎_elim}
use mathlib.Core.Path.{◌≡◌}
use Prim.Native.Nat.{ℕ, ◌+◌, ◌*◌, ◌-◌, ◌/◌, ◌≤◌, ◌<◌}
use native.Mathlib.Omega.{arith}
use lib.Dec.{leb, ltb}
use borrow.Author.Tests.{leb-true, leb-false, lt-leb, lt-ltb}
use Rattle.arithmetic.specs.Counting.{count}
use Rattle.arithmetic.proofs.Bools.{both_ways, and_left, and_right, and_intro}
use Rattle.arithmetic.proofs.Counting.{count_mono, count-not}
use Rattle.value_laws.proofs.Acceptance.{inside_span, inside-low, inside-high, NatSpan}
use Rattle.value_laws.proofs.Counts.{count-split}
use Rattle.value_laws.proofs.Ranks.{Numbered}

-- the one accepts t and the other does not
abbrev pub alone : (ℕ → Bool) → (ℕ → Bool) → ℕ → Bool
alone acc acc' t = acc t && not (acc' t)

-- acc accepts the readings x at the one, acc' the readings y at the other
module _ (n m w : ℕ) (acc acc' : ℕ → Bool) (x y : ℕ → ℕ) where
  -- no index is counted twice
  alone-room : count acc' n + count (alone acc acc') n ≤ n
  alone-room =
      let a = count_mono (alone acc acc') (λ t. not (acc' t)) n (λ t _ q. and_right (acc t) (not (acc' t)) q) in
      omega (arith, count-not acc' n)

  -- the span of r's reading at the one: of its accepted readings all but those of the one alone are the other's too
  module _ (agree : (t : ℕ) → t < n → acc t ≡ true → acc' t ≡ true → x t ≡ y t) (r : ℕ)
      (h : NatSpan w acc x (n - m) n r) where
    held : ℕ → Bool
    held t = acc t && inside_span w h.start (x t)

    module _ (p : ℕ → Bool) (passes : (t : ℕ) → t < n → h.start ≤ y t → y t ≤ h.start + w → p t ≡ true) where
      of-both : (t : ℕ) → t < n → (held t && acc' t) ≡ true → (acc' t && p t) ≡ true
      unfolding held
      of-both t l q =
          let c = and_left (held t) (acc' t) q in
          let d = and_right (held t) (acc' t) q in
          let i = and_right (acc t) (inside_span w h.start (x t)) c in
          let z = agree t l (and_left (acc t) (inside_span w h.start (x t)) c) d in
          let u = inside-low w h.start (x t) i in
          let v = inside-high w h.start (x t) i in
          and_intro d (passes t l (omega arith) (omega arith))

      of_one : (t : ℕ) → t < n → (held t && not (acc' t)) ≡ true → alone acc acc' t ≡ true
      unfolding held
      of_one t l q =
          and_intro
          (and_left (acc t) (inside_span w h.start (x t)) (and_left (held t) (not (acc' t)) q))
          (and_right (held t) (not (acc' t)) q)

      shared : n - m ≤ count (λ t. acc' t && p t) n + count (alone acc acc') n
      unfolding held
      shared =
          let s = count-split held acc' n in
          let a = count_mono (λ t. held t && acc' t) (λ t. acc' t && p t) n of-both in
          let b = count_mono (λ t. held t && not (acc' t)) (alone acc acc') n of_one in
          omega (arith, h.holds)

    -- if r's reading lay further off, the span would be on one side of the median, with more than half of the other's
    module _ (planned : 3 * m < n) (few : count (alone acc acc') n ≤ m) (e : ℕ)
        (med : Numbered acc' n y ((count acc' n + 1) / 2) e) where
      pub median-above : x r ≤ e + w
      median-above =
          ⊎_elim (leb-true (x r) (e + w)) (λ f. absurd (too_many (leb-false (x r) (e + w) f)))
          (both_ways (leb (x r) (e + w)))
        where
          too_many : e + w < x r → ⊥
          too_many l =
              let u = h.high in
              let s = shared (λ t. not (leb (y t) e)) (λ t _ a b. rw (lt-leb (y t) e (omega arith))) in
              let c = count-split acc' (λ t. leb (y t) e) n in
              omega (arith, med.at_or_below, alone-room)

      pub median-below : e ≤ x r + w
      median-below =
          ⊎_elim (leb-true e (x r + w)) (λ f. absurd (too_many (leb-false e (x r + w) f))) (both_ways (leb e (x r + w)))
        where
          too_many : x r + w < e → ⊥
          too_many l =
              let u = h.low in
              let s = shared (λ t. ltb (y t) e) (λ t _ a b. lt-ltb (y t) e (omega arith)) in
              omega (arith, med.below, alone-room)
