-- A receiver that liars sway: they all send it L, and with some of the others, who read A within the window of L,
-- they fill a span. Nobody else reads anything but L within the window of L. Then those who read A or L are accepted,
-- the median is L, and every used value is A for those who read A and L for the rest.
--   Swayed       what is so said of a receiver
-- Assumes nothing.
use mathlib.Core.Bool.{Bool, true, false, cond, not, ◌&&◌}
use mathlib.Core.Logic.{◌⊎◌, inl, inr, ⊎_elim}
use mathlib.Core.Path.{◌≡◌, refl, sym, ap, ◌∙◌}
use Prim.Native.Nat.{ℕ, ◌+◌, ◌*◌, ◌-◌, ◌/◌, ◌≤◌, ◌<◌}
use native.Mathlib.Nat.{le_refl}
use native.Mathlib.Omega.{arith}
use borrow.Author.Tests.{ltb-true, ltb-false, leb-true, leb-false, lt-ltb, not-true}
use lib.Dec.{leb, ltb}
use Rattle.arithmetic.specs.Counting.{count}
use Rattle.arithmetic.specs.Naturals.{total}
use Rattle.arithmetic.proofs.Bools.{both_ways, clash, and_left, and_right, and_intro, not-true-false}
use Rattle.arithmetic.proofs.Counting.{count_mono, count-not}
use Rattle.arithmetic.proofs.Sums.{total_ext}
use Rattle.model.specs.RoundSheet.{median}
use Rattle.round_laws.specs.Naturals.{estimate_nat}
use Rattle.value_laws.proofs.Acceptance.{inside_span, inside_intro, inside-low, inside-high}
use Rattle.value_laws.proofs.Acceptance.{NatSpan, accepted_in_span, span-accepted}
use Rattle.value_laws.proofs.Counts.{count-split}
use Rattle.value_laws.proofs.Estimates.{median-numbered}
use Rattle.value_laws.proofs.Ranks.{Numbered}
use Rattle.limit_laws.proofs.Settled.{Receiver, accepts, estimate_by, used_by, used-accepted, used-replaced}
use Rattle.sharpness.proofs.Intervals.{between, between-low, between-high, count-below, count-between, total-two}

-- y is further than w from L
abbrev pub Far : ℕ → ℕ → ℕ → Type 0
Far w L y = (y + w < L) ⊎ (L + w < y)

-- cabinets a to b-1 read A, and those from s on are the liars
pub record Swayed (n m w : ℕ) (v : Receiver) (a b s A L : ℕ) : Type 0 where
  pub kind : v.kind ≡ median
  pub here : (i : ℕ) → i < n → v.pres i ≡ true
  pub liars : (i : ℕ) → i < n → s ≤ i → v.x i ≡ L
  pub joined : (i : ℕ) → a ≤ i → i < b → v.x i ≡ A
  pub others : (i : ℕ) → i < s → (i < a) ⊎ (b ≤ i) → (v.x i ≡ L) ⊎ Far w L (v.x i)
  pub above : A ≤ L + w
  pub below : L ≤ A + w
  pub first : a ≤ b
  pub second : b ≤ s
  pub third : s ≤ n
  -- without the liars no span is filled; with those who join them they fill one
  pub short : s < n - m
  pub enough : n - m ≤ b - a + (n - s)
  pub most : b - a < n - s

module _ (n m w : ℕ) (v : Receiver) (a b s A L : ℕ) (h : Swayed n m w v a b s A L) where
  abbrev acc : ℕ → Bool
  acc = accepts n m w v

  -- those who join the liars
  abbrev joins : ℕ → Bool
  joins = between a b

  joins-count : count joins n ≡ b - a
  joins-count = omega (arith, count-between a b n h.first, h.first, h.second, h.third)

  sound-count : count (λ i. ltb i s) n ≡ s
  sound-count = omega (arith, count-below s n, h.third)

  liar_count : count (λ i. not (ltb i s)) n ≡ n - s
  liar_count = omega (arith, count-not (λ i. ltb i s) n, sound-count)

  reads-joined : (i : ℕ) → joins i ≡ true → v.x i ≡ A
  reads-joined i e = h.joined i (between-low a b i e) (between-high a b i e)

  joined-sound : (i : ℕ) → joins i ≡ true → i < s
  joined-sound i e = omega (arith, between-high a b i e, h.second)

  -- ---- who is accepted

  -- those who are neither liars nor join them
  rest-count : count (λ i. ltb i s && not (joins i)) n + (b - a) ≤ s
  rest-count =
      let k = count-split (λ i. ltb i s) joins n in
      let j = count_mono joins (λ i. ltb i s && joins i) n (λ i _ e. and_intro (lt-ltb i s (joined-sound i e)) e) in
      omega (arith, sound-count, joins-count)

  -- a span from z with A and L in it
  module _ (z : ℕ) (z_a : z ≤ A) (z_l : z ≤ L) (Az : A ≤ z + w) (Lz : L ≤ z + w) where
    held : ℕ → Bool
    held i = v.pres i && inside_span w z (v.x i)

    -- whoever it does not hold is neither
    missed : (i : ℕ) → i < n → not (held i) ≡ true → (ltb i s && not (joins i)) ≡ true
    unfolding held
    missed i l e = go (ltb i s) refl (joins i) refl
      where
        inside : (y : ℕ) → v.x i ≡ y → z ≤ y → y ≤ z + w → (v.pres i && inside_span w z (v.x i)) ≡ true
        inside y q lo hi = and_intro (h.here i l) (inside_intro w z (v.x i) (omega arith) (omega arith))

        go : (c : Bool) → ltb i s ≡ c → (d : Bool) → joins i ≡ d → (c && not d) ≡ true
        go true f true g = clash e (ap not (inside A (reads-joined i g) z_a Az))
        go true f false g = refl
        go false f d g = clash e (ap not (inside L (h.liars i l (ltb-false i s f)) z_l Lz))

    holds : n - m ≤ count (λ i. v.pres i && inside_span w z (v.x i)) n
    unfolding held
    holds =
        let k = count-not held n in
        let j = count_mono (λ i. not (held i)) (λ i. ltb i s && not (joins i)) n missed in
        omega (arith, rest-count, h.first, h.second, h.third, h.enough)

    accepted-from : (i : ℕ) → i < n → (v.x i ≡ A) ⊎ (v.x i ≡ L) → acc i ≡ true
    accepted-from i l e =
        span-accepted w v.pres v.x (n - m) n i l (h.here i l)
        (record {
          start = z;
          low = ⊎_elim (λ q. omega arith) (λ q. omega arith) e;
          high = ⊎_elim (λ q. omega arith) (λ q. omega arith) e;
          holds = holds;
        })

  swayed_accepted : (i : ℕ) → i < n → (v.x i ≡ A) ⊎ (v.x i ≡ L) → acc i ≡ true
  swayed_accepted i l e =
      ⊎_elim
      (λ t. let o = leb-true A L t in accepted-from A (le_refl A) o (omega arith) h.below i l e)
      (λ f. let o = leb-false A L f in accepted-from L (omega arith) (le_refl L) h.above (omega arith) i l e)
      (both_ways (leb A L))

  joined-accepted : (i : ℕ) → i < n → joins i ≡ true → acc i ≡ true
  joined-accepted i l e = swayed_accepted i l (inl (reads-joined i e))

  liar_accepted : (i : ℕ) → i < n → not (ltb i s) ≡ true → acc i ≡ true
  liar_accepted i l e = swayed_accepted i l (inr (h.liars i l (ltb-false i s (not-true (ltb i s) e))))

  -- a span with a reading far from L has no liar in it
  far-refused : (i : ℕ) → Far w L (v.x i) → acc i ≡ false
  far-refused i far = not-true-false (acc i) impossible
    where
      impossible : acc i ≡ true → ⊥
      impossible e =
          let k = count_mono inside (λ j. ltb j s) n sound in
          omega (arith, span.holds, sound-count, h.short)
        where
          span : NatSpan w v.pres v.x (n - m) n i
          span = accepted_in_span w v.pres v.x (n - m) n i e

          inside : ℕ → Bool
          inside j = v.pres j && inside_span w span.start (v.x j)

          outside : (j : ℕ) → v.x j ≡ L → inside_span w span.start (v.x j) ≡ true → ⊥
          outside j q k =
              let lo = inside-low w span.start (v.x j) k in
              let hi = inside-high w span.start (v.x j) k in
              ⊎_elim (λ f. omega (arith, span.low)) (λ f. omega (arith, span.high)) far

          sound : (j : ℕ) → j < n → inside j ≡ true → ltb j s ≡ true
          sound j l k =
              ⊎_elim
              (λ t. t)
              (λ f. absurd (outside j (h.liars j l (ltb-false j s f)) (and_right (v.pres j) _ k)))
              (both_ways (ltb j s))

  -- whoever is accepted and does not join the liars reads what they send
  accepted-rest : (i : ℕ) → i < n → joins i ≡ false → acc i ≡ true → v.x i ≡ L
  accepted-rest i l f e =
      ⊎_elim
      (λ t.
      ⊎_elim (λ q. q) (λ far. clash e (far-refused i far)) (h.others i (ltb-true i s t) (outside (leb a i) refl)))
      (λ g. h.liars i l (ltb-false i s g))
      (both_ways (ltb i s))
    where
      outside : (c : Bool) → leb a i ≡ c → (i < a) ⊎ (b ≤ i)
      outside true q = inr (ltb-false i b (sym (rw q) ∙ f))
      outside false q = inl (leb-false a i q)

  -- ---- the median

  -- the accepted who do not join the liars
  abbrev rest : ℕ → Bool
  rest i = acc i && not (joins i)

  rest-many : n - s ≤ count rest n
  rest-many =
      let k = count_mono (λ i. not (ltb i s)) rest n liars in
      omega (arith, liar_count)
    where
      liars : (i : ℕ) → i < n → not (ltb i s) ≡ true → rest i ≡ true
      liars i l e = and_intro (liar_accepted i l e) (ap not (not-true-false (joins i) outside))
        where
          outside : joins i ≡ true → ⊥
          outside k = omega (arith, joined-sound i k, ltb-false i s (not-true (ltb i s) e))

  joined-all : count (λ i. acc i && joins i) n ≡ b - a
  joined-all =
      let k = count_mono joins (λ i. acc i && joins i) n (λ i l e. and_intro (joined-accepted i l e) e) in
      let j = count_mono (λ i. acc i && joins i) joins n (λ i _ e. and_right (acc i) (joins i) e) in
      omega (arith, joins-count)

  all-count : count acc n ≡ b - a + count rest n
  all-count = omega (arith, count-split acc joins n, joined-all)

  pub swayed_some : 0 < count acc n
  swayed_some = omega (arith, all-count, rest-many, h.most)

  swayed_median : estimate_by n m w v ≡ L
  swayed_median = rw h.kind (omega (arith, not-below, not-above))
    where
      e : ℕ
      e = estimate_nat v.k median acc n v.x

      numbered : Numbered acc n v.x ((count acc n + 1) / 2) e
      numbered = median-numbered acc n v.x swayed_some v.k

      half-low : b - a < (count acc n + 1) / 2
      half-low = omega (arith, all-count, rest-many, h.most)

      half_high : (count acc n + 1) / 2 ≤ count rest n
      half_high = omega (arith, all-count, rest-many, h.most)

      too_low : e < L → ⊥
      too_low l =
          let k = count_mono (λ i. acc i && leb (v.x i) e) joins n joined in
          omega (arith, numbered.at_or_below, half-low, joins-count)
        where
          joined : (i : ℕ) → i < n → (acc i && leb (v.x i) e) ≡ true → joins i ≡ true
          joined i k q =
              ⊎_elim
              (λ t. t)
              (λ f.
              let y = accepted-rest i k f (and_left (acc i) (leb (v.x i) e) q) in
              absurd (omega (arith, y, l, leb-true (v.x i) e (and_right (acc i) (leb (v.x i) e) q))))
              (both_ways (joins i))

      too_high : L < e → ⊥
      too_high l =
          let k = count_mono rest (λ i. acc i && ltb (v.x i) e) n under in
          omega (arith, numbered.below, half_high)
        where
          under : (i : ℕ) → i < n → rest i ≡ true → (acc i && ltb (v.x i) e) ≡ true
          under i k q =
              let c = and_left (acc i) (not (joins i)) q in
              let y = accepted-rest i k (not-true (joins i) (and_right (acc i) (not (joins i)) q)) c in
              and_intro c (lt-ltb (v.x i) e (omega arith))

      not-below : L ≤ e
      not-below = ⊎_elim (λ t. absurd (too_low (ltb-true e L t))) (λ f. ltb-false e L f) (both_ways (ltb e L))

      not-above : e ≤ L
      not-above = ⊎_elim (λ t. absurd (too_high (ltb-true L e t))) (λ f. ltb-false L e f) (both_ways (ltb L e))

  -- ---- the sum

  used : (i : ℕ) → i < n → used_by n m w v i ≡ cond (joins i) A L
  used i l = go (joins i) refl (acc i) refl
    where
      go : (c : Bool) → joins i ≡ c → (d : Bool) → acc i ≡ d → used_by n m w v i ≡ cond c A L
      go true e d f = used-accepted n m w v i (joined-accepted i l e) ∙ reads-joined i e
      go false e true f = used-accepted n m w v i f ∙ accepted-rest i l e f
      go false e false f = used-replaced n m w v i f ∙ swayed_median

  pub swayed_total : total (used_by n m w v) n + (b - a) * L ≡ n * L + (b - a) * A
  swayed_total =
      let k = total_ext (used_by n m w v) (λ i. cond (joins i) A L) n used in
      let c = joins-count in
      omega (arith, rw c at (total-two joins A L n))
