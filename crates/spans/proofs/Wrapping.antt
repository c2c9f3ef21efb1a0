-- Differences that wrap at 2^32: one is small just where a number lies in a span.
-- Assumes nothing.
use Rattle.std.proofs.Common.{◌≡◌, ℕ, ◌+◌, ◌-◌, ◌%◌, ◌<◌, ◌≤◌, min, leb, arith, le-leb, leb-true}
use Rattle.arithmetic.specs.Words.{two_to32}
use Rattle.arithmetic.proofs.Bools.{iff_eq, and_left, and_right, and_intro}
use Rattle.spans.specs.Spans.{in_span}

-- a comparison is the test of a span
spanning :
    (a b d w l : ℕ)
    → (d ≤ l → (a ≤ b) × (b ≤ a + w))
    → (a ≤ b → b ≤ a + w → d ≤ l)
    → leb d l ≡ in_span a w b
spanning a b d w l f g =
    iff_eq (leb d l) (in_span a w b)
    (λ t. let h = f (leb-true d l t) in and_intro (le-leb a b h.0) (le-leb b (a + w) h.1))
    (λ t.
    le-leb d l
    (g (leb-true a b (and_left (leb a b) (leb b (a + w)) t))
    (leb-true b (a + w) (and_right (leb a b) (leb b (a + w)) t))))

module _ (a b d w l : ℕ) (ha : a < two_to32) (hb : b < two_to32) (hd : d < two_to32) (e : (d + a) % two_to32 ≡ b) where
  -- no number is as far above another as it is above 0
  pub below-itself : l ≡ min w b → leb d l ≡ in_span a w b
  below-itself m = spanning a b d w l (λ h. (omega (arith, h), omega (arith, h))) (λ p q. omega (arith, p, q))

  -- no number is further above another than the highest number is
  pub below-highest : l ≡ min w (two_to32 - 1 - a) → leb d l ≡ in_span a w b
  below-highest m = spanning a b d w l (λ h. (omega (arith, h), omega (arith, h))) (λ p q. omega (arith, p, q))
