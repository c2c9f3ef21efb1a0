-- Whole numbers as naturals moved down: `down k a` is a - k. Order, equality, sums, floors and distances of whole numbers are those of
-- the naturals, so that `omega` can speak of them.
-- Assumes nothing.
use mathlib.Core.Bool.{Bool, true, false}
use mathlib.Core.Path.{◌≡◌, refl, sym, ap, ◌∙◌, subst⁻¹}
use Prim.Native.Nat.{ℕ, zero, suc, ◌+◌, ◌*◌, ◌-◌, ◌/◌, ◌≤◌, ◌<◌}
use native.Mathlib.Nat.{add-mul}
use native.Mathlib.Omega.{arith}
use borrow.Author.Tests.{lt-ltb, le-ltb, le-leb, lt-leb, ltb-true, ltb-false, leb-true}
use lib.Dec.{leb, ltb}
use lib.IntN.{ℤ, pos, negsuc, neg_ℤ, nat_abs, sub_ℕ, ◌+ℤ◌, ◌-ℤ◌, ◌*ℤ◌}
use lib.Signed.{le_z, lt_z, shr_z, mag}
use Rattle.arithmetic.specs.Naturals.{down, up}
use Rattle.arithmetic.proofs.Bools.{iff_eq}
use Rattle.arithmetic.proofs.Division.{div_sub_mul, div_from-above}

pub down_pos : (k a : ℕ) → k ≤ a → down k a ≡ pos (a - k)
unfolding down
down_pos k a h = rw (le-ltb a k h)

pub down_neg : (k a : ℕ) → a < k → down k a ≡ negsuc (k - suc a)
unfolding down
down_neg k a h = rw (lt-ltb a k h)

-- by the sign of a - k
pub down-ind {ℓ} : (k a : ℕ) (P : ℤ → Type ℓ) → (k ≤ a → P (pos (a - k))) → (a < k → P (negsuc (k - suc a))) → P (down k a)
down-ind k a P f g = go (ltb a k) refl
  where
    go : (b : Bool) → ltb a k ≡ b → P (down k a)
    go true e = subst⁻¹ P (down_neg k a (ltb-true a k e)) (g (ltb-true a k e))
    go false e = subst⁻¹ P (down_pos k a (ltb-false a k e)) (f (ltb-false a k e))

-- two differences are equal where the crossed sums are
pub down_cong : (k a j b : ℕ) → a + j ≡ b + k → down k a ≡ down j b
down_cong k a j b e =
    down-ind k a (λ z. z ≡ down j b)
    (λ h. ap pos (go₁ h) ∙ sym (down_pos j b (go₂ h)))
    (λ h. ap negsuc (go₃ h) ∙ sym (down_neg j b (go₄ h)))
  where
    go₁ : k ≤ a → a - k ≡ b - j
    go₁ h = omega arith

    go₂ : k ≤ a → j ≤ b
    go₂ h = omega arith

    go₃ : a < k → k - suc a ≡ j - suc b
    go₃ h = omega arith

    go₄ : a < k → b < j
    go₄ h = omega arith

pub pos-down : (a : ℕ) → pos a ≡ down 0 a
pos-down a = sym (down_pos 0 a (omega arith) ∙ ap pos go)
  where
    go : a - 0 ≡ a
    go = omega arith

-- every whole number of at least -k comes from a natural
pub down-up-pos : (k a : ℕ) → down k (up k (pos a)) ≡ pos a
unfolding up
down-up-pos k a = down_cong k (a + k) 0 a (omega arith) ∙ sym (pos-down a)

pub down-up_neg : (k a : ℕ) → a < k → down k (up k (negsuc a)) ≡ negsuc a
unfolding up
down-up_neg k a h = down_neg k (k - suc a) (omega arith) ∙ ap negsuc go
  where
    go : k - suc (k - suc a) ≡ a
    go = omega arith

pub down-up : (k : ℕ) (z : ℤ) → mag z < k → down k (up k z) ≡ z
down-up k (pos a) h = down-up-pos k a
down-up k (negsuc a) h = down-up_neg k a h

pub up-down : (k a : ℕ) → up k (down k a) ≡ a
unfolding up
up-down k a = down-ind k a (λ z. up k z ≡ a) (λ h. omega arith) (λ h. omega arith)

-- ---- order and equality

leb_iff : (a b c d : ℕ) → (a ≤ b → c ≤ d) → (c ≤ d → a ≤ b) → leb a b ≡ leb c d
leb_iff a b c d f g = iff_eq (leb a b) (leb c d) (λ e. le-leb c d (f (leb-true a b e))) (λ e. le-leb a b (g (leb-true c d e)))

pub le_down : (k a b : ℕ) → le_z (down k a) (down k b) ≡ leb a b
le_down k a b =
    down-ind k a (λ z. le_z z (down k b) ≡ leb a b)
    (λ h.
    down-ind k b (λ z. le_z (pos (a - k)) z ≡ leb a b)
    (λ i. leb_iff (a - k) (b - k) a b (λ l. omega arith) (λ l. omega arith))
    (λ i. sym (lt-leb a b (omega arith))))
    (λ h.
    down-ind k b (λ z. le_z (negsuc (k - suc a)) z ≡ leb a b)
    (λ i. sym (le-leb a b (omega arith)))
    (λ i. leb_iff (k - suc b) (k - suc a) a b (λ l. omega arith) (λ l. omega arith)))

pub lt_down : (k a b : ℕ) → lt_z (down k a) (down k b) ≡ ltb a b
lt_down k a b =
    down-ind k a (λ z. lt_z z (down k b) ≡ ltb a b)
    (λ h.
    down-ind k b (λ z. lt_z (pos (a - k)) z ≡ ltb a b)
    (λ i. leb_iff (suc (a - k)) (b - k) (suc a) b (λ l. omega arith) (λ l. omega arith))
    (λ i. sym (le-ltb a b (omega arith))))
    (λ h.
    down-ind k b (λ z. lt_z (negsuc (k - suc a)) z ≡ ltb a b)
    (λ i. sym (lt-ltb a b (omega arith)))
    (λ i. leb_iff (suc (k - suc b)) (k - suc a) (suc a) b (λ l. omega arith) (λ l. omega arith)))

-- ---- sums

pub add_down : (j a k b : ℕ) → down j a +ℤ down k b ≡ down (j + k) (a + b)
add_down j a k b =
    down-ind j a (λ z. z +ℤ down k b ≡ down (j + k) (a + b))
    (λ h.
    down-ind k b (λ z. pos (a - j) +ℤ z ≡ down (j + k) (a + b))
    (λ i. pos-down (a - j + (b - k)) ∙ down_cong 0 (a - j + (b - k)) (j + k) (a + b) (omega arith))
    (λ i. unfold down in down_cong (suc (k - suc b)) (a - j) (j + k) (a + b) (omega arith)))
    (λ h.
    down-ind k b (λ z. negsuc (j - suc a) +ℤ z ≡ down (j + k) (a + b))
    (λ i. unfold down in down_cong (suc (j - suc a)) (b - k) (j + k) (a + b) (omega arith))
    (λ i. sym (down_neg (j + k) (a + b) (omega arith) ∙ ap negsuc (go h i))))
  where
    go : a < j → b < k → j + k - suc (a + b) ≡ suc (j - suc a + (k - suc b))
    go h i = omega arith

-- a span's end
pub add_pos-down : (k a w : ℕ) → down k a +ℤ pos w ≡ down k (a + w)
add_pos-down k a w =
    ap (λ z. down k a +ℤ z) (pos-down w) ∙ add_down k a 0 w ∙ down_cong (k + 0) (a + w) k (a + w) (omega arith)

-- ---- floors

pub shr_down : (k a c : ℕ) → 0 < c → shr_z (down (k * c) a) c ≡ down k (a / c)
shr_down k a c h =
    down-ind (k * c) a (λ z. shr_z z c ≡ down k (a / c))
    (λ l. let d = div_sub_mul a k c h l in pos-down ((a - k * c) / c) ∙ down_cong 0 ((a - k * c) / c) k (a / c) (omega arith))
    (λ l.
    let d = div_from-above a k c h l in
    sym (down_neg k (a / c) (omega arith) ∙ ap negsuc (go (k * c - suc a) d)))
  where
    go : (x : ℕ) → x / c + suc (a / c) ≡ k → k - suc (a / c) ≡ x / c
    go x d = omega arith

-- ---- distance

pub neg_down : (k a : ℕ) → neg_ℤ (down k a) ≡ down a k
neg_down k a =
    down-ind k a (λ z. neg_ℤ z ≡ down a k)
    (λ h. go (a - k) refl h)
    (λ h. pos-down (suc (k - suc a)) ∙ down_cong 0 (suc (k - suc a)) a k (omega arith))
  where
    go : (d : ℕ) → a - k ≡ d → k ≤ a → neg_ℤ (pos d) ≡ down a k
    go zero e h = pos-down 0 ∙ down_cong 0 0 a k (omega arith)
    go (suc d) e h = sym (down_neg a k (omega arith) ∙ ap negsuc (le e))
      where
        le : a - k ≡ suc d → a - suc k ≡ d
        le e = omega arith

pub nat_abs_down : (k a : ℕ) → nat_abs (down k a) ≡ a - k + (k - a)
nat_abs_down k a =
    down-ind k a (λ z. nat_abs z ≡ a - k + (k - a))
    (λ h. omega arith)
    (λ h. omega arith)

-- the distance of two numbers
pub dist_down : (k a b : ℕ) → nat_abs (down k a -ℤ down k b) ≡ a - b + (b - a)
dist_down k a b =
    ap (λ z. nat_abs (down k a +ℤ z)) (neg_down k b)
    ∙ ap nat_abs (add_down k a b k ∙ down_cong (k + b) (a + k) b a (omega arith))
    ∙ nat_abs_down b a

-- ---- differences and products with naturals

pub sub-pos-down : (k a b : ℕ) → down k a -ℤ pos b ≡ down (k + b) a
sub-pos-down k a b =
    ap (λ z. down k a +ℤ z) (ap neg_ℤ (pos-down b) ∙ neg_down 0 b)
    ∙ add_down k a b 0
    ∙ down_cong (k + b) (a + 0) (k + b) a (omega arith)

pub sub-pos : (a b : ℕ) → pos a -ℤ pos b ≡ down b a
sub-pos a b = ap (λ z. z -ℤ pos b) (pos-down a) ∙ sub-pos-down 0 a b ∙ down_cong (0 + b) a b a (omega arith)

pub mul_down : (k a n : ℕ) → down k a *ℤ pos n ≡ down (k * n) (a * n)
mul_down k a n =
    down-ind k a (λ z. z *ℤ pos n ≡ down (k * n) (a * n))
    (λ h.
    let split = add-mul (a - k) k n in
    let same : a - k + k ≡ a = omega arith in
    let whole = ap (λ (x : ℕ). x * n) same in
    pos-down ((a - k) * n) ∙ down_cong 0 ((a - k) * n) (k * n) (a * n) (omega arith))
    (λ h.
    let split = add-mul (suc (k - suc a)) a n in
    let same : suc (k - suc a) + a ≡ k = omega arith in
    let whole = ap (λ (x : ℕ). x * n) same in
    ap neg_ℤ (pos-down (suc (k - suc a) * n))
    ∙ neg_down 0 (suc (k - suc a) * n)
    ∙ down_cong (suc (k - suc a) * n) 0 (k * n) (a * n) (omega arith))

pub pos-le-down : (x k a : ℕ) → le_z (pos x) (down k a) ≡ leb (x + k) a
pos-le-down x k a =
    ap (λ z. le_z z (down k a)) (pos-down x ∙ down_cong 0 x k (x + k) (omega arith)) ∙ le_down k (x + k) a

pub down-le-pos : (k a x : ℕ) → le_z (down k a) (pos x) ≡ leb a (x + k)
down-le-pos k a x =
    ap (λ z. le_z (down k a) z) (pos-down x ∙ down_cong 0 x k (x + k) (omega arith)) ∙ le_down k a (x + k)
