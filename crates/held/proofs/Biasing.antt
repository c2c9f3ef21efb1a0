-- Numbers of 32 bits with the first bit turned over, by an addition that wraps: a reading moved up by 2^31, and back.
-- Assumes nothing.
use Rattle.std.proofs.Common.{◌≡◌, ℕ, ◌+◌, ◌-◌, ◌%◌, ◌<◌, ◌≤◌, Bool, true, false, ltb, sym, refl, ap, ◌∙◌, arith, w32, to_z, of_z, ltb-false, ltb-true}
use Rattle.held.proofs.Biased.{to_z_low, to_z_high, of_z_low, of_z_high}
use Rattle.arithmetic.specs.Naturals.{down}
use Rattle.arithmetic.specs.Words.{two_to32, two_to31}

low : (x : ℕ) → x < two_to31 → (x + two_to31) % two_to32 ≡ x + two_to31
low x h = omega arith

high : (x : ℕ) → two_to31 ≤ x → x < two_to32 → (x + two_to31) % two_to32 ≡ x - two_to31
high x h l = omega arith

pub wrapped_up : (x : ℕ) → x < two_to32 → to_z w32 x ≡ down two_to31 ((x + two_to31) % two_to32)
wrapped_up x l = go (ltb x two_to31) refl
  where
    go : (b : Bool) → ltb x two_to31 ≡ b → to_z w32 x ≡ down two_to31 ((x + two_to31) % two_to32)
    go true e = to_z_low x (ltb-true x two_to31 e) ∙ ap (down two_to31) (sym (low x (ltb-true x two_to31 e)))
    go false e = to_z_high x (ltb-false x two_to31 e) l ∙ ap (down two_to31) (sym (high x (ltb-false x two_to31 e) l))

pub wrapped_down : (x : ℕ) → x < two_to32 → (x + two_to31) % two_to32 ≡ of_z w32 (down two_to31 x)
wrapped_down x l = go (ltb x two_to31) refl
  where
    go : (b : Bool) → ltb x two_to31 ≡ b → (x + two_to31) % two_to32 ≡ of_z w32 (down two_to31 x)
    go true e = low x (ltb-true x two_to31 e) ∙ sym (of_z_low x (ltb-true x two_to31 e))
    go false e = high x (ltb-false x two_to31 e) l ∙ sym (of_z_high x (ltb-false x two_to31 e))
