-- The round of any readings, by naturals: the readings moved up far enough for all of them.
-- Assumes nothing.
use mathlib.Core.Bool.{Bool}
use mathlib.Core.Path.{◌≡◌, sym, ap, ◌∙◌}
use Prim.Native.Nat.{ℕ, ◌≤◌, ◌<◌}
use lib.Dec.{leb, ltb}
use lib.IntN.{ℤ}
use lib.Signed.{le_z, lt_z, mag, ◌≤ℤ◌}
use borrow.Author.Tests.{le-leb}
use Rattle.arithmetic.proofs.Bools.{to-T}
use Rattle.arithmetic.specs.Naturals.{down, up}
use Rattle.arithmetic.proofs.Shift.{down-up, le_down, lt_down}
use Rattle.model.specs.Ensemble.{Readings, is_present}
use Rattle.model.specs.Steps.{accepted}
use Rattle.round_laws.proofs.Local.{accepted_local}
use Rattle.round_laws.proofs.Represent.{reach, represented, raise}
use Rattle.round_laws.specs.Naturals.{shifted, accepted_nat}
use Rattle.round_laws.proofs.Shifted.{accepted-shifted}

-- the order of whole numbers is that of the naturals that they are moved up to
pub le_up : (k : ℕ) (a b : ℤ) → mag a < k → mag b < k → le_z a b ≡ leb (up k a) (up k b)
le_up k a b ha hb =
    ap (λ z. le_z z b) (sym (down-up k a ha)) ∙ ap (le_z (down k (up k a))) (sym (down-up k b hb))
    ∙ le_down k (up k a) (up k b)

pub lt_up : (k : ℕ) (a b : ℤ) → mag a < k → mag b < k → lt_z a b ≡ ltb (up k a) (up k b)
lt_up k a b ha hb =
    ap (λ z. lt_z z b) (sym (down-up k a ha)) ∙ ap (lt_z (down k (up k a))) (sym (down-up k b hb))
    ∙ lt_down k (up k a) (up k b)

pub le-of-down : (k a b : ℕ) → a ≤ b → down k a ≤ℤ down k b
le-of-down k a b h = record { le = to-T (le_down k a b ∙ le-leb a b h) }

module _ (v : Readings) (n k : ℕ) (far : reach v n ≤ k) where
  abbrev pub pres : ℕ → Bool
  pres r = is_present (v r)

  -- acceptance, by naturals
  pub accepted-up : (w need r : ℕ) → r < n → accepted w need n v r ≡ accepted_nat w pres (raise k v) need n r
  accepted-up w need r l =
      accepted_local n v (shifted k pres (raise k v)) (represented k v n far) w need r l
      ∙ accepted-shifted w pres (raise k v) k need n r
