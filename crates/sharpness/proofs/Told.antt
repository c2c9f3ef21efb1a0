-- What cabinets 0 and 1 read in the round of Worst.antt, moved up by K into the naturals: the faulty ones
-- sway each, cabinet 0 with those who read lowest, cabinet 1 with those who read highest.
--   has p        what p reads
-- Assumes nothing.
use mathlib.Core.Bool.{true}
use mathlib.Core.Logic.{◌⊎◌, inl, inr, ⊎_elim}
use mathlib.Core.Path.{◌≡◌, refl, ap, ◌∙◌}
use Prim.Native.Nat.{ℕ, ◌+◌, ◌*◌, ◌-◌, ◌/◌, ◌≤◌, ◌<◌}
use native.Mathlib.Nat.{le_refl}
use native.Mathlib.Omega.{arith}
use borrow.Author.Tests.{ltb-true, ltb-false}
use lib.Dec.{ltb}
use lib.IntN.{ℤ, pos, ◌-ℤ◌}
use mir.Syntax.{w32}
use mir.Val.{SFits}
use Rattle.arithmetic.proofs.Bools.{both_ways}
use Rattle.arithmetic.specs.Words.{two_to31}
use Rattle.arithmetic.specs.Naturals.{up}
use Rattle.model.specs.Ensemble.{Reading, present, is_present, ticks}
use Rattle.model.specs.RoundSheet.{fca, median}
use Rattle.model.specs.Cases.{settings}
use Rattle.limit_laws.proofs.Settled.{Receiver}
use Rattle.run.specs.Run.{start}
use Rattle.run.specs.Rounds.{listed}
use Rattle.run.proofs.Ready.{ready_start}
use Rattle.demand_3.proofs.Orderly.{seen-fits}
use Rattle.demand_3.proofs.Received.{received}
use Rattle.sharpness.specs.Sharpness.{Covered}
use Rattle.sharpness.proofs.Worst.{needed, spread, base, first_reading, worst_station, worst_sends}
use Rattle.sharpness.proofs.Differences.{up_difference}
use Rattle.sharpness.proofs.Run.{spread-window, spread-some, reads-low, reads-high, reads-half, reads-most}
use Rattle.sharpness.proofs.Run.{sees, told}
use Rattle.sharpness.proofs.Run.{may-start, joins, starts, allowed, sees-sound, sees_liar}
use Rattle.sharpness.proofs.Swayed.{Far, Swayed}

module _ (n m t δ κ : ℕ) (h : Covered n m t δ κ) where
  pub fits : (p r : ℕ) → r < n → SFits w32 (ticks (sees n m t δ κ p r))
  unfolding worst_station
  fits =
      seen-fits (worst_station n m t δ κ) (starts n m t δ κ h) 0 (start (worst_station n m t δ κ))
      (ready_start (worst_station n m t δ κ) (starts n m t δ κ h))
      (worst_sends n m t δ κ)
      (allowed n m t δ κ h)

  -- none of the good readings are apart, or some are
  narrow_or_wide : (δ ≡ 0) ⊎ (0 < spread δ κ)
  narrow_or_wide =
      ⊎_elim
      (λ s. inr (spread-some δ κ (omega (arith, h.inexact)) (ltb-true 0 δ s)))
      (λ f. inl (omega (arith, ltb-false 0 δ f)))
      (both_ways (ltb 0 δ))

  module _ (K : ℕ) where
    unfoldable pub has : ℕ → Receiver
    has p = received (settings n m fca median δ) (sees n m t δ κ p) K

    here : (p r : ℕ) (z : ℤ) → told n m t δ κ p ≡ present z → (has p).pres r ≡ true
    unfolding has
    here p r z e =
        ⊎_elim
        (λ l. ap is_present (sees-sound n m t δ κ h p r (ltb-true r (n - t) l)))
        (λ l. ap is_present (sees_liar n m t δ κ h p r (ltb-false r (n - t) l) ∙ e))
        (both_ways (ltb r (n - t)))

    -- the lowest good reading, moved up
    abbrev B : ℕ
    B = base n m t δ κ + K

    sound-read : (p r : ℕ) → r < n - t → (has p).x r ≡ first_reading n m t δ κ r + B
    unfolding has up
    sound-read p r l = ap (λ (y : Reading). up K (ticks y)) (sees-sound n m t δ κ h p r l) ∙ omega arith

    liar_read : (p r : ℕ) (z : ℤ) → told n m t δ κ p ≡ present z → n - t ≤ r → (has p).x r ≡ up K z
    unfolding has
    liar_read p r z e l = ap (λ (y : Reading). up K (ticks y)) (sees_liar n m t δ κ h p r l ∙ e)

    -- ---- cabinet 0

    module _ (far : two_to31 ≤ K) where
      near-K : δ ≤ K
      near-K = omega (arith, (may-start n m t δ κ h).passes.window)

      -- none but those who read 0 are within δ of what is told, or all are at it
      low-others :
          (r : ℕ) → r < n - t → (r < 0) ⊎ (needed n m t ≤ r)
          → ((has 0).x r ≡ B - δ) ⊎ Far δ (B - δ) ((has 0).x r)
      low-others r l (inl k) = absurd (omega (arith, k))
      low-others r l (inr k) =
          ⊎_elim
          (λ z. inl (omega (arith, sound-read 0 r l, reads-most n m t δ κ r, spread-zero z)))
          (λ s. inr (inr (omega (arith, positive s, sound-read 0 r l, near-K))))
          narrow_or_wide
        where
          spread-zero : δ ≡ 0 → spread δ κ ≡ 0
          spread-zero z = omega (arith, spread-window δ κ)

          positive : 0 < spread δ κ → 0 < first_reading n m t δ κ r
          positive s =
              ⊎_elim
              (λ e. omega (arith, reads-high n m t δ κ r k (ltb-true r (2 * needed n m t) e)))
              (λ f. omega (arith, reads-half n m t δ κ r (ltb-false r (2 * needed n m t) f)))
              (both_ways (ltb r (2 * needed n m t)))

      pub low_swayed : Swayed n m δ (has 0) 0 (needed n m t) (n - t) B (B - δ)
      unfolding listed
      low_swayed =
          record {
            kind = unfold has in refl;
            here = λ r l. here 0 r (pos (base n m t δ κ) -ℤ pos δ) refl;
            liars = λ r l k.
                liar_read 0 r (pos (base n m t δ κ) -ℤ pos δ) refl k ∙ up_difference K (base n m t δ κ) δ near-K;
            joined = λ r l k. omega (arith, reads-low n m t δ κ r k, sound-read 0 r (omega arith));
            others = low-others;
            above = omega (arith, near-K);
            below = omega arith;
            first = omega arith;
            second = omega arith;
            third = omega arith;
            short = omega (arith, h.more, h.fewer);
            enough = omega (arith, h.fewer);
            most = omega (arith, h.more, h.fewer, h.crowded);
          }

    -- ---- cabinet 1

    -- cabinets needed to e-1 read highest, and no other sound one is within δ of what is told, or all are at it
    module _ (e : ℕ) (least : 2 * needed n m t ≤ e) (within : e ≤ n - t)
        (highest : (r : ℕ) → needed n m t ≤ r → r < e → first_reading n m t δ κ r ≡ spread δ κ)
        (under : (r : ℕ) → e ≤ r → r < n - t → 0 < spread δ κ → first_reading n m t δ κ r < spread δ κ) where
      high_others :
          (r : ℕ) → r < n - t → (r < needed n m t) ⊎ (e ≤ r)
          → ((has 1).x r ≡ B + spread δ κ + δ) ⊎ Far δ (B + spread δ κ + δ) ((has 1).x r)
      high_others r l k =
          ⊎_elim
          (λ z. inl (omega (arith, sound-read 1 r l, reads-most n m t δ κ r, spread-window δ κ)))
          (λ s. inr (inl (omega (arith, sound-read 1 r l, ⊎_elim (λ i. low i s) (λ i. under r i l s) k))))
          narrow_or_wide
        where
          low : r < needed n m t → 0 < spread δ κ → first_reading n m t δ κ r < spread δ κ
          low i s = omega (arith, reads-low n m t δ κ r i)

      high_swayed_by : Swayed n m δ (has 1) (needed n m t) e (n - t) (B + spread δ κ) (B + spread δ κ + δ)
      unfolding listed
      high_swayed_by =
          record {
            kind = unfold has in refl;
            here = λ r l. here 1 r (pos (base n m t δ κ + spread δ κ + δ)) refl;
            liars = λ r l k.
                liar_read 1 r (pos (base n m t δ κ + spread δ κ + δ)) refl k ∙ (unfold up in omega arith);
            joined = λ r l k. omega (arith, highest r l k, sound-read 1 r (omega arith));
            others = high_others;
            above = omega arith;
            below = omega arith;
            first = omega arith;
            second = within;
            third = omega arith;
            short = omega (arith, h.more, h.fewer);
            enough = omega (arith, h.fewer);
            most = omega (arith, h.more, h.fewer, h.crowded);
          }

    -- those between lie strictly between
    pub high_swayed :
        (spread δ κ ≡ 1 → ⊥)
        → Swayed n m δ (has 1) (needed n m t) (2 * needed n m t) (n - t) (B + spread δ κ) (B + spread δ κ + δ)
    high_swayed other =
        high_swayed_by (2 * needed n m t) (le_refl (2 * needed n m t))
        (omega (arith, joins n m t δ κ h, h.fewer))
        (reads-high n m t δ κ)
        (λ r l k s. half (spread δ κ) (first_reading n m t δ κ r) s other (reads-half n m t δ κ r l))
      where
        half : (d y : ℕ) → 0 < d → (d ≡ 1 → ⊥) → y ≡ (d + 1) / 2 → y < d
        half d y s other e =
            ⊎_elim
            (λ k. omega (arith, ltb-true 1 d k))
            (λ f. absurd (other (omega (arith, ltb-false 1 d f))))
            (both_ways (ltb 1 d))

    -- or read highest too, where that is 1
    pub high_swayed_one :
        spread δ κ ≡ 1
        → Swayed n m δ (has 1) (needed n m t) (n - t) (n - t) (B + spread δ κ) (B + spread δ κ + δ)
    high_swayed_one one =
        high_swayed_by (n - t)
        (omega (arith, joins n m t δ κ h, h.fewer))
        (le_refl (n - t))
        (λ r l k.
        ⊎_elim
        (λ s. reads-high n m t δ κ r l (ltb-true r (2 * needed n m t) s))
        (λ f. omega (arith, reads-half n m t δ κ r (ltb-false r (2 * needed n m t) f)))
        (both_ways (ltb r (2 * needed n m t))))
        (λ r l k s. absurd (omega (arith, l, k)))
