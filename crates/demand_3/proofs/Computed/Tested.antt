-- The hypotheses of demand 3 as tests that compute, for runs that are written out as lists.
-- Assumes nothing.
use mathlib.Core.Bool.{Bool, true, false, not, ◌&&◌}
use mathlib.Core.List.{List, [], ◌∷◌}
use mathlib.Core.Option.{none}
use mathlib.Core.Path.{◌≡◌, refl}
use Prim.Native.Nat.{ℕ, zero, suc, ◌<◌}
use native.Mathlib.Nat.{le_refl}
use borrow.Author.Tests.{leb-true, not-true}
use lib.Dec.{leb, ltb}
use lib.IntN.{ℤ}
use lib.ListN.{length, length-replicate}
use lib.Signed.{mag}
use mir.Facts.{sfits_lit}
use Rattle.arithmetic.specs.Counting.{any_below}
use Rattle.arithmetic.proofs.Bools.{clash, to-T, and_left, and_right, and_intro}
use Rattle.arithmetic.proofs.Counting.{any-true}
use Rattle.arithmetic.specs.Words.{two_to31}
use Rattle.model.specs.declared.Settings.{Settings}
use Rattle.model.specs.Ensemble.{Reading, missing, present, is_present, ticks}
use Rattle.model.specs.AnswerSheet.{answer_length}
use Rattle.model.specs.Refusals.{first_of, plan_checks}
use Rattle.run.specs.Run.{IsReading, Station, N, δ, κ, Sends, Allowed}
use Rattle.demand_3.specs.Guarantee.{Each, apart, Good}
use Rattle.run.specs.Rounds.{listed, station, two_faced}
use Rattle.demand_3.specs.Witnesses.{Meets}

-- ---- readings of 32 bits

abbrev pub fits32 : Reading → Bool
fits32 missing = true
fits32 (present z) = ltb (mag z) two_to31

abbrev pub all_fit : List Reading → Bool
all_fit [] = true
all_fit (r ∷ rs) = fits32 r && all_fit rs

reading-tested : (r : Reading) → fits32 r ≡ true → IsReading r
reading-tested missing e = tt
reading-tested (present z) e = sfits_lit (to-T e)

readings-tested : (rs : List Reading) → all_fit rs ≡ true → (p : ℕ) → IsReading (listed rs p)
unfolding listed
readings-tested [] e p = tt
readings-tested (r ∷ rs) e zero = reading-tested r (and_left (fits32 r) (all_fit rs) e)
readings-tested (r ∷ rs) e (suc p) = readings-tested rs (and_right (fits32 r) (all_fit rs) e) p

pub sends-tested :
    (st : Station) (told relays : List Reading) → (all_fit told && all_fit relays) ≡ true
    → Allowed st (two_faced (N st) told relays)
sends-tested st told relays e =
    record {
      sent = λ r. readings-tested told (and_left (all_fit told) (all_fit relays) e);
      relayed = λ r s. readings-tested relays (and_right (all_fit told) (all_fit relays) e);
      room = λ p. rw (length-replicate {A = ℕ} (answer_length (N st)) 255) (le_refl (answer_length (N st)));
    }

-- ---- the good set

-- a test that no index fails
pub tested :
    (p q : ℕ → Bool) (n : ℕ) → any_below (λ i. p i && not (q i)) n ≡ false → (i : ℕ) → i < n → p i ≡ true
    → q i ≡ true
tested p q n e i l h = go (q i) refl
  where
    go : (b : Bool) → q i ≡ b → b ≡ true
    go true f = refl
    go false f = clash (any-true (λ j. p j && not (q j)) n i l (and_intro h (rw f))) e

module _ (st : Station) (good : ℕ → Bool) (truth : ℤ) where
  abbrev pub near-each : ℕ → ℕ → Bool
  near-each p q = leb (apart (ticks (st.first p)) (ticks (st.first q))) (δ st)

  -- p reads within δ of every good cabinet, and within κ of true
  abbrev pub near-good : ℕ → Bool
  near-good p = not (any_below (λ q. good q && not (near-each p q)) (N st))

  abbrev pub near-truth : ℕ → Bool
  near-truth p = leb (apart (ticks (st.first p)) truth) (κ st)

  -- p is as `Good` asks of a good cabinet
  abbrev pub fine : ℕ → Bool
  fine p = st.sound p && (is_present (st.first p) && (near-truth p && near-good p))

  -- a good cabinet is not
  abbrev pub amiss : Bool
  amiss = any_below (λ p. good p && not (fine p)) (N st)

  pub good-tested : amiss ≡ false → Good st good truth
  good-tested e =
      record {
        sound = λ p l g. and_left (st.sound p) _ (is_fine p l g);
        present = λ p l g. and_left (is_present (st.first p)) _ (and_right (st.sound p) _ (is_fine p l g));
        accurate = λ p l g. leb-true _ _ (and_left (near-truth p) _ (is_near p l g));
        precise = λ p q lp lq gp gq. leb-true _ _ (tested good (near-each p) (N st) (none-far p lp gp) q lq gq);
      }
    where
      is_fine : (p : ℕ) → p < N st → good p ≡ true → fine p ≡ true
      is_fine = tested good fine (N st) e

      is_near : (p : ℕ) → p < N st → good p ≡ true → (near-truth p && near-good p) ≡ true
      is_near p l g = and_right (is_present (st.first p)) _ (and_right (st.sound p) _ (is_fine p l g))

      none-far : (p : ℕ) → p < N st → good p ≡ true → any_below (λ q. good q && not (near-each p q)) (N st) ≡ false
      none-far p l g = not-true _ (and_right (near-truth p) (near-good p) (is_near p l g))

-- ---- a run

module _ (c : Settings) (accuracy k : ℕ) (first : List Reading) (rounds : List Sends) (good : ℕ → Bool)
    (truth : ℤ) where
  pub meets-tested :
      (first_of (plan_checks c accuracy 0) ≡ none)
      × (all_fit first ≡ true)
      × (amiss (station c accuracy k first) good truth ≡ false)
      × (leb (length rounds) 32 ≡ true)
      → Each (Allowed (station c accuracy k first)) rounds
      → Meets (station c accuracy k first) rounds good truth
  meets-tested (passes, fit, none-amiss, most) each =
      record {
        starts = record { grants = passes; readings = readings-tested first fit };
        most = leb-true (length rounds) 32 most;
        allowed = each;
        goodness = good-tested (station c accuracy k first) good truth none-amiss;
      }
