-- 32 bits hold the estimate, the used values and the new value of a round where they hold its readings, by any rule.
-- Assumes nothing.
use mathlib.Core.Bool.{Bool, true, false, cond, ◌&&◌}
use mathlib.Core.Path.{◌≡◌, refl, sym, ap, subst, subst⁻¹}
use Prim.Native.Nat.{ℕ, ◌*◌, ◌≤◌, ◌<◌, zero-le}
use native.Mathlib.Omega.{arith}
use lib.IntN.{ℤ, pos, negsuc}
use mir.Syntax.{w32}
use mir.Val.{SFits}
use Rattle.arithmetic.specs.Counting.{count}
use Rattle.arithmetic.specs.Naturals.{down, up}
use Rattle.arithmetic.proofs.Shift.{down-ind, down-up}
use Rattle.arithmetic.specs.Words.{two_to31}
use Rattle.model.specs.declared.Settings.{Settings}
use Rattle.model.specs.Ensemble.{Readings, is_present, ticks}
use Rattle.model.specs.RoundSheet.{trims}
use Rattle.model.specs.Steps.{is_kept, trimmed_value, Round, round_of, trimmed_round, round_by}
use Rattle.round_laws.proofs.Local.{EqualBelow}
use Rattle.round_laws.proofs.Natural.{acc-of, estimate-of, used-of, value_of, round-count, round-estimate, round-used}
use Rattle.round_laws.proofs.Natural.{round-value}
use Rattle.round_laws.proofs.Shifted.{even_31}
use Rattle.round_laws.proofs.Represent.{raise, shift-raise}
use Rattle.round_laws.specs.Naturals.{shifted, trimmed_nat}
use Rattle.value_laws.proofs.Estimates.{estimate-within, used-within}
use Rattle.value_laws.proofs.Means.{mean-below}
use Rattle.value_laws.proofs.Trimmed.{trimmed-down, trimmed-within}

-- a number moved down by 2^31 from below 2^32
down_fits : (a : ℕ) → a ≤ 4_294_967_295 → SFits w32 (down two_to31 a)
down_fits a h =
    down-ind two_to31 a (λ z. SFits w32 z) (λ l. record { sfits = omega arith }) (λ l. record { sfits = omega arith })

up_fits : (z : ℤ) → SFits w32 z → up two_to31 z ≤ 4_294_967_295
unfolding up
up_fits (pos a) i = let h = i.sfits in omega arith
up_fits (negsuc a) i = omega arith

module _ (c : Settings) (D : ℕ) (v : Readings) (fits : (r : ℕ) → r < c.n → SFits w32 (ticks (v r)))
    (some-acc : 0 < (round_of c D v).count) where
  abbrev here : ℕ → Bool
  here r = is_present (v r)

  same32 : EqualBelow c.n v (shifted two_to31 (λ r. is_present (v r)) (raise two_to31 v))
  same32 r l = sym (shift-raise two_to31 (v r) (fits r l).sfits)

  counted32 : 0 < count (acc-of c D here (raise two_to31 v)) c.n
  counted32 = subst (λ (a : ℕ). 0 < a) (round-count c D here (raise two_to31 v) v two_to31 same32) some-acc

  small : (r : ℕ) → r < c.n → raise two_to31 v r ≤ 4_294_967_295
  small r l = up_fits (ticks (v r)) (fits r l)

  used-small : (r : ℕ) → r < c.n → used-of c D here (raise two_to31 v) two_to31 r ≤ 4_294_967_295
  used-small r l =
      (used-within (acc-of c D here (raise two_to31 v)) c.n (raise two_to31 v) counted32 0 4_294_967_295
      (λ i k e. zero-le) (λ i k e. small i k) two_to31 c.estimator r l).high

  pub estimate-fits : SFits w32 (round_of c D v).estimate
  estimate-fits =
      subst⁻¹ (SFits w32) (round-estimate c D here (raise two_to31 v) v two_to31 same32 counted32)
      (down_fits (estimate-of c D here (raise two_to31 v) two_to31)
      (estimate-within (acc-of c D here (raise two_to31 v)) c.n (raise two_to31 v) counted32 0 4_294_967_295
      (λ i k e. zero-le) (λ i k e. small i k) two_to31 c.estimator).high)

  pub used-fits : (r : ℕ) → r < c.n → SFits w32 ((round_of c D v).used r)
  used-fits r l =
      subst⁻¹ (SFits w32) (round-used c D here (raise two_to31 v) v two_to31 same32 counted32 r l)
      (down_fits (used-of c D here (raise two_to31 v) two_to31 r) (used-small r l))

  pub value-fits : 0 < c.n → SFits w32 (round_of c D v).value
  value-fits some-n =
      subst⁻¹ (SFits w32) (round-value c D here (raise two_to31 v) v two_to31 same32 some-n even_31 counted32)
      (down_fits (value_of c D here (raise two_to31 v) two_to31)
      (mean-below c.n some-n (used-of c D here (raise two_to31 v) two_to31) 4_294_967_295 used-small))

-- ---- by rules 2 and 3

module _ (c : Settings) (v : Readings) (fits : (r : ℕ) → r < c.n → SFits w32 (ticks (v r))) (few : 2 * c.m < c.n) where
  pub trimmed-fits : SFits w32 (trimmed_value c.rule c.n c.m v)
  trimmed-fits =
      let x = raise two_to31 v in
      subst⁻¹ (SFits w32)
      (trimmed-down two_to31 c.n v x (λ r l. sym (down-up two_to31 (ticks (v r)) (fits r l).sfits)) c.m few even_31
      c.rule)
      (down_fits (trimmed_nat c.rule c.n c.m x)
      (trimmed-within c.n c.m few x 0 4_294_967_295
      (λ r l _. record { low = zero-le; high = up_fits (ticks (v r)) (fits r l) })
      c.rule).high)

  trimmed-used-fits : (r : ℕ) → r < c.n → SFits w32 ((trimmed_round c v).used r)
  unfolding trimmed_round
  trimmed-used-fits r l = go (is_kept c.n c.m v r && is_present (v r))
    where
      go : (b : Bool) → SFits w32 (cond b (ticks (v r)) (trimmed_value c.rule c.n c.m v))
      go true = fits r l
      go false = trimmed-fits

-- ---- by any rule

pub record NumbersFit (n : ℕ) (r : Round) : Type 0 where
  pub estimate : SFits w32 r.estimate
  pub value : SFits w32 r.value
  pub used : (i : ℕ) → i < n → SFits w32 (r.used i)

pub round-fits :
    (c : Settings) (D : ℕ) (v : Readings) → ((r : ℕ) → r < c.n → SFits w32 (ticks (v r))) → 2 * c.m < c.n
    → 0 < (round_by c D v).count → NumbersFit c.n (round_by c D v)
unfolding round_by trimmed_round
round-fits c D v fits few = go (trims c.rule)
  where
    trimmed : NumbersFit c.n (trimmed_round c v)
    trimmed =
        record {
          estimate = trimmed-fits c v fits few;
          value = trimmed-fits c v fits few;
          used = trimmed-used-fits c v fits few;
        }

    go :
        (b : Bool) → 0 < (cond b (trimmed_round c v) (round_of c D v)).count
        → NumbersFit c.n (cond b (trimmed_round c v) (round_of c D v))
    go true some-count = trimmed
    go false some-count =
        record {
          estimate = estimate-fits c D v fits some-count;
          value = value-fits c D v fits some-count (omega arith);
          used = used-fits c D v fits some-count;
        }
