-- The exact limits hold: `exact-limits` is the theorem that specs/Exact.antt states. What the mean makes of (m+t)δ
-- more, and of (m+t)δ less, is `rise` and `fall` of the naturals. The wider limits follow (`exact-wide`).
-- Assumes nothing.
use mathlib.Core.Bool.{Bool}
use mathlib.Core.List.{List, [], ◌∷◌}
use mathlib.Core.Path.{◌≡◌, ap, ◌∙◌}
use Prim.Native.Nat.{ℕ, ◌+◌, ◌*◌, ◌-◌, ◌/◌, ◌≤◌, ◌<◌}
use native.Mathlib.Nat.{le_trans, mul_assoc, mul_comm, add-mul}
use native.Mathlib.Omega.{arith}
use lib.IntN.{ℤ}
use Rattle.model.specs.Planner.{past_div}
use Rattle.planner_laws.proofs.Ceiling.{past_add}
use Rattle.round_laws.specs.Naturals.{half_up_nat, half_down_nat}
use Rattle.limit_laws.proofs.Means.{rise, fall, rise_ceil, fall-rise, rise-past}
use Rattle.run.specs.Run.{Station, N, m, δ, κ, Start, Sends, Allowed, start}
use Rattle.demand_3.specs.Guarantee.{Each}
use Rattle.demand_3.specs.Guarantee.{Good, bad, First, Wide, wide_gap}
use Rattle.demand_3.specs.Exact.{excess, half_up, half_down, exact_gap, exact_error, Exact, Sharper, ExactFirst}
use Rattle.demand_3.specs.Exact.{ExactLimits}
use Rattle.run.proofs.Ready.{ready_start, some-n}
use Rattle.demand_3.proofs.Round.{many-precise, many-accurate}

-- the two roundings of naturals
pub up_is : (n x : ℕ) → half_up n x ≡ half_up_nat n x
unfolding half_up half_up_nat
up_is n x = ap (λ (a : ℕ). a / (2 * n)) twice
  where
    twice : 2 * x + n ≡ x + x + n
    twice = omega arith

down_is : (n x : ℕ) → half_down n x ≡ half_down_nat n x
unfolding half_down half_down_nat
down_is n x = ap (λ (a : ℕ). a / (2 * n)) twice
  where
    twice : 2 * x + (n - 1) ≡ x + x + (n - 1)
    twice = omega arith

module _ (st : Station) (t : ℕ) where
  -- the two limits as naturals
  pub error_is : exact_error st t ≡ κ st + rise (N st) (excess st t)
  error_is = ap (λ (d : ℕ). κ st + d) (up_is (N st) (excess st t))

  pub gap_is : exact_gap st t ≡ δ st + (rise (N st) (excess st t) + fall (N st) (δ st) (excess st t))
  unfolding fall
  gap_is = rw (up_is (N st) (excess st t), down_is (N st) (excess st t))

module _ (st : Station) (some : 0 < N st) (t : ℕ) where
  pub wide-parts : (N st + 2 * t + 2 * m st) * δ st ≡ 2 * excess st t + δ st * N st
  wide-parts =
      let a = add-mul (N st + 2 * t) (2 * m st) (δ st) in
      let b = add-mul (N st) (2 * t) (δ st) in
      let c = add-mul (m st) t (δ st) in
      omega (arith, mul_assoc 2 t (δ st), mul_assoc 2 (m st) (δ st), mul_comm (N st) (δ st))

  wide_is : wide_gap st t ≡ δ st + past_div (2 * excess st t) (N st)
  wide_is = ap (λ (a : ℕ). past_div a (N st)) wide-parts ∙ past_add (N st) some (2 * excess st t) (δ st)

  pub gap-least : exact_gap st t ≤ δ st + 2 * rise (N st) (excess st t)
  gap-least = omega (arith, gap_is st t, fall-rise (N st) some (δ st) (excess st t))

  pub sharper : Sharper st t
  sharper =
      record {
        gap = omega (arith, gap-least, wide_is, rise-past (N st) some (excess st t));
        error = omega (arith, error_is st t, rise_ceil (N st) some (excess st t));
      }

module _ (st : Station) (begins : Start st) (rounds : List Sends) (each : Each (Allowed st) rounds)
    (good : ℕ → Bool) (truth : ℤ) (stand : Good st good truth) (many : bad st good < N st - m st) where
  some : 0 < N st
  some = some-n st begins 0 (start st) (ready_start st begins)

  exact : First (Exact st (bad st good) truth) (start st) rounds
  exact = go rounds each
    where
      go : (xs : List Sends) → Each (Allowed st) xs → First (Exact st (bad st good) truth) (start st) xs
      go [] e = tt
      go (x ∷ xs) e =
          record {
            accurate = λ p s u.
                rw (error_is st (bad st good))
                (many-accurate st begins 0 (start st) (ready_start st begins) x e.0 good truth stand many p u);
            precise = λ p q sp sq up uq.
                rw (gap_is st (bad st good))
                (many-precise st begins 0 (start st) (ready_start st begins) x e.0 good truth stand many p q up uq);
          }

pub exact-limits : ExactLimits
exact-limits st begins rounds l each good truth stand above many =
    record {
      exact = exact st begins rounds each good truth stand many;
      sharper = sharper st (some st begins rounds each good truth stand many) (bad st good);
    }

-- the wider limits, which are not below the exact ones
pub exact-wide :
    (st : Station) (t : ℕ) (truth : ℤ) (rounds : List Sends)
    → ExactFirst st rounds t truth → First (Wide st t truth) (start st) rounds
exact-wide st t truth [] e = tt
exact-wide st t truth (x ∷ xs) e =
    record {
      accurate = λ p s u. le_trans (e.exact.accurate p s u) e.sharper.error;
      precise = λ p q sp sq up uq. le_trans (e.exact.precise p q sp sq up uq) e.sharper.gap;
    }
