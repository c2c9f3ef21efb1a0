-- The limits for an odd N hold: `odd-limits` is the theorem that specs/Odd.antt states. No mean is a half, so that the two
-- roundings of naturals are the same and the mean's is both.
-- Assumes nothing.
use mathlib.Core.Bool.{Bool, true, false, cond}
use mathlib.Core.List.{List, [], ◌∷◌}
use mathlib.Core.Path.{◌≡◌, refl, ap, ap₂, ◌∙◌}
use Prim.Native.Nat.{ℕ, ◌+◌, ◌*◌, ◌-◌, ◌/◌, ◌%◌, ◌≤◌, ◌<◌}
use native.Mathlib.Nat.{le_trans, mul_comm, mul-one, mul-le-mul_left, zero-add, add-mul-div_right}
use native.Mathlib.Omega.{arith}
use lib.IntN.{ℤ, pos, ◌-ℤ◌}
use lib.ListN.{length}
use Rattle.arithmetic.specs.Naturals.{down}
use Rattle.arithmetic.proofs.Shift.{down_cong, pos-down, dist_down}
use Rattle.model.specs.Planner.{ceil_div, max_rounds}
use Rattle.model.specs.Steps.{mean}
use Rattle.planner_laws.proofs.Ceiling.{ceil_past}
use Rattle.round_laws.specs.Naturals.{Even, even_nat, half_up_nat, half_down_nat, mean_nat}
use Rattle.value_laws.proofs.Means.{mean-low, mean-high, mean-shift}
use Rattle.limit_laws.proofs.Means.{rise, fall, no_half, mean-fall, up-sum, rise-odd}
use Rattle.run.specs.Run.{Station, N, m, δ, Sends, start}
use Rattle.run.proofs.Ready.{ready_start, some-n}
use Rattle.demand_3.specs.Guarantee.{First, apart, bad}
use Rattle.demand_3.specs.Exact.{excess, exact_gap, ExactFirst}
use Rattle.demand_3.specs.Odd.{odd_wide_gap, OddWide, OddExact, OddLimits}
use Rattle.demand_3.proofs.Distances.{mean-above-zero, mean-below-zero}
use Rattle.demand_3.proofs.Exact.{error_is, gap_is, gap-least, wide-parts, exact-limits}
use Rattle.demand_3.proofs.Guarantee.{every, every-odd}

-- what the mean makes of x, and of -x
module _ (n : ℕ) (some : 0 < n) (odd : n % 2 ≡ 1) (x : ℕ) where
  abbrev K : ℕ
  K = x + x

  even : Even (x + x)
  even = record { half = x; twice = refl }

  mean_is : mean_nat n x ≡ half_up_nat n x
  mean_is = omega (arith, mean-low n some x, mean-high n some x, no_half n some odd x)

  mean-more : mean n (pos x) ≡ down K (half_up_nat n x + K)
  mean-more =
      mean-above-zero n K some even x
      ∙ ap (λ (s : ℕ). down K (mean_nat n s)) turned
      ∙ ap (down K) (mean-shift n some x K even ∙ ap (λ (s : ℕ). s + K) mean_is)
    where
      turned : n * K + x ≡ x + K * n
      turned = omega (arith, mul_comm n K)

  room : x ≤ n * K
  room = omega (arith, mul_comm n K, fold n some)
    where
      fold : (a : ℕ) → 0 < a → x ≤ K * a
      fold a l = omega (arith, mul-le-mul_left K l, mul-one K)

  short : n * K - x + x ≡ n * K
  short = omega (arith, room)

  mean-less : mean n (pos 0 -ℤ pos x) ≡ down K (K - half_up_nat n x)
  mean-less = mean-below-zero n K some even x (n * K - x) short ∙ ap (down K) fallen
    where
      fallen : mean_nat n (n * K - x) ≡ K - half_up_nat n x
      fallen =
          omega (
            arith,
            short,
            mean-fall n some (n * K - x) K x (omega (arith, short)),
            mean-high n some (n * K - x),
            up-sum n some (n * K - x) K x short,
            no_half n some odd x,
          )

  least : half_up_nat n x ≤ K
  least = omega (arith, up-sum n some (n * K - x) K x short, no_half n some odd x)

  far-more : apart (mean n (pos x)) (pos 0) ≡ half_up_nat n x
  far-more =
      ap₂ apart mean-more (pos-down 0 ∙ down_cong 0 0 K K (omega arith))
      ∙ dist_down K (half_up_nat n x + K) K
      ∙ omega arith

  far-both : apart (mean n (pos x)) (mean n (pos 0 -ℤ pos x)) ≡ 2 * half_up_nat n x
  far-both = ap₂ apart mean-more mean-less ∙ dist_down K (half_up_nat n x + K) (K - half_up_nat n x) ∙ omega (arith, least)

module _ (st : Station) (some : 0 < N st) (odd : N st % 2 ≡ 1) (t : ℕ) where
  fall-odd : fall (N st) (δ st) (excess st t) ≡ rise (N st) (excess st t)
  unfolding fall
  fall-odd = go (even_nat (δ st))
    where
      go : (b : Bool) → cond b (half_up_nat (N st) (excess st t)) (half_down_nat (N st) (excess st t)) ≡ half_up_nat (N st) (excess st t)
      go true = refl
      go false = omega (arith, no_half (N st) some odd (excess st t))

  odd-exact : OddExact st t
  odd-exact =
      record {
        gap = omega (arith, gap_is st t, fall-odd, far-both (N st) some odd (excess st t));
        error = omega (arith, error_is st t, far-more (N st) some odd (excess st t));
      }

  pub wide-odd : exact_gap st t ≤ odd_wide_gap st t
  unfolding ceil_div
  wide-odd =
      let parts : (N st + 2 * t + 2 * m st) * δ st + (N st - 1) ≡ 2 * excess st t + (N st - 1) + δ st * N st =
      omega (arith, wide-parts st some t) in
      let split = ap (λ (a : ℕ). a / N st) parts ∙ add-mul-div_right (2 * excess st t + (N st - 1)) (δ st) some in
      omega (arith, gap-least st some t, rise-odd (N st) some odd (excess st t), split)

  first-odd :
      (truth : ℤ) (rounds : List Sends) → ExactFirst st rounds t truth → First (OddWide st t) (start st) rounds
  first-odd truth [] e = tt
  first-odd truth (x ∷ xs) e =
      record {
        precise = λ p q sp sq up uq. le_trans (e.exact.precise p q sp sq up uq) wide-odd;
        sharper = ceil_past (N st) some ((N st + 2 * t + 2 * m st) * δ st);
      }

pub odd-limits : OddLimits
odd-limits st odd begins rounds l each good truth g =
    let most : 0 + length rounds ≤ max_rounds = rw (zero-add (length rounds)) l in
    let some : 0 < N st = some-n st begins 0 (start st) (ready_start st begins) in
    record {
      few = λ few.
          every-odd st truth odd rounds (start st)
          (every st begins truth rounds good (start st) 0 most each (ready_start st begins) g few);
      many = λ above many.
          first-odd st some odd (bad st good) truth rounds
          (exact-limits st begins rounds l each good truth g above many);
      exact = odd-exact st some odd (bad st good);
    }
