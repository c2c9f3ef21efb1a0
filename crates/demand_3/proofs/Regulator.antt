-- The regulator's case follows from `exact-limits`, `guarantee` and `odd-limits`: their limits at N 7, m 2 and t 3 or 4,
-- and the plans that the steps hand on, in numbers.
-- Assumes nothing.
use mathlib.Core.Bool.{Bool, true, false, cond, ◌&&◌}
use mathlib.Core.List.{List, [], ◌∷◌}
use mathlib.Core.Path.{◌≡◌, refl, sym, ap, ap₂, ◌∙◌, subst}
use Prim.Native.Nat.{ℕ, zero, suc, ◌+◌, ◌*◌, ◌/◌, ◌≤◌, ◌<◌}
use native.Mathlib.Nat.{le_trans, mul_assoc}
use native.Mathlib.Omega.{arith}
use lib.Dec.{eqb, lit<}
use lib.IntN.{ℤ}
use Rattle.model.specs.RoundSheet.{cca, median}
use Rattle.model.specs.AnswerSheet.{answer_length}
use Rattle.model.specs.Planner.{Plan, ceil_div, past_div, window_factor, next_window, growth, with_window, plan_from, advance, after}
use Rattle.model.specs.Calls.{granted}
use Rattle.planner_laws.proofs.Rounds.{settings-after}
use Rattle.round_laws.specs.Naturals.{half_up_nat}
use Rattle.limit_laws.proofs.Means.{rise}
use Rattle.run.specs.Run.{Station, N, δ, κ, Sends, State, start, next}
use Rattle.demand_3.specs.Guarantee.{bad, Every, First, Close}
use Rattle.demand_3.specs.Guarantee.{Wide, wide_error, Guarantee}
use Rattle.demand_3.specs.Exact.{excess, exact_gap, exact_error, ExactFirst}
use Rattle.demand_3.specs.Odd.{odd_close_gap, OddClose, odd_wide_gap, OddWide, OddGuarantee}
use Rattle.demand_3.specs.Regulator.{SevenPlannedForTwo, nearest_seventh, ManyBad, sevenths, window_of, accuracy_of}
use Rattle.demand_3.specs.Regulator.{AtMostTwoBad, EveryNumbered, RegulatorsCase}
use Rattle.demand_3.proofs.Exact.{error_is, gap-least, exact-limits, exact-wide}
use Rattle.demand_3.proofs.Guarantee.{guarantee, step-advances}
use Rattle.demand_3.proofs.Odd.{odd-limits}

module _ (st : Station) (seven : SevenPlannedForTwo st) where
  -- ---- the planner's windows and accuracies

  -- the planner's plan after k rounds
  abbrev planned : ℕ → Plan
  planned k = after k (plan_from st.settings (κ st))

  share : window_factor st.settings * 2 ≡ sevenths st
  unfolding window_factor sevenths
  share = go (eqb st.settings.rule cca && eqb st.settings.estimator median)
    where
      go : (b : Bool) → cond b 1 2 * 2 ≡ cond b 2 4
      go true = refl
      go false = refl

  in_sevenths : (w : ℕ) → window_factor st.settings * (2 * w) ≡ sevenths st * w
  in_sevenths w = sym (mul_assoc (window_factor st.settings) 2 w) ∙ ap (λ (f : ℕ). f * w) share

  next_of : (w : ℕ) → next_window (with_window st.settings w) ≡ cond (eqb w 0) 0 (past_div (sevenths st * w) 7)
  unfolding next_window window_factor sevenths
  next_of w =
      rw (seven.seven, seven.two) (ap (λ (a : ℕ). cond (eqb w 0) 0 (past_div a 7)) (in_sevenths w))

  growth-of : (w : ℕ) → growth (with_window st.settings w) ≡ ceil_div (2 * w) 7
  unfolding growth
  growth-of w = rw (seven.seven, seven.two)

  window-after : (k : ℕ) → (planned k).settings.window ≡ window_of st k
  unfolding after advance window_of
  window-after zero = refl
  window-after (suc k) =
      ap next_window (settings-after k (plan_from st.settings (κ st)))
      ∙ next_of (planned k).settings.window
      ∙ ap (λ (w : ℕ). cond (eqb w 0) 0 (past_div (sevenths st * w) 7)) (window-after k)

  accuracy-after : (k : ℕ) → (planned k).accuracy ≡ accuracy_of st k
  unfolding after advance accuracy_of
  accuracy-after zero = refl
  accuracy-after (suc k) =
      ap₂ ◌+◌ (accuracy-after k)
      (ap growth (settings-after k (plan_from st.settings (κ st)))
      ∙ growth-of (planned k).settings.window
      ∙ ap (λ (w : ℕ). ceil_div (2 * w) 7) (window-after k))

  odd-gap : (now : State) → odd_close_gap st now ≡ ceil_div (sevenths st * now.plan.settings.window) 7
  unfolding window_factor sevenths
  odd-gap now = rw (seven.seven, seven.two) (ap (λ (a : ℕ). ceil_div a 7) (in_sevenths now.plan.settings.window))

  module _ (truth : ℤ) where
    -- ---- every round of a list, where the plan is the planner's

    numbered :
        (rounds : List Sends) (k : ℕ) (now : State) → now.plan ≡ planned k
        → Every st (Close st truth) now rounds → Every st (OddClose st) now rounds
        → EveryNumbered st (AtMostTwoBad st truth) k now rounds
    unfolding after
    numbered [] k now plan every every-odd = tt
    numbered (x ∷ xs) k now plan (close, rest) (odd, rest-odd) =
        let later : (next st now x).plan ≡ planned (suc k) =
        step-advances now.plan (next st now x).plan close.steps ∙ ap advance plan in
        let window : (next st now x).plan.settings.window ≡ window_of st (suc k) =
        ap (λ (p : Plan). p.settings.window) later ∙ window-after (suc k) in
        let accuracy : (next st now x).plan.accuracy ≡ accuracy_of st (suc k) =
        ap (λ (p : Plan). p.accuracy) later ∙ accuracy-after (suc k) in
        let settled : now.plan.settings.window ≡ window_of st k =
        ap (λ (p : Plan). p.settings.window) plan ∙ window-after k in
        let limit : odd_close_gap st now ≡ ceil_div (sevenths st * window_of st k) 7 =
        odd-gap now ∙ ap (λ (w : ℕ). ceil_div (sevenths st * w) 7) settled in (
          record {
            plan = plan;
            window = settled;
            accuracy = ap (λ (p : Plan). p.accuracy) plan ∙ accuracy-after k;
            unrefused = λ p s. close.unrefused p s ∙ ap (λ (n : ℕ). granted (answer_length n)) seven.seven;
            precise = λ p q sp sq. rw limit at (odd.precise p q sp sq);
            narrower = omega (arith, odd.sharper, limit, window);
            accurate = λ p s. rw accuracy at (close.accurate p s);
          },
          numbered xs (suc k) (next st now x) later rest rest-odd,
        )

    -- ---- the first round, where t are bad, more than two

    module _ (t : ℕ) where
      -- the mean's rounding, up and down
      share_up : rise (N st) (excess st t) ≡ nearest_seventh ((2 + t) * δ st)
      unfolding half_up_nat nearest_seventh
      share_up = rw (seven.seven, seven.two) (halves ((2 + t) * δ st))
        where
          halves : (a : ℕ) → (a + a + 7) / 14 ≡ (2 * a + 7) / 14
          halves a = ap (λ (b : ℕ). (b + 7) / 14) {x = a + a} {y = 2 * a} (omega arith)

      some : 0 < N st
      some = rw seven.seven (omega arith)

      error_in : exact_error st t ≤ κ st + nearest_seventh ((2 + t) * δ st)
      error_in = omega (arith, error_is st t, share_up)

      gap_in : exact_gap st t ≤ δ st + 2 * nearest_seventh ((2 + t) * δ st)
      gap_in = omega (arith, gap-least st some t, share_up)

      wide-error : wide_error st t ≡ κ st + ceil_div ((2 + t) * δ st) 7
      wide-error = rw (seven.seven, seven.two)

      wide-gap : odd_wide_gap st t ≡ ceil_div ((11 + 2 * t) * δ st) 7
      wide-gap = rw (seven.seven, seven.two) (ap (λ (a : ℕ). ceil_div (a * δ st) 7) (omega arith))

      first :
          (rounds : List Sends) → ExactFirst st rounds t truth → First (OddWide st t) (start st) rounds
          → First (ManyBad st (2 + t) (11 + 2 * t) truth) (start st) rounds
      first [] e o = tt
      first (x ∷ xs) e o =
          let w : Wide st t truth (start st) x = exact-wide st t truth (x ∷ xs) e in
          record {
            precise = λ p q sp sq up uq. le_trans (e.exact.precise p q sp sq up uq) gap_in;
            accurate = λ p s u. le_trans (e.exact.accurate p s u) error_in;
            widely_precise = λ p q sp sq up uq. rw wide-gap at (o.precise p q sp sq up uq);
            widely_accurate = λ p s u. rw wide-error at (w.accurate p s u);
          }

pub regulators_case : RegulatorsCase
unfolding after
regulators_case st seven begins rounds l each good truth g =
    record {
      three = λ t. first st seven truth 3 rounds (more 3 (lit< tt) (lit< tt) t) (more-odd 3 (lit< tt) (lit< tt) t);
      four = λ t. first st seven truth 4 rounds (more 4 (lit< tt) (lit< tt) t) (more-odd 4 (lit< tt) (lit< tt) t);
      fewer = λ few.
          numbered st seven truth rounds 0 (start st) refl (promise.few (rw seven.two few))
          (odd.few (rw seven.two few));
    }
  where
    odd : OddGuarantee st rounds good
    odd = odd-limits st (rw seven.seven) begins rounds l each good truth g

    promise : Guarantee st rounds good truth
    promise = guarantee st begins rounds l each good truth g

    more : (t : ℕ) → 2 < t → t < 5 → bad st good ≡ t → ExactFirst st rounds t truth
    more t above many e =
        subst (λ (u : ℕ). ExactFirst st rounds u truth) e
        (exact-limits st begins rounds l each good truth g
        (rw (e, seven.two) above) (rw (e, seven.seven, seven.two) many))

    more-odd : (t : ℕ) → 2 < t → t < 5 → bad st good ≡ t → First (OddWide st t) (start st) rounds
    more-odd t above many e =
        subst (λ (u : ℕ). First (OddWide st u) (start st) rounds) e
        (odd.many (rw (e, seven.two) above) (rw (e, seven.seven, seven.two) many))
