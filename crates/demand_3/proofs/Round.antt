-- One round of a run, from a state in which a set is good: present, within the plan's accuracy of true and within its
-- window of each other. Where at most m are not good, no cabinet refuses, and new values lie within the next window of
-- each other and within the accuracy with its growth of true. Where more are bad, but fewer than N-m, those that do
-- not refuse lie within the wider limits.
--   station_at         a state as the station that starts from it
-- Assumes nothing.
use mathlib.Core.Bool.{Bool, true, false, not, cond, ◌&&◌}
use mathlib.Core.Logic.{⊎_elim}
use mathlib.Core.Path.{◌≡◌, refl, ap, ◌∙◌, subst, subst⁻¹}
use Prim.Native.Nat.{ℕ, ◌+◌, ◌*◌, ◌-◌, ◌%◌, ◌≤◌, ◌<◌}
use native.Mathlib.Nat.{le_trans, lt_of_lt_of_le, lt_of_le_of_lt, one-mul, zero-mul, mul-zero, add-zero}
use native.Mathlib.Omega.{arith}
use borrow.Author.Tests.{eqb-true, eqb-false}
use lib.Dec.{eqb}
use lib.IntN.{ℤ}
use lib.Signed.{mag}
use Rattle.arithmetic.specs.Counting.{count}
use Rattle.arithmetic.proofs.Bools.{clash}
use Rattle.arithmetic.proofs.Counting.{count_mono}
use Rattle.arithmetic.specs.Naturals.{down, up}
use Rattle.arithmetic.proofs.Shift.{down-up}
use Rattle.arithmetic.specs.Words.{two_to31}
use Rattle.decision_laws.proofs.Rows.{faults}
use Rattle.model.specs.declared.Settings.{Settings}
use Rattle.model.specs.Ensemble.{Reading, missing, present, is_present, ticks}
use Rattle.model.specs.RoundSheet.{cca, median}
use Rattle.model.specs.AnswerSheet.{answer_length}
use Rattle.model.specs.Planner.{ceil_div, window_factor, next_window, growth, with_window}
use Rattle.model.specs.Calls.{granted}
use Rattle.planner_laws.proofs.Windows.{next_past}
use Rattle.round_laws.specs.Naturals.{Even}
use Rattle.limit_laws.proofs.Means.{MeansClose, rise, fall}
use Rattle.limit_laws.proofs.Settled.{Receiver, accepts, value_by, CloseValues, GoodAlike, BothAlike, Spread, ReadsSome, Few}
use Rattle.limit_laws.proofs.Settled.{Reads, Truth}
use Rattle.limit_laws.proofs.Limits.{Accurate, accuracy-many, precision-many, unrefused, accuracy-few, precision-few}
use Rattle.limit_laws.proofs.Limits.{precision-median}
use Rattle.run.specs.Run.{IsReading, Station, N, m, Start, Sends, Allowed, State, settled, next}
use Rattle.demand_3.specs.Guarantee.{new_value, Unrefused, apart, Good, bad}
use Rattle.demand_3.proofs.Distances.{dist_above, dist_below, dist_of, fits-mag, even-far, far-most, far-near, far-twice}
use Rattle.run.proofs.Entries.{seen, seen-held, seen-held_or_not, seen_alike}
use Rattle.run.proofs.Link.{found}
use Rattle.run.proofs.Ready.{Ready, planned, grants, accepts-some}
use Rattle.demand_3.proofs.Orderly.{seen-fits, new-value}
use Rattle.demand_3.proofs.Received.{received, received-count}

abbrev pub station_at : Station → State → Station
station_at st now =
    record {
      settings = with_window st.settings now.plan.settings.window;
      accuracy = now.plan.accuracy;
      sound = st.sound;
      first = now.held;
    }

pub present-ticks : (y : Reading) → is_present y ≡ true → y ≡ present (ticks y)
present-ticks missing e = clash e refl
present-ticks (present z) e = refl

reading-far : (y : Reading) (k : ℕ) → IsReading y → two_to31 ≤ k → mag (ticks y) < k
reading-far missing k i h = omega arith
reading-far (present z) k i h = lt_of_lt_of_le (fits-mag z i) h

not_mono : (a b : Bool) → (b ≡ true → a ≡ true) → not a ≡ true → not b ≡ true
not_mono true b f e = clash e refl
not_mono false true f e = f refl
not_mono false false f e = refl

-- the faulty ones are among the bad
pub faults-bad :
    (st : Station) (now : State) (good : ℕ → Bool) (truth : ℤ) → Good (station_at st now) good truth
    → faults st.sound (N st) ≤ bad st good
faults-bad st now good truth stand =
    count_mono (λ s. not (st.sound s)) (λ s. not (good s)) (N st)
    (λ s l. not_mono (st.sound s) (good s) (stand.sound s l))

-- means that are as close as two rounds' are lie within the next window
by-window :
    (c : Settings) (a b : ℕ) → MeansClose c.n a b (window_factor c * (c.m * c.window)) → a ≤ b + next_window c
by-window c a b h = go (eqb c.m 0) refl (eqb c.window 0) refl
  where
    go : (i : Bool) → eqb c.m 0 ≡ i → (j : Bool) → eqb c.window 0 ≡ j → a ≤ b + next_window c
    go true ei j ej =
        let z : c.m * c.window ≡ 0 = ap (λ (y : ℕ). y * c.window) (eqb-true c.m 0 ei) ∙ zero-mul c.window in
        let e = h.equal (ap (λ (y : ℕ). window_factor c * y) z ∙ mul-zero (window_factor c)) in
        omega arith
    go false ei true ej =
        let z : c.m * c.window ≡ 0 = ap (λ (y : ℕ). c.m * y) (eqb-true c.window 0 ej) ∙ mul-zero c.m in
        let e = h.equal (ap (λ (y : ℕ). window_factor c * y) z ∙ mul-zero (window_factor c)) in
        omega arith
    go false ei false ej =
        rw (next_past c (eqb-false c.m 0 ei) (eqb-false c.window 0 ej)) h.past

module _ (st : Station) (begins : Start st) (j : ℕ) (now : State) (ready : Ready st j now) (x : Sends)
    (allowed : Allowed st x) (good : ℕ → Bool) (truth : ℤ) (stand : Good (station_at st now) good truth) where
  -- the window and the settings of the round
  abbrev w : ℕ
  w = now.plan.settings.window

  abbrev c : Settings
  c = with_window st.settings w

  -- ---- the round in the naturals, moved up by an even number, far enough for every reading and for true time

  abbrev far : ℕ
  far = even-far truth

  far-even : Even (even-far truth)
  far-even = far-twice truth

  far-enough : two_to31 ≤ even-far truth
  far-enough = far-most truth

  truth-near : mag truth < even-far truth
  truth-near = far-near truth

  abbrev has : ℕ → Receiver
  has p = received c (seen st now x w p) far

  -- p's new value
  abbrev value : ℕ → ℕ
  value p = value_by (N st) (m st) w (has p)

  abbrev g : ℕ → ℕ
  g r = up far (ticks (now.held r))

  held-near : (r : ℕ) → r < N st → good r ≡ true → mag (ticks (now.held r)) < far
  held-near r l e = reading-far (now.held r) far (ready.readings r (l, stand.sound r l e)) far-enough

  close : CloseValues (N st) w good g
  close r s lr ls er es =
      dist_above far w (ticks (now.held r)) (ticks (now.held s)) (held-near r lr er) (held-near s ls es)
      (stand.precise r s lr ls er es)

  true_time : Truth (N st) good g (up far truth) now.plan.accuracy
  true_time =
      record {
        above = λ r l e.
            dist_above far now.plan.accuracy (ticks (now.held r)) truth (held-near r l e) truth-near
            (stand.accurate r l e);
        below = λ r l e.
            dist_below far now.plan.accuracy (ticks (now.held r)) truth (held-near r l e) truth-near
            (stand.accurate r l e);
      }

  held-here : (r : ℕ) → r < N st → good r ≡ true → now.held r ≡ present (ticks (now.held r))
  held-here r l e = present-ticks (now.held r) (stand.present r l e)

  faults-few : faults st.sound (N st) ≤ bad st good
  faults-few = faults-bad st now good truth stand

  alike : bad st good < N st - m st → (p : ℕ) → GoodAlike (N st) good g (has p)
  alike many p r l e here =
      ⊎_elim
      (λ s. ap (λ (y : Reading). up far (ticks y)) s)
      (λ s. clash here (ap is_present s))
      (seen-held_or_not st now x w (planned st begins j now ready) p r (ticks (now.held r))
      (stand.sound r l e) (held-here r l e) (lt_of_le_of_lt faults-few many))

  accepts-here : (p : ℕ) → (0 < (found st now x w p).count) → 0 < count (accepts (N st) (m st) w (has p)) (N st)
  accepts-here p =
      subst (λ (a : ℕ). 0 < a)
      (received-count c 0 w (add-zero w) (seen st now x w p) (seen-fits st begins j now ready x allowed p) far far-enough)

  -- ---- from the naturals back

  -- p's new value, where some reading is accepted
  holds : (p : ℕ) → 0 < (found st now x w p).count → (next st now x).held p ≡ present (down far (value p))
  holds p some-acc = new-value st begins j now ready x allowed p some-acc far far-enough far-even

  module _ (p : ℕ) (some-acc : 0 < (found st now x w p).count) where
    near-true : (d : ℕ) → Accurate (up far truth) d (value p) → apart (new_value st now x p) truth ≤ d
    near-true d a =
        rw (holds p some-acc)
        (subst (λ (t : ℤ). apart (down far (value p)) t ≤ d) (down-up far truth truth-near)
        (dist_of far d (value p) (up far truth) a.above a.below))

    near-other :
        (q d : ℕ) → 0 < (found st now x w q).count → value p ≤ value q + d → value q ≤ value p + d
        → apart (new_value st now x p) (new_value st now x q) ≤ d
    near-other q d some-acc' h i = rw (holds p some-acc, holds q some-acc') (dist_of far d (value p) (value q) h i)

  -- ---- at most m bad

  module _ (few : bad st good ≤ m st) where
    few-many : bad st good < N st - m st
    few-many = omega (arith, planned st begins j now ready)

    few_sheets : Few (N st) (m st) w good g
    few_sheets = record { planned = planned st begins j now ready; few = few; close = close }

    all_read : (p : ℕ) → Reads (N st) good g (has p)
    all_read p =
        record {
          alike = alike few-many p;
          here = λ r l e.
              ap is_present
              (seen-held st now x w (planned st begins j now ready) p r (ticks (now.held r))
              (stand.sound r l e) (held-here r l e) (le_trans faults-few few));
        }

    some-accepted : (p : ℕ) → 0 < (found st now x w p).count
    some-accepted p =
        subst⁻¹ (λ (a : ℕ). 0 < a)
        (received-count c 0 w (add-zero w) (seen st now x w p) (seen-fits st begins j now ready x allowed p) far far-enough)
        (unrefused (N st) (m st) w good g few_sheets (has p) (all_read p))

    pub round-unrefused : (p : ℕ) → (settled st now x p).verdict ≡ granted (answer_length (N st))
    round-unrefused p = grants st begins j now ready x allowed p (some-accepted p)

    pub round-present : (p : ℕ) → is_present ((next st now x).held p) ≡ true
    round-present p = ap is_present (holds p (some-accepted p))

    agree : eqb st.settings.rule cca ≡ true → (p q : ℕ) → BothAlike (N st) (has p) (has q)
    agree b p q r l ep eq =
        ap (up far)
        (seen_alike st now x w (planned st begins j now ready) p q r
        (ticks (seen st now x w p r)) (ticks (seen st now x w q r)) b (le_trans faults-few few)
        (present-ticks (seen st now x w p r) ep)
        (present-ticks (seen st now x w q r) eq))

    -- for each rule and estimator
    means-close : (p q : ℕ) → MeansClose (N st) (value p) (value q) (window_factor st.settings * (m st * w))
    unfolding window_factor
    means-close p q = go (eqb st.settings.rule cca) refl (eqb st.settings.estimator median) refl
      where
        both : MeansClose (N st) (value p) (value q) (2 * (m st * w))
        both = precision-few (N st) (m st) w good g few_sheets (has p) (has q) (all_read p) (all_read q)

        go :
            (a : Bool) → eqb st.settings.rule cca ≡ a → (b : Bool) → eqb st.settings.estimator median ≡ b
            → MeansClose (N st) (value p) (value q) (cond (a && b) 1 2 * (m st * w))
        go true ea true eb =
            rw (one-mul (m st * w))
            (precision-median (N st) (m st) w good g few_sheets (has p) (has q) (all_read p) (all_read q) (agree ea p q)
            (eqb-true st.settings.estimator median eb)
            (eqb-true st.settings.estimator median eb))
        go true ea false eb = both
        go false ea b eb = both

    -- the next window: where it is 0 the sums are equal
    window-limit : (p q : ℕ) → value p ≤ value q + next_window c
    unfolding window_factor
    window-limit p q = by-window c (value p) (value q) (means-close p q)

    pub round-precise : (p q : ℕ) → apart (new_value st now x p) (new_value st now x q) ≤ next_window c
    round-precise p q =
        near-other p (some-accepted p) q (next_window c) (some-accepted q) (window-limit p q) (window-limit q p)

    -- an odd N
    pub round-odd :
        N st % 2 ≡ 1 → (p q : ℕ)
        → apart (new_value st now x p) (new_value st now x q)
        ≤ ceil_div (window_factor st.settings * (m st * w)) (N st)
    round-odd odd p q =
        near-other p (some-accepted p) q (ceil_div (window_factor st.settings * (m st * w)) (N st)) (some-accepted q)
        ((means-close p q).odd odd)
        ((means-close q p).odd odd)

    pub round-accurate : (p : ℕ) → apart (new_value st now x p) truth ≤ now.plan.accuracy + growth c
    unfolding growth
    round-accurate p =
        near-true p (some-accepted p) (now.plan.accuracy + growth c)
        (accuracy-few (N st) (m st) w good g few_sheets (has p) (all_read p) (up far truth)
        now.plan.accuracy true_time)

  -- ---- fewer than N-m bad

  module _ (many : bad st good < N st - m st) where
    spread : Spread (N st) (m st) w good g
    spread = record { many = many; close = close }

    -- a cabinet that holds a new value accepted some reading
    some_of : (p : ℕ) → Unrefused st now x p → 0 < (found st now x w p).count
    some_of = accepts-some st begins j now ready x allowed

    reads-some : (p : ℕ) → Unrefused st now x p → ReadsSome (N st) (m st) w good g (has p)
    reads-some p e = record { alike = alike many p; unrefused = accepts-here p (some_of p e) }

    -- how far the sum of the used values can pass the good ones
    abbrev excess : ℕ
    excess = (m st + bad st good) * w

    pub many-precise :
        (p q : ℕ) → Unrefused st now x p → Unrefused st now x q
        → apart (new_value st now x p) (new_value st now x q) ≤ w + (rise (N st) excess + fall (N st) w excess)
    many-precise p q ep eq =
        near-other p (some_of p ep) q (w + (rise (N st) excess + fall (N st) w excess)) (some_of q eq)
        (precision-many (N st) (m st) w good g spread (has p) (has q) (reads-some p ep) (reads-some q eq))
        (precision-many (N st) (m st) w good g spread (has q) (has p) (reads-some q eq) (reads-some p ep))

    pub many-accurate :
        (p : ℕ) → Unrefused st now x p
        → apart (new_value st now x p) truth ≤ now.plan.accuracy + rise (N st) excess
    many-accurate p e =
        near-true p (some_of p e) (now.plan.accuracy + rise (N st) excess)
        (accuracy-many (N st) (m st) w good g spread (has p) (reads-some p e) (up far truth)
        now.plan.accuracy true_time)
