-- What rules 2 and 3 drop and make of any readings: `trimmed-rounds` is the theorem that specs/Rounds.antt states. The
-- readings are moved up into the naturals by an even number, far enough for each.
-- Assumes nothing.
use mathlib.Core.Bool.{Bool, true, false, not, cond, ◌&&◌}
use mathlib.Core.List.{List}
use mathlib.Core.Option.{none}
use mathlib.Core.Logic.{◌⊎◌, inl, inr, ⊎_elim}
use mathlib.Core.Path.{◌≡◌, refl, sym, ap, ap₂, fun_ext, ◌∙◌}
use Prim.Native.Nat.{ℕ, ◌+◌, ◌*◌, ◌-◌, ◌≤◌, ◌<◌}
use native.Mathlib.Omega.{arith}
use borrow.Author.Tests.{lt-ltb, le-leb, leb-true, leb-false, ltb-true, ltb-false, ne_eqb}
use lib.Dec.{leb, ltb, eqb}
use lib.IntN.{ℤ, pos, ◌+ℤ◌}
use lib.ListN.{length}
use lib.Signed.{le_z, lt_z, ◌≤ℤ◌, ◌<ℤ◌}
use Rattle.arithmetic.specs.Counting.{count, sum}
use Rattle.arithmetic.specs.Naturals.{down, up}
use Rattle.arithmetic.proofs.Bools.{both_ways, clash, and_left, and_right, and_intro, or_left, or_right, of_t}
use Rattle.arithmetic.proofs.Counting.{count_ext}
use Rattle.arithmetic.proofs.Shift.{down-up, le_down, lt_down}
use Rattle.model.specs.declared.Settings.{Settings}
use Rattle.model.specs.Ensemble.{Readings, ticks, max_spread}
use Rattle.model.specs.RoundSheet.{fca, cca, trimmed_midpoint, trimmed_mean, trims, average, settings_at, entry_count, entry_at}
use Rattle.model.specs.AnswerSheet.{answer_length}
use Rattle.model.specs.Steps.{rank, is_kept, kept_count, ranked, trimmed_round, trimmed_value, trimmed_midpoint_of, trimmed_mean_of}
use Rattle.model.specs.Steps.{readings_of, round_at}
use Rattle.model.specs.Planner.{Plan, advance}
use Rattle.model.specs.Refusals.{first_of, unfit_spread, bad_spread, bad_spread_number, settle_checks, planner_checks, step_checks, target_checks}
use Rattle.model.specs.Calls.{granted, settle_spread, plan, step, Target}
use Rattle.refusal_laws.proofs.Checks.{none_left, when_none}
use Rattle.refusal_laws.proofs.Limits.{planner_limits, planned-spans}
use Rattle.sheet_laws.proofs.Outcomes.{granted-none}
use Rattle.decision_laws.proofs.Rows.{read-direct}
use Rattle.planner_laws.proofs.Checks.{none-may-start, none-may-step}
use Rattle.planner_laws.proofs.Steps.{plan-granted_check}
use Rattle.planner_laws.proofs.Verdicts.{granted_check}
use Rattle.round_laws.proofs.Local.{round-by_trimming}
use Rattle.value_laws.proofs.Sheets.{settled-limits, settled-fit}
use Rattle.round_laws.specs.Naturals.{rank_nat, kept_nat}
use Rattle.round_laws.proofs.Represent.{reach, reach-above, raise}
use Rattle.value_laws.proofs.Order.{rank_less, rank-small, lower-precedes, equal-precedes, between, ranks_between, kept-many, ranked-found}
use Rattle.value_laws.proofs.Trimmed.{rank_down, kept-down, ranked-down}
use Rattle.demand_1_2.specs.Demand2.{NearestWhole}
use Rattle.demand_1_2.proofs.Represented.{le-of-down}
use Rattle.demand_1_2.proofs.Roundings.{mean_nearest_whole}
use Rattle.trim_guarantee.specs.Rounds.{Ordered, Dropped, KeptReading, Extremes, Values, Shows, Trimmed, TrimmedRounds, TrimmedSheets}

module _ (n m : ℕ) (v : Readings) (few : 2 * m < n) where
  -- the readings as naturals
  abbrev k : ℕ
  k = reach v n

  abbrev x : ℕ → ℕ
  x = raise k v

  moved : (r : ℕ) → r < n → ticks (v r) ≡ down k (x r)
  moved r l = sym (down-up k (ticks (v r)) (reach-above v n r l))

  rank_is : (r : ℕ) → r < n → rank n v r ≡ rank_nat n x r
  rank_is = rank_down k n v x moved

  -- an order of ticks is one of these naturals
  lower : (r s : ℕ) → r < n → s < n → ticks (v r) <ℤ ticks (v s) → x r < x s
  lower r s lr ls h =
      ltb-true (x r) (x s)
      (sym (ap₂ lt_z (moved r lr) (moved s ls) ∙ lt_down k (x r) (x s)) ∙ of_t (lt_z (ticks (v r)) (ticks (v s))) h.lt)

  at_most : (r s : ℕ) → r < n → s < n → ticks (v r) ≤ℤ ticks (v s) → x r ≤ x s
  at_most r s lr ls h =
      leb-true (x r) (x s)
      (sym (ap₂ le_z (moved r lr) (moved s ls) ∙ le_down k (x r) (x s)) ∙ of_t (le_z (ticks (v r)) (ticks (v s))) h.le)

  ticks-most : (r s : ℕ) → r < n → s < n → x r ≤ x s → ticks (v r) ≤ℤ ticks (v s)
  ticks-most r s lr ls h = rw (moved r lr, moved s ls) (le-of-down k (x r) (x s) h)

  ordered : Ordered n v
  ordered =
      record {
        by_value = λ r s lr ls h.
            rw (rank_is r lr, rank_is s ls) (rank_less x n r s lr (lower-precedes x r s (lower r s lr ls h)));
        by_number = λ r s lr ls e h.
            rw (rank_is r lr, rank_is s ls) (rank_less x n r s lr (equal-precedes x r s (ap (up k) e) h));
      }

  dropped : Dropped n m v
  unfolding is_kept
  dropped =
      record {
        lowest =
            count_ext (λ r. ltb (rank n v r) m) (between x n 0 m) n (λ r l. from-none r l)
            ∙ ranks_between x n 0 m (omega arith) (omega arith)
            ∙ omega arith;
        highest =
            count_ext (λ r. leb (n - m) (rank n v r)) (between x n (n - m) n) n (λ r l. to-all r l)
            ∙ ranks_between x n (n - m) n (omega arith) (omega arith)
            ∙ omega arith;
        left = count_ext (is_kept n m v) (kept_nat n m x) n (kept-down k n v x moved m) ∙ kept-many x n m (omega arith);
        others = other;
      }
    where
      other : (r : ℕ) → is_kept n m v r ≡ false → (rank n v r < m) ⊎ (n - m ≤ rank n v r)
      other r e =
          ⊎_elim
          (λ t.
          inr
          (ltb-false (rank n v r) (n - m) (ap (λ (b : Bool). b && ltb (rank n v r) (n - m)) (sym t) ∙ e)))
          (λ f. inl (leb-false m (rank n v r) f))
          (both_ways (leb m (rank n v r)))

      from-none : (r : ℕ) → r < n → ltb (rank n v r) m ≡ between x n 0 m r
      from-none r l =
          ap (λ (a : ℕ). ltb a m) (rank_is r l)
          ∙ sym (ap (λ (b : Bool). b && ltb (rank_nat n x r) m) (le-leb 0 (rank_nat n x r) (omega arith)))

      to-all : (r : ℕ) → r < n → leb (n - m) (rank n v r) ≡ between x n (n - m) n r
      to-all r l =
          ap (λ (a : ℕ). leb (n - m) a) (rank_is r l)
          ∙ sym (and_true (leb (n - m) (rank_nat n x r)) (lt-ltb (rank_nat n x r) n (rank-small x n r l)))
        where
          and_true : (a : Bool) {b : Bool} → b ≡ true → (a && b) ≡ a
          and_true true e = e
          and_true false e = refl

  -- what is left has a rank from m to N-m
  kept-rank : (r : ℕ) → r < n → is_kept n m v r ≡ true → (m ≤ rank_nat n x r) × (rank_nat n x r < n - m)
  unfolding kept_nat
  kept-rank r l e =
      let f = sym (kept-down k n v x moved m r l) ∙ e in (
        leb-true m (rank_nat n x r) (and_left (leb m (rank_nat n x r)) _ f),
        ltb-true (rank_nat n x r) (n - m) (and_right (leb m (rank_nat n x r)) _ f),
      )

  -- a rank between is kept
  of-rank : (h : ℕ) → m ≤ h → h < n - m → KeptReading n m v (ranked n v h)
  unfolding kept_nat
  of-rank h low high =
      let f = ranked-found x n h (omega arith) in
      let i = f.index in
      let e = f.rank in
      record {
        cabinet = i;
        in_range = f.in_range;
        kept =
            kept-down k n v x moved m i f.in_range
            ∙ and_intro (le-leb m (rank_nat n x i) (omega arith)) (lt-ltb (rank_nat n x i) (n - m) (omega arith));
        reads =
            moved i f.in_range ∙ ap (down k) (sym f.number) ∙ sym (ranked-down k n v x moved h (omega arith));
      }

  -- the index of a rank has its number
  rank-order : (r s : ℕ) → r < n → s < n → rank_nat n x r ≤ rank_nat n x s → x r ≤ x s
  rank-order r s lr ls h =
      ⊎_elim (leb-true (x r) (x s))
      (λ f. absurd (omega (arith, rank_less x n s r ls (lower-precedes x s r (leb-false (x r) (x s) f)))))
      (both_ways (leb (x r) (x s)))

  extremes : Extremes n m v (ranked n v m) (ranked n v (n - m - 1))
  extremes =
      record {
        low_kept = of-rank m (omega arith) (omega arith);
        high_kept = of-rank (n - m - 1) (omega arith) (omega arith);
        between = λ r l e.
            let f = ranked-found x n m (omega arith) in
            let g = ranked-found x n (n - m - 1) (omega arith) in
            let t = kept-rank r l e in
            let low = f.rank in
            let high = g.rank in (
              rw (ranked-down k n v x moved m (omega arith), f.number, moved r l)
                  (le-of-down k (x f.index) (x r) (rank-order f.index r f.in_range l (omega (arith, t.0)))),
              rw (ranked-down k n v x moved (n - m - 1) (omega arith), g.number, moved r l)
                  (le-of-down k (x r) (x g.index) (rank-order r g.index l g.in_range (omega (arith, t.1)))),
            );
      }

  -- two cabinets that each read at most what the other does read the same
  same-ticks :
      (r s : ℕ) → r < n → s < n → ticks (v r) ≤ℤ ticks (v s) → ticks (v s) ≤ℤ ticks (v r) → ticks (v r) ≡ ticks (v s)
  same-ticks r s lr ls h i =
      let e : x r ≡ x s = omega (arith, at_most r s lr ls h, at_most s r ls lr i) in
      moved r lr ∙ ap (down k) e ∙ sym (moved s ls)

  -- so the extremes are those of the ranks m and N-m-1
  low_is : (low high : ℤ) → Extremes n m v low high → low ≡ ranked n v m
  low_is low high e =
      let a = e.low_kept in
      let b = extremes.low_kept in
      sym a.reads
      ∙ same-ticks a.cabinet b.cabinet a.in_range b.in_range
      (rw a.reads (e.between b.cabinet b.in_range b.kept).0)
      (rw b.reads (extremes.between a.cabinet a.in_range a.kept).0)
      ∙ b.reads

  high_is : (low high : ℤ) → Extremes n m v low high → high ≡ ranked n v (n - m - 1)
  high_is low high e =
      let a = e.high_kept in
      let b = extremes.high_kept in
      sym a.reads
      ∙ same-ticks a.cabinet b.cabinet a.in_range b.in_range
      (rw b.reads (extremes.between a.cabinet a.in_range a.kept).1)
      (rw a.reads (e.between b.cabinet b.in_range b.kept).1)
      ∙ b.reads

module _ (c : Settings) (v : Readings) (few : 2 * c.m < c.n) where
  values : Values c v
  unfolding trimmed_round trimmed_value trimmed_midpoint_of trimmed_mean_of
  values =
      record {
        by_midpoint = λ rule low high e.
            rw (
              ap (λ (r : ℕ). eqb r trimmed_midpoint) rule,
              low_is c.n c.m v few low high e,
              high_is c.n c.m v few low high e,
            )
            (mean_nearest_whole 2 (ranked c.n v c.m +ℤ ranked c.n v (c.n - c.m - 1)) (omega arith));
        by_mean = λ rule.
            rw (ap (λ (r : ℕ). eqb r trimmed_midpoint) rule)
            (mean_nearest_whole (kept_count c.n c.m)
            (sum (λ r. cond (is_kept c.n c.m v r) (ticks (v r)) (pos 0)) c.n)
            (omega arith));
      }

  shows : Shows c v
  unfolding trimmed_round
  shows =
      record {
        count = refl;
        estimate = refl;
        kept = λ r z e kept. (rw (e, kept) refl, rw (e, kept) refl);
        dropped = λ r z e kept. (rw (e, kept) refl, rw (e, kept) refl);
        missing = λ r e. (rw e refl, rw e (shown (is_kept c.n c.m v r)));
      }
    where
      shown : (b : Bool) → cond (b && false) (pos 0) (trimmed_value c.rule c.n c.m v) ≡ trimmed_value c.rule c.n c.m v
      shown true = refl
      shown false = refl

pub trimmed-rounds : TrimmedRounds
trimmed-rounds c v few =
    record {
      ordered = ordered c.n c.m v few;
      dropped = dropped c.n c.m v few;
      some = (ranked c.n v c.m, ranked c.n v (c.n - c.m - 1), extremes c.n c.m v few);
      values = values c v few;
      shows = shows c v few;
    }

-- ---- of sheets, and of plans

module _ (c : Settings) (trimmed : trims c.rule ≡ true) where
  above-cca : cca < c.rule
  above-cca = ltb-true cca c.rule trimmed

  not-cca : eqb c.rule cca ≡ false
  not-cca = ne_eqb c.rule cca (λ e. other c.rule above-cca e)
    where
      other : (rule : ℕ) → cca < rule → rule ≡ cca → ⊥
      other rule l e = omega arith

  not-fca : eqb c.rule fca ≡ false
  not-fca = ne_eqb c.rule fca (λ e. other c.rule above-cca e)
    where
      other : (rule : ℕ) → cca < rule → rule ≡ fca → ⊥
      other rule l e = omega arith

  one_each : entry_count c ≡ c.n
  unfolding entry_count
  one_each = rw not-cca

  as_sent : (entry : Readings) → readings_of c entry ≡ entry
  as_sent entry = fun_ext (λ r. read-direct c entry r not-cca)

sheet-round :
    (s : List ℕ) (D : ℕ) → trims (settings_at s).rule ≡ true
    → round_at s D ≡ trimmed_round (settings_at s) (entry_at s (settings_at s).n)
unfolding round_at
sheet-round s D t =
    let c = settings_at s in
    round-by_trimming c D (readings_of c (entry_at s (entry_count c))) t
    ∙ ap (trimmed_round c) (as_sent c t (entry_at s (entry_count c)) ∙ ap (entry_at s) (one_each c t))

-- what is granted passed checks 4 and 16
asked_of :
    (s : List ℕ) (D : ℕ) (answer : List ℕ) (size : ℕ) → trims (settings_at s).rule ≡ true
    → (settle_spread s D answer).verdict ≡ granted size
    → ((settings_at s).rule ≤ trimmed_mean) × ((settings_at s).estimator ≡ average) × (D ≡ 0)
unfolding settle_spread bad_spread
asked_of s D answer size t ok =
    let c = settings_at s in
    let passes = granted-none (first_of (settle_checks s D (length answer))) (answer_length c.n) size ok in
    let known = (settled-limits s D answer passes).method in
    let none = ltb-false average c.estimator (rw t at (or_right (ltb trimmed_mean c.rule) _ known)) in
    let unfit = when_none (unfit_spread c.rule D) bad_spread_number (settled-fit s D answer passes) in
    let wide = or_right (ltb max_spread D) (ltb 0 D && not (eqb c.rule fca)) unfit in
    let spread : (ltb 0 D && true) ≡ false = rw (not-fca c t) at wide in (
      ltb-false trimmed_mean c.rule (or_left (ltb trimmed_mean c.rule) _ known),
      omega arith,
      no_spread D spread,
    )
  where
    no_spread : (D : ℕ) → (ltb 0 D && true) ≡ false → D ≡ 0
    no_spread D e =
        ⊎_elim (λ a. clash (ap (λ (b : Bool). b && true) a) e) (λ a. omega (arith, ltb-false 0 D a)) (both_ways (ltb 0 D))

pub trimmed_sheets : TrimmedSheets
unfolding plan step
trimmed_sheets =
    record {
      round = sheet-round;
      asked = asked_of;
      unplanned = λ c κ k p ok. planned-spans c (none-may-start c κ k (plan-granted_check c κ k (sym ok)).0).passes;
      unstepped = λ p q ok.
          planned-spans p.settings
          (none-may-step p (granted_check (advance p) (first_of (step_checks p)) (sym ok)).0).passes;
      uncounted = λ c κ target k t. planned-spans c (planner_limits c (target-settings c κ target t.0));
    }
  where
    target-settings :
        (c : Settings) (κ target : ℕ) → first_of (target_checks c κ target) ≡ none → first_of (planner_checks c) ≡ none
    target-settings c κ target e = unfold target_checks in none_left (planner_checks c) _ e
