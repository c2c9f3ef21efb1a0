-- Lists of which something is gathered, and those of which nothing is.
-- Assumes nothing.
use Rattle.std.proofs.Common.{◌≡◌, ℕ, ◌+◌, ◌-◌, ◌*◌, ◌%◌, ◌<◌, ◌≤◌, Bool, true, false, ◌&&◌, ◌||◌, eqb, ltb, List, length, sym, refl, ap, ◌∙◌, ap₂, ⊎_elim, mul-le-mul, pos_of_ne-zero, arith, ltb-false, ltb-true, le-ltb, lt-ltb}
use borrow.Author.Tests.{eqb-false}
use Rattle.std.specs.Prelude.{Some, None}
use Rattle.std.proofs.lemmas.Option.{none-some}
use Rattle.arithmetic.specs.Naturals.{total}
use Rattle.arithmetic.specs.Counting.{any_below}
use Rattle.arithmetic.proofs.Bools.{both_ways, clash, and_intro, or_left, or_right}
use Rattle.arithmetic.proofs.Counting.{count-le, any-true, any_false, any_ext}
use Rattle.arithmetic.specs.Words.{two_to31, two_to32}
use Rattle.model.specs.Ensemble.{max_cabinets}
use Rattle.held.specs.Held.{unfit, present_in, value_at}
use Rattle.held.proofs.Held.{fit-few, fit-even}
use Rattle.selection.proofs.Selection.{lowest-first, highest-last}
use Rattle.summaries.specs.Summaries.{present_count, Fitting, most_apart, far_apart, distance_at, Taken, OnePass, ungathered, Summarizes, Gathers}
use Rattle.summaries.specs.declared.Gathered.{Gathered}
use Rattle.summaries.proofs.Gathering.{distances_small, numbers-sum}
use Rattle.summaries.specs.declared.Summary.{Summary}

pub far_ext :
    (p q : ℕ → Bool) (n : ℕ) (x : ℕ → ℕ)
    → ((i : ℕ) → i < n → p i ≡ q i)
    → far_apart p n x ≡ far_apart q n x
unfolding far_apart
far_ext p q n x same =
    any_ext (λ i. p i && any_below (λ j. p j && ltb (x i + most_apart) (x j)) n)
    (λ i. q i && any_below (λ j. q j && ltb (x i + most_apart) (x j)) n)
    n
    (λ i l.
    ap₂ (λ (a b : Bool). a && b) (same i l)
    (any_ext (λ j. p j && ltb (x i + most_apart) (x j)) (λ j. q j && ltb (x i + most_apart) (x j)) n
    (λ j k. ap (λ (a : Bool). a && ltb (x i + most_apart) (x j)) (same j k))))

-- numbers no two of which lie farther apart
pub near_apart :
    (acc : ℕ → Bool) (n : ℕ) (x : ℕ → ℕ)
    → ((i j : ℕ) → i < n → j < n → acc i ≡ true → acc j ≡ true → x j ≤ x i + most_apart)
    → far_apart acc n x ≡ false
unfolding far_apart
near_apart acc n x near =
    any_false (λ i. acc i && any_below (λ j. acc j && ltb (x i + most_apart) (x j)) n) n (λ i l. from (acc i) i refl l)
  where
    to : (b : Bool) (i j : ℕ) → acc j ≡ b → i < n → j < n → acc i ≡ true → (b && ltb (x i + most_apart) (x j)) ≡ false
    to true i j e l k p = le-ltb (x i + most_apart) (x j) (near i j l k p e)
    to false i j e l k p = refl

    from :
        (b : Bool) → (i : ℕ) → acc i ≡ b → i < n → (b && any_below (λ j. acc j && ltb (x i + most_apart) (x j)) n) ≡ false
    from true i e l = any_false (λ j. acc j && ltb (x i + most_apart) (x j)) n (λ j k. to (acc j) i j refl l k e)
    from false i e l = refl

-- two that do
far_apart_lem :
    (acc : ℕ → Bool) (n : ℕ) (x : ℕ → ℕ) (i j : ℕ)
    → i < n → j < n → acc i ≡ true → acc j ≡ true → x i + most_apart < x j
    → far_apart acc n x ≡ true
unfolding far_apart
far_apart_lem acc n x i j l k p q h =
    any-true (λ i. acc i && any_below (λ j. acc j && ltb (x i + most_apart) (x j)) n) n i l
    (and_intro p
    (any-true (λ j. acc j && ltb (x i + most_apart) (x j)) n j k (and_intro q (lt-ltb (x i + most_apart) (x j) h))))

module _ (marks values : List ℕ) where
  pub fitting : unfit (length marks) (length values) ≡ false → Fitting marks values
  fitting e =
      record { few = fit-few (length marks) (length values) e; even = fit-even (length marks) (length values) e }

  module _ (r : Gathered) (pass : OnePass r marks values) where
    some-present : (r.count ≡ 0 → ⊥) → 0 < present_count marks
    some-present d = pos_of_ne-zero (λ z. d (pass.counted ∙ z))

    pub ordered : 0 < r.count → r.low ≤ r.high
    ordered some =
        let w = pass.high_taken (omega (arith, pass.counted)) in
        omega (arith, pass.least w.0 w.1 w.2, w.3)

    -- two readings lie too far apart just where the lowest and the highest do
    pass-apart :
        0 < present_count marks
        → far_apart (present_in marks) (length marks) (value_at values) ≡ ltb most_apart (r.high - r.low)
    pass-apart some =
        ⊎_elim
        (λ t.
        far_apart_lem (present_in marks) (length marks) (value_at values) low.0 high.0 low.1 high.1 low.2 high.2
        (omega (arith, ltb-true most_apart (r.high - r.low) t, low.3, high.3))
        ∙ sym t)
        (λ f.
        near_apart (present_in marks) (length marks) (value_at values)
        (λ i j l k p q.
        omega (arith, ltb-false most_apart (r.high - r.low) f, pass.least i l p, pass.greatest j k q))
        ∙ sym f)
        (both_ways (ltb most_apart (r.high - r.low)))
      where
        low : Taken marks values r.low
        low = pass.low-taken some

        high : Taken marks values r.high
        high = pass.high_taken some

    -- whether nothing is gathered, by the extremes
    by-pass :
        unfit (length marks) (length values) ≡ false
        → ungathered marks values ≡ (eqb r.count 0 || ltb most_apart (r.high - r.low))
    unfolding ungathered
    by-pass fit = rw (fit, ← pass.counted) (go (eqb r.count 0) refl)
      where
        go :
            (b : Bool) → eqb r.count 0 ≡ b
            → (b || far_apart (present_in marks) (length marks) (value_at values))
            ≡ (b || ltb most_apart (r.high - r.low))
        go true e = refl
        go false e = pass-apart (some-present (eqb-false r.count 0 e))

    -- by what the tests said
    module _ (fit : unfit (length marks) (length values) ≡ false) {b : Bool}
        (tested : b ≡ (eqb r.count 0 || ltb most_apart (r.high - r.low))) where
      pub pass-none : b ≡ true → Gathers None marks values
      pass-none t = record { all = λ f. clash (by-pass fit ∙ sym tested ∙ t) f; none = λ _. refl }

      module _ (passed : b ≡ false) where
        some : r.count ≡ 0 → ⊥
        some = eqb-false r.count 0 (or_left (eqb r.count 0) _ (sym tested ∙ passed))

        close : r.high - r.low ≤ most_apart
        close =
            ltb-false most_apart (r.high - r.low)
            (or_right (eqb r.count 0) (ltb most_apart (r.high - r.low)) (sym tested ∙ passed))

        pub few-counted : r.count ≤ max_cabinets
        few-counted = omega (arith, pass.counted, count-le (present_in marks) (length marks), (fitting fit).few)

        distances_fit : total (distance_at marks values r.low) (length marks) < two_to32
        distances_fit =
            let l = distances_small marks values r.low r.high pass.least pass.greatest in
            let c : present_count marks ≤ max_cabinets = omega (arith, pass.counted, few-counted) in
            let w = mul-le-mul {n₂ = max_cabinets} {m₂ = most_apart} c close in
            omega arith

        -- 32 bits of the numbers' sum
        total_wraps :
            r.total ≡ (total (distance_at marks values r.low) (length marks) + r.count * r.low) % two_to32
        total_wraps =
            pass.added
            ∙ ap (λ (k : ℕ). k % two_to32)
            (numbers-sum marks values r.low r.high pass.least pass.greatest
            ∙ ap (λ (k : ℕ). total (distance_at marks values r.low) (length marks) + k * r.low) (sym pass.counted))

        pub pass_gather :
            (a : ℕ) → ((d : ℕ) → d < two_to32 → r.total ≡ (d + r.count * r.low) % two_to32 → a ≡ d)
            → Gathers (Some (record { count = r.count; sum = a; low = r.low; high = r.high })) marks values
        pass_gather a e =
            record {
              all =
                  λ _. (
                    fitting fit,
                    record {
                      some = pos_of_ne-zero some;
                      counted = pass.counted;
                      lowest =
                          sym
                          (lowest-first (present_in marks) (length marks) (value_at values) two_to31 low.0 low.1 low.2
                          (λ j l p. rw low.3 (pass.least j l p))
                          ∙ low.3);
                      highest =
                          sym
                          (highest-last (present_in marks) (length marks) (value_at values) two_to31 high.0 high.1
                          high.2
                          (λ j l p. rw high.3 (pass.greatest j l p))
                          ∙ high.3);
                      ordered = ordered (pos_of_ne-zero some);
                      apart = omega (arith, close, ordered (pos_of_ne-zero some));
                      least = pass.least;
                      greatest = pass.greatest;
                      added = e (total (distance_at marks values r.low) (length marks)) distances_fit total_wraps;
                    },
                  );
              none = λ t. clash t (by-pass fit ∙ sym tested ∙ passed);
            }
          where
            low : Taken marks values r.low
            low = pass.low-taken (some-present some)

            high : Taken marks values r.high
            high = pass.high_taken (some-present some)

  pub unfit_gathers :
      {b : Bool} → b ≡ unfit (length marks) (length values) → b ≡ true → Gathers None marks values
  unfolding ungathered
  unfit_gathers tested t =
      record { all = λ f. clash (sym tested ∙ t) (or_left (unfit (length marks) (length values)) _ f); none = λ _. refl }

  -- where there is a summary, something is gathered, and it is the summary
  pub summary-gathered :
      (r : Summary)
      → Gathers (Some r) marks values
      → (ungathered marks values ≡ false) × Fitting marks values × Summarizes r marks values
  summary-gathered r g =
      ⊎_elim (λ t. absurd (none-some r (sym (g.none t)))) (λ f. let a = g.all f in (f, a.0, a.1)) (both_ways (ungathered marks values))
