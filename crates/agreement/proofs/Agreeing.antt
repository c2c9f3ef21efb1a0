-- The estimate and the new value of the kept readings are those of the accepted ones; and what each `return` of
-- `agree` answers.
-- Assumes nothing.
use mathlib.Core.Bool.{Bool, true, false, not, cond, ◌||◌}
use mathlib.Core.List.{List}
use mathlib.Core.Path.{◌≡◌, refl, sym, ap, ap₂, ◌∙◌}
use mathlib.Core.Logic.{⊎_elim}
use Prim.Native.Nat.{ℕ, zero, suc, ◌+◌, ◌≤◌, ◌<◌}
use native.Mathlib.Omega.{arith}
use borrow.Author.Tests.{eq-eqb, ne_eqb, eqb-true}
use lib.Dec.{ltb, eqb}
use lib.IntN.{ℤ}
use lib.ListN.{length, get_or}
use Rattle.arithmetic.specs.Counting.{count, sum}
use Rattle.arithmetic.specs.Naturals.{up}
use Rattle.arithmetic.specs.Writing.{table, overwrite}
use Rattle.arithmetic.proofs.Counting.{count_ext, count-le, split-last}
use Rattle.arithmetic.proofs.Sums.{sum_ext}
use Rattle.arithmetic.proofs.Writing.{length-table, get_d_table, table_ext, table_get_d}
use Rattle.arithmetic.specs.Words.{two_to31}
use Rattle.model.specs.Steps.{estimate, mean, used_value, mark_of}
use Rattle.model.specs.Ensemble.{max_cabinets}
use Rattle.round_laws.specs.Naturals.{shift}
use Rattle.round_laws.proofs.Local.{estimate_local, used_local}
use Rattle.held.specs.Held.{present_in, value_at, readings_in, kept_mark, unfit}
use Rattle.held.proofs.Held.{mark-kept, fit-few}
use Rattle.summaries.specs.Summaries.{far_apart, ungathered}
use Rattle.summaries.proofs.Fits.{far_ext}
use Rattle.estimates.specs.Values.{estimate_of_held, mean_in, evaluated_of, nothing}
use Rattle.estimates.specs.declared.Estimated.{Estimated}
use Rattle.acceptance.specs.Values.{accepted_in, accepted_count, lists_misfit, count_given, flags_of}
use Rattle.acceptance.proofs.Spans.{held-present}
use Rattle.agreement.specs.Values.{mark_at, agreed_marks, agreed_round, agreed_of}
use Rattle.agreement.proofs.Kept.{struck, struck-kept}

or_again : (a b : Bool) → (a || (b || a)) ≡ (a || b)
or_again true b = refl
or_again false true = refl
or_again false false = refl

-- a reading that is present is marked 1 just where it is accepted
marked :
    (accepted here : Bool) (x : ℕ)
    → (accepted ≡ true → here ≡ true)
    → eqb (mark_of accepted (shift two_to31 here x)) 1 ≡ accepted
marked true true x f = refl
marked true false x f = f refl
marked false true x f = refl
marked false false x f = refl

-- where as many pass as there are, each passes
count_full : (p : ℕ → Bool) (n : ℕ) → count p n ≡ n → (r : ℕ) → r < n → p r ≡ true
unfolding count
count_full p zero e r l = absurd (nothing-below l)
  where
    nothing-below : r < 0 → ⊥
    nothing-below h = omega arith
count_full p (suc n) e r l =
    let h = last_full (p n) refl in ⊎_elim (λ below. count_full p n h.1 r below) (λ last. ap p last ∙ h.0) (split-last r n l)
  where
    last_full : (b : Bool) → p n ≡ b → (p n ≡ true) × (count p n ≡ n)
    last_full false q = absurd (short (count-le p n) (rw q at e))
      where
        short : count p n ≤ n → count p n + 0 ≡ suc n → ⊥
        short most h = omega arith
    last_full true q = (q, all (rw q at e))
      where
        all : count p n + 1 ≡ suc n → count p n ≡ n
        all h = omega arith

-- an accepted mark is kept
kept-one : (accepted : Bool) (mark : ℕ) → accepted ≡ true → eqb mark 1 ≡ true → kept_mark accepted mark ≡ mark
kept-one accepted mark a m = rw (a, m) (sym (eqb-true mark 1 m))

module _ (w need : ℕ) (marks values : List ℕ) where
  abbrev pub kept : List ℕ
  kept = table (mark_at w need marks values) (length marks)

  -- who is accepted
  abbrev acc : ℕ → Bool
  acc = accepted_in w need marks values

  pub length-kept : length kept ≡ length marks
  length-kept = length-table (mark_at w need marks values) (length marks)

  pub kept_at : (r : ℕ) → r < length marks → get_or kept r 0 ≡ mark_at w need marks values r
  kept_at r l = get_d_table (mark_at w need marks values) (length marks) r 0 l

  -- a kept reading is present just where it was accepted, and is the reading itself
  pub kept-present : (r : ℕ) → r < length marks → present_in kept r ≡ acc r
  kept-present r l =
      ap (λ (v : ℕ). eqb v 1) (kept_at r l)
      ∙ marked (acc r) (present_in marks r) (value_at values r) (held-present w need marks values r)

  kept-reading :
      (r : ℕ) → r < length marks → present_in kept r ≡ true → readings_in kept values r ≡ readings_in marks values r
  kept-reading r l e =
      ap (λ (b : Bool). shift two_to31 b (value_at values r))
      (e ∙ sym (held-present w need marks values r (sym (kept-present r l) ∙ e)))

  count_kept : count (present_in kept) (length marks) ≡ accepted_count w need marks values
  unfolding accepted_count
  count_kept = count_ext (present_in kept) acc (length marks) kept-present

  -- two kept readings lie too far apart just where two accepted ones do
  far-kept :
      far_apart (present_in kept) (length marks) (value_at values) ≡ far_apart acc (length marks) (value_at values)
  far-kept = far_ext (present_in kept) acc (length marks) (value_at values) kept-present

  module _ (kind : ℕ) where
    abbrev round-estimate : ℤ
    round-estimate = (agreed_round w need kind marks values).estimate

    abbrev kept-estimate : ℤ
    kept-estimate = estimate kind (present_in kept) (length marks) (readings_in kept values)

    abbrev kept-value : ℤ
    kept-value =
        mean (length marks) (sum (used_value (present_in kept) (readings_in kept values) kept-estimate) (length marks))

    estimate-kept : kept-estimate ≡ round-estimate
    estimate-kept =
        estimate_local (length marks) (readings_in kept values) (readings_in marks values) (present_in kept) acc
        kept-present
        kept-reading
        kind

    value-kept :
        {e : ℤ}
        → e ≡ round-estimate
        → mean (length marks) (sum (used_value (present_in kept) (readings_in kept values) e) (length marks))
        ≡ (agreed_round w need kind marks values).value
    value-kept {e} p =
        ap (mean (length marks))
        (sum_ext
        (used_value (present_in kept) (readings_in kept values) e)
        (used_value acc (readings_in marks values) round-estimate)
        (length marks)
        (used_local (length marks) (readings_in kept values) (readings_in marks values) (present_in kept) acc
        kept-present
        kept-reading
        p))

    answer : ℕ → Bool → ℤ → ℤ → Estimated
    answer n far e v =
        cond (eqb n 0 || far) nothing (record { count = n; estimate = up two_to31 e; value = up two_to31 v })

    -- the evaluation of what is kept is that of the accepted readings
    evaluated_kept :
        unfit (length marks) (length values) ≡ false → evaluated_of kind kept values ≡ agreed_of w need kind marks values
    unfolding evaluated_of ungathered estimate_of_held mean_in agreed_of answer
    evaluated_kept fit =
        rw (length-kept, fit)
        (ap₂ (λ (n : ℕ) (far : Bool). answer n far kept-estimate kept-value) count_kept far-kept
        ∙ ap₂ (answer (accepted_count w need marks values) (far_apart acc (length marks) (value_at values)))
        estimate-kept
        (value-kept estimate-kept))

  -- ---- what `agree` answers, by what `accept` told it with 64 flags

  module _ (flags₀ : List Bool) (wide : length flags₀ ≡ 64) where
    misfit-unfit : lists_misfit marks values flags₀ ≡ unfit (length marks) (length values)
    misfit-unfit =
        let n = length marks in
        let odd = not (eqb (length values) n) in
        ap (λ (k : ℕ). ltb max_cabinets n || (odd || ltb k n)) wide ∙ or_again (ltb max_cabinets n) odd

    count-unfit : unfit (length marks) (length values) ≡ true → count_given w need marks values flags₀ ≡ 0
    unfolding count_given
    count-unfit t = rw (misfit-unfit ∙ t)

    count-fit :
        unfit (length marks) (length values) ≡ false
        → count_given w need marks values flags₀ ≡ accepted_count w need marks values
    unfolding count_given
    count-fit t = rw (misfit-unfit ∙ t)

    flags_fit :
        unfit (length marks) (length values) ≡ false
        → flags_of w need marks values flags₀ ≡ overwrite (table acc (length marks)) flags₀
    unfolding flags_of
    flags_fit t = rw (misfit-unfit ∙ t)

    module _ (n : ℕ) (counted : n ≡ count_given w need marks values flags₀) where
      -- nothing is accepted, or the lists do not fit
      module _ (none : n ≡ 0) where
        none-accepted : unfit (length marks) (length values) ≡ false → eqb (accepted_count w need marks values) 0 ≡ true
        none-accepted t = eq-eqb (accepted_count w need marks values) 0 (sym (count-fit t) ∙ sym counted ∙ none)

        pub agreed-none : (kind : ℕ) → nothing ≡ agreed_of w need kind marks values
        unfolding agreed_of
        agreed-none kind = go (unfit (length marks) (length values)) refl
          where
            go : (b : Bool) → unfit (length marks) (length values) ≡ b → nothing ≡ agreed_of w need kind marks values
            go true t = rw t
            go false t = rw (t, none-accepted t)

        pub marks-none : marks ≡ agreed_marks w need marks values
        unfolding agreed_marks
        marks-none = go (unfit (length marks) (length values)) refl
          where
            go : (b : Bool) → unfit (length marks) (length values) ≡ b → marks ≡ agreed_marks w need marks values
            go true t = rw t
            go false t = rw (t, none-accepted t)

      -- something is accepted
      module _ (some : n ≡ 0 → ⊥) where
        fit : unfit (length marks) (length values) ≡ false
        fit = go (unfit (length marks) (length values)) refl
          where
            go : (b : Bool) → unfit (length marks) (length values) ≡ b → unfit (length marks) (length values) ≡ false
            go true t = absurd (some (counted ∙ count-unfit t))
            go false t = t

        pub few-marks : length marks ≤ max_cabinets
        few-marks = fit-few (length marks) (length values) fit

        some-accepted : eqb (accepted_count w need marks values) 0 ≡ false
        some-accepted = ne_eqb (accepted_count w need marks values) 0 (λ z. some (counted ∙ count-fit fit ∙ z))

        -- where all are accepted, each mark is kept
        pub none-struck :
            (flags : List Bool)
            → flags ≡ flags_of w need marks values flags₀
            → n ≡ length marks
            → table (struck flags marks) (length marks) ≡ marks
        unfolding accepted_count
        none-struck flags tested all =
            ap (λ (f : List Bool). table (struck f marks) (length marks)) (tested ∙ flags_fit fit)
            ∙ struck-kept w need marks values flags₀
            ∙ table_ext (mark_at w need marks values) (λ r. get_or marks r 0) (length marks) each
            ∙ table_get_d marks 0
          where
            each : (r : ℕ) → r < length marks → mark_at w need marks values r ≡ get_or marks r 0
            each r l =
                let passes = count_full acc (length marks) (sym (count-fit fit) ∙ sym counted ∙ all) r l in
                sym (mark-kept (acc r) (get_or marks r 0) (value_at values r))
                ∙ kept-one (acc r) (get_or marks r 0) passes (held-present w need marks values r passes)

        -- the lists as the calls left them
        module _
            (flags : List Bool) (left : List ℕ) (tested : flags ≡ flags_of w need marks values flags₀)
            (struck-as : left ≡ table (struck flags marks) (length marks)) where
          kept_as : left ≡ kept
          kept_as =
              struck-as
              ∙ ap (λ (f : List Bool). table (struck f marks) (length marks)) (tested ∙ flags_fit fit)
              ∙ struck-kept w need marks values flags₀

          pub marks-some : left ≡ agreed_marks w need marks values
          unfolding agreed_marks
          marks-some = kept_as ∙ rw (fit, some-accepted)

          pub agreed-some :
              (kind : ℕ) (a : Estimated) → a ≡ evaluated_of kind left values → a ≡ agreed_of w need kind marks values
          agreed-some kind a e =
              e ∙ ap (λ (l : List ℕ). evaluated_of kind l values) kept_as ∙ evaluated_kept kind fit
