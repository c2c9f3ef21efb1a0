-- By rules 2 and 3: what is kept of a sheet's readings, and the new value, are those of the sheet's round.
-- Assumes nothing.
use mathlib.Core.Bool.{Bool, true, false, cond, ◌&&◌}
use mathlib.Core.List.{List}
use mathlib.Core.Option.{none}
use mathlib.Core.Path.{◌≡◌, refl, sym, ap, ◌∙◌, subst}
use Prim.Native.Nat.{ℕ, ◌*◌, ◌-◌, ◌<◌}
use native.Mathlib.Omega.{arith}
use borrow.Author.Tests.{lt-leb}
use lib.Dec.{eqb}
use lib.IntN.{ℤ}
use lib.ListN.{length, get_or}
use Rattle.arithmetic.specs.Naturals.{down, up}
use Rattle.arithmetic.specs.Writing.{table}
use Rattle.arithmetic.specs.Words.{two_to31}
use Rattle.arithmetic.proofs.Bools.{or_false}
use Rattle.arithmetic.proofs.Writing.{length-table, get_d_table}
use Rattle.model.specs.declared.Settings.{Settings}
use Rattle.model.specs.Ensemble.{is_present, ticks}
use Rattle.model.specs.RoundSheet.{trims, settings_at}
use Rattle.model.specs.Steps.{Round, mark_of, is_kept, trimmed_value, trimmed_with, trimmed_round, round_at}
use Rattle.model.specs.Refusals.{first_of, row_checks}
use Rattle.refusal_laws.proofs.Limits.{Limits}
use Rattle.round_laws.specs.Naturals.{shift}
use Rattle.round_laws.proofs.Local.{EqualRounds, rounds_trans, round-by_trimming}
use Rattle.value_laws.proofs.Trimmed.{trimmed_local}
use Rattle.held.specs.Held.{value_at, present_in, readings_in}
use Rattle.estimates.specs.declared.Estimated.{Estimated}
use Rattle.reception.specs.Receiving.{reading_at}
use Rattle.answer_writer.specs.Answers.{round_held}
use Rattle.dropping.specs.Dropping.{unfit_for}
use Rattle.trimming.specs.Values.{trimmed_in, trimmed_of, mark_at, trimmed_marks}
use Rattle.trimming.proofs.Values.{value-back}
use Rattle.settling.proofs.Received as received
use Rattle.settling.proofs.Received.{Receives, Written}

-- a reading is marked 1 where it is kept and present, and is then used as it is
used-held :
    (kept here : Bool) (x e : ℕ) (z : ℤ)
    → down two_to31 e ≡ z
    → down two_to31 (cond (eqb (mark_of kept (shift two_to31 here x)) 1) x e)
    ≡ cond (kept && is_present (shift two_to31 here x)) (ticks (shift two_to31 here x)) z
used-held true true x e z p = refl
used-held true false x e z p = p
used-held false true x e z p = p
used-held false false x e z p = p

module _ (s : List ℕ) (D : ℕ) (pass : first_of (row_checks s) ≡ none) (trimmed : trims (settings_at s).rule ≡ true) where
  abbrev own : Settings
  own = settings_at s

  within : Limits own
  within = received.within s pass

  few : 2 * own.m < own.n
  few = omega (arith, within.faults)

  module _ (marks₀ values₀ marks values kept : List ℕ) (a : Estimated)
      (h : Receives s (settings_at s) marks₀ values₀ marks values)
      (gives : a ≡ trimmed_of own.rule own.m marks values)
      (keeps : kept ≡ trimmed_marks own.m marks values) where
    long-here : length marks ≡ own.n
    long-here = received.long-here s pass marks₀ values₀ marks values h

    fit : unfit_for (length marks) (length values) own.m ≡ false
    fit =
        or_false (received.fit-here s pass marks₀ values₀ marks values h)
        (lt-leb (length marks) (2 * own.m) (omega (arith, few, long-here)))

    -- the new value
    abbrev value : ℤ
    value = (trimmed_in own.rule own.m marks values).value

    numbers-are : a ≡ record { count = length marks - 2 * own.m; estimate = up two_to31 value; value = up two_to31 value }
    unfolding trimmed_of
    numbers-are = gives ∙ rw fit

    marks-are : kept ≡ table (mark_at own.m marks values) (length marks)
    unfolding trimmed_marks
    marks-are = keeps ∙ rw fit

    back : down two_to31 (up two_to31 value) ≡ value
    back = value-back marks values own.rule own.m (omega (arith, few, long-here))

    mark-at : (r : ℕ) → r < own.n → get_or kept r 0 ≡ mark_at own.m marks values r
    mark-at r l =
        ap (λ (xs : List ℕ). get_or xs r 0) marks-are
        ∙ get_d_table (mark_at own.m marks values) (length marks) r 0 (omega (arith, long-here))

    -- the round of what is held
    abbrev held : Round
    held = trimmed_in own.rule own.m marks values

    held-alike :
        EqualRounds own.n
        (round_held (length marks - 2 * own.m) (up two_to31 value) (up two_to31 value) kept values)
        (trimmed_in own.rule own.m marks values)
    held-alike =
        record {
          count = refl;
          estimate = back;
          value = back;
          mark = mark-at;
          used = λ r l.
              ap (λ (k : ℕ). down two_to31 (cond (eqb k 1) (value_at values r) (up two_to31 value))) (mark-at r l)
              ∙ used-held (is_kept (length marks) own.m (readings_in marks values) r) (present_in marks r)
              (value_at values r) (up two_to31 value) value back;
        }

    -- it is the sheet's
    sheet-alike : EqualRounds own.n (trimmed_in own.rule own.m marks values) (trimmed_round own (reading_at s own))
    unfolding trimmed_round
    sheet-alike =
        subst (λ (r : Round). EqualRounds own.n r (trimmed_round own (reading_at s own))) (sym here)
        (trimmed_local own (readings_in marks values) (reading_at s own)
        (λ r l. sym (received.same_here s pass marks₀ values₀ marks values h r l)))
      where
        here : trimmed_in own.rule own.m marks values ≡ trimmed_round own (readings_in marks values)
        here =
            ap (λ (n : ℕ).
            trimmed_with n own.m (readings_in marks values)
            (trimmed_value own.rule n own.m (readings_in marks values)))
            long-here

    some-count : a.count ≡ 0 → ⊥
    some-count z =
        let e = ap (λ (x : Estimated). x.count) numbers-are in
        omega (arith, few, long-here)

    round_is : round_at s D ≡ trimmed_round own (reading_at s own)
    unfolding round_at
    round_is = round-by_trimming own D (reading_at s own) trimmed

    pub trimmed-written : Written s D values kept a
    trimmed-written =
        record {
          none = λ z. absurd (some-count z);
          long = λ _. ap length marks-are ∙ length-table (mark_at own.m marks values) (length marks) ∙ long-here;
          alike = λ _. rw (round_is, numbers-are) (rounds_trans held-alike sheet-alike);
        }
