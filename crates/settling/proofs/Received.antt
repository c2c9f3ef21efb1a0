-- What is received of a sheet that passes checks 1 to 9 holds its readings; and what is left to be shown of a round that is
-- written.
--   Receives    what `receive` leaves
--   Written     the round that is held is the sheet's, or nothing is counted
-- Assumes nothing.
use mathlib.Core.Bool.{true, false}
use mathlib.Core.List.{List}
use mathlib.Core.Option.{none}
use mathlib.Core.Path.{◌≡◌, ◌∙◌}
use Prim.Native.Nat.{ℕ, ◌*◌, ◌<◌}
use native.Mathlib.Omega.{arith}
use borrow.Author.Tests.{lt-ltb, le-leb, eq-eqb}
use lib.ListN.{length}
use Rattle.arithmetic.specs.Writing.{table}
use Rattle.arithmetic.proofs.Bools.{and_intro}
use Rattle.model.specs.declared.Settings.{Settings}
use Rattle.model.specs.Ensemble.{quorum, max_cabinets}
use Rattle.model.specs.RoundSheet.{byte, settings_at, sheet_length}
use Rattle.model.specs.Steps.{round_at}
use Rattle.model.specs.Refusals.{first_of, row_checks}
use Rattle.refusal_laws.proofs.Limits.{Limits, limits}
use Rattle.sheet_laws.proofs.Checks.{settings-passed, sheet-length-passed}
use Rattle.round_laws.proofs.Local.{EqualBelow, EqualRounds}
use Rattle.held.proofs.Kept.{Kept}
use Rattle.held.specs.Held.{held_mark, held_value, readings_in, unfit}
use Rattle.estimates.specs.declared.Estimated.{Estimated}
use Rattle.agreement.proofs.Holding.{marks-long, values-long, same-held, fit-held}
use Rattle.reception.specs.Receiving.{reading_at, fitting, marks_received, values_received}
use Rattle.reception.proofs.Holding.{sheet-kept}
use Rattle.answer_writer.specs.Answers.{round_held}
use Rattle.settling.proofs.Checking.{sheet-passed}

pub record Receives (s : List ℕ) (c : Settings) (marks₀ values₀ marks values : List ℕ) : Type 0 where
  pub small : (j : ℕ) → byte s j < 256
  pub mark_room : length marks₀ ≡ c.n
  pub value_room : length values₀ ≡ c.n
  pub marked : marks ≡ marks_received s c marks₀ values₀
  pub valued : values ≡ values_received s c marks₀ values₀

-- of the numbers a and the marks that are kept
pub record Written (s : List ℕ) (D : ℕ) (values kept : List ℕ) (a : Estimated) : Type 0 where
  pub none : a.count ≡ 0 → (round_at s D).count ≡ 0
  pub long : (a.count ≡ 0 → ⊥) → length kept ≡ (settings_at s).n
  pub alike :
      (a.count ≡ 0 → ⊥)
      → EqualRounds (settings_at s).n (round_held a.count a.estimate a.value kept values) (round_at s D)

module _ (s : List ℕ) (pass : first_of (row_checks s) ≡ none) where
  abbrev own : Settings
  own = settings_at s

  pub within : Limits (settings_at s)
  within = limits own (settings-passed s (sheet-passed s pass))

  module _ (marks₀ values₀ marks values : List ℕ) (h : Receives s (settings_at s) marks₀ values₀ marks values) where
    fitting-here : fitting own (length s) (length marks₀) (length values₀) ≡ true
    unfolding fitting
    fitting-here =
        let few : 2 * own.m < own.n = let f = within.faults in omega arith in
        and_intro (and_intro (le-leb own.n max_cabinets within.cabinets) (lt-ltb (2 * own.m) own.n few))
        (and_intro (eq-eqb (length s) (sheet_length own) (sheet-length-passed s (sheet-passed s pass)))
        (and_intro (eq-eqb (length marks₀) own.n h.mark_room) (eq-eqb (length values₀) own.n h.value_room)))

    pub marks-here : marks ≡ table (λ r. held_mark (reading_at s own r)) own.n
    unfolding marks_received
    marks-here = h.marked ∙ rw fitting-here

    pub values-here : values ≡ table (λ r. held_value (reading_at s own r)) own.n
    unfolding values_received
    values-here = h.valued ∙ rw fitting-here

    -- what is held of each reading is the reading
    pub kept_here : (r : ℕ) → r < own.n → Kept (reading_at s own r)
    kept_here r l =
        let some-need : 0 < quorum own = let f = within.faults in omega arith in
        sheet-kept s h.small own some-need r

    pub long-here : length marks ≡ own.n
    long-here = marks-long own (reading_at s own) kept_here marks values marks-here values-here

    pub also-long : length values ≡ own.n
    also-long = values-long own (reading_at s own) kept_here marks values marks-here values-here

    pub fit-here : unfit (length marks) (length values) ≡ false
    fit-here = fit-held own (reading_at s own) kept_here marks values marks-here values-here within.cabinets

    pub same_here : EqualBelow own.n (reading_at s own) (readings_in marks values)
    same_here = same-held own (reading_at s own) kept_here marks values marks-here values-here
