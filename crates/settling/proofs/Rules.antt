-- What the calls for either kind of rule leave of a sheet is the round by its rule.
--   by_trimming    what `receive_direct` and `trim` leave
--   by-spans       what `receive` and `agree` leave
-- Assumes nothing.
use mathlib.Core.Bool.{false, cond}
use mathlib.Core.List.{List}
use mathlib.Core.Path.{◌≡◌, sym, ap, ap₂, ◌∙◌}
use Prim.Native.Nat.{ℕ, ◌≤◌, ◌<◌}
use native.Mathlib.Omega.{arith}
use borrow.Author.Tests.{lt-ltb, le-ltb, ne_eqb}
use lib.Dec.{eqb}
use Rattle.model.specs.declared.Settings.{Settings}
use Rattle.model.specs.Ensemble.{quorum}
use Rattle.model.specs.RoundSheet.{cca}
use Rattle.estimates.specs.declared.Estimated.{Estimated}
use Rattle.agreement.specs.Values.{agreed_of, agreed_marks}
use Rattle.trimming.specs.Values.{trimmed_of, trimmed_marks}
use Rattle.reception.specs.Receiving.{marks_received, values_received}
use Rattle.settling.specs.Rounds.{numbers_by, marks_by, numbers_of, marks_of}

module _ (s : List ℕ) (c : Settings) (marks₀ values₀ marks values kept : List ℕ) (a : Estimated) where
  pub by_trimming :
      (rule : ℕ)
      → c.rule ≡ rule
      → cca < c.rule
      → marks ≡ cond (eqb c.rule cca) marks₀ (marks_received s c marks₀ values₀)
      → values ≡ cond (eqb c.rule cca) values₀ (values_received s c marks₀ values₀)
      → a ≡ trimmed_of rule c.m marks values
      → kept ≡ trimmed_marks c.m marks values
      → ((w : ℕ) → a ≡ numbers_of s c w marks₀ values₀)
      × (((w : ℕ) → kept ≡ marks_of s c w marks₀ values₀) × (values ≡ values_received s c marks₀ values₀))
  unfolding numbers_by marks_by
  by_trimming rule is-rule above marked valued agrees keeps =
      let direct : eqb c.rule cca ≡ false = ne_eqb c.rule cca (λ e. omega arith) in
      let m : marks ≡ marks_received s c marks₀ values₀ = marked ∙ rw direct in
      let v : values ≡ values_received s c marks₀ values₀ = valued ∙ rw direct in
      let by-rule : a ≡ trimmed_of c.rule c.m marks values =
      agrees ∙ ap (λ (k : ℕ). trimmed_of k c.m marks values) (sym is-rule) in
      let e = lt-ltb cca c.rule above in (
        (λ w. by-rule ∙ ap₂ (trimmed_of c.rule c.m) m v ∙ rw e),
        ((λ w. keeps ∙ ap₂ (trimmed_marks c.m) m v ∙ rw e), v),
      )

  pub by-spans :
      (span : ℕ)
      → c.rule ≤ cca
      → marks ≡ marks_received s c marks₀ values₀
      → values ≡ values_received s c marks₀ values₀
      → a ≡ agreed_of span (quorum c) c.estimator marks values
      → kept ≡ agreed_marks span (quorum c) marks values
      → (a ≡ numbers_of s c span marks₀ values₀) × (kept ≡ marks_of s c span marks₀ values₀)
  unfolding numbers_by marks_by
  by-spans span below marked valued agrees keeps =
      let e = le-ltb cca c.rule below in (
        agrees ∙ ap₂ (agreed_of span (quorum c) c.estimator) marked valued ∙ rw e,
        keeps ∙ ap₂ (agreed_marks span (quorum c)) marked valued ∙ rw e,
      )
