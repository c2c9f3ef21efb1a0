-- INNER: no reader needs this page to believe a public promise.
--   spread_of    the spread that makes a span so wide
--   settling_by  settling, by what its last check says
--   numbers_by   the count, the estimate and the new value of the readings that two lists hold, by their rule
--   marks_by     the marks that are left of them
--   numbers_of, marks_of    the same of the readings of a sheet, received in two lists
--   Ready       a sheet with these settings, and a spread, pass checks 1 to 9 and 16, so that only check 10 is left
use Rattle.std.specs.Prelude.{Result, ⊤, cond, List, ◌≡◌, ℕ, ◌-◌, ◌≤◌, length}
use Rattle.std.proofs.Math.Option.{none}
use Rattle.model.specs.declared.Settings.{Settings}
use Rattle.model.specs.Ensemble.{quorum}
use Rattle.model.specs.RoundSheet.{trims, settings_at}
use Rattle.model.specs.AnswerSheet.{answer_length}
use Rattle.model.specs.Calls.{Outcome, verdict}
use Rattle.refusals.specs.Answers.{check_of}
use Rattle.refusals.specs.declared.Refusal.{Refusal}
use Rattle.model.specs.Refusals.{first_of, bad_spread, row_checks}
use Rattle.estimates.specs.declared.Estimated.{Estimated}
use Rattle.agreement.specs.Values.{agreed_of, agreed_marks}
use Rattle.trimming.specs.Values.{trimmed_of, trimmed_marks}
use Rattle.reception.specs.Receiving.{marks_received, values_received}

abbrev pub spread_of : Settings → ℕ → ℕ
spread_of c span = span - c.window

pub record Ready (s : List ℕ) (c : Settings) (D : ℕ) (answer : List ℕ) : Type 0 where
  pub passes : first_of (row_checks s) ≡ none
  pub spread : bad_spread (settings_at s) D ≡ none
  pub own : c ≡ settings_at s
  pub room : answer_length c.n ≤ length answer

abbrev pub settling_by : Result ⊤ Refusal → ℕ → List ℕ → Outcome
settling_by last size buffer = record { verdict = verdict (check_of last) size; buffer = buffer }

unfoldable pub numbers_by : Settings → ℕ → List ℕ → List ℕ → Estimated
numbers_by c span marks values =
    cond (trims c.rule) (trimmed_of c.rule c.m marks values)
    (agreed_of span (quorum c) c.estimator marks values)

unfoldable pub marks_by : Settings → ℕ → List ℕ → List ℕ → List ℕ
marks_by c span marks values =
    cond (trims c.rule) (trimmed_marks c.m marks values) (agreed_marks span (quorum c) marks values)

abbrev pub numbers_of : List ℕ → Settings → ℕ → List ℕ → List ℕ → Estimated
numbers_of s c span marks values =
    numbers_by c span (marks_received s c marks values) (values_received s c marks values)

abbrev pub marks_of : List ℕ → Settings → ℕ → List ℕ → List ℕ → List ℕ
marks_of s c span marks values = marks_by c span (marks_received s c marks values) (values_received s c marks values)
