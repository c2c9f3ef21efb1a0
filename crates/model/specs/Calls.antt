-- What each call of document 01 gives, and what it leaves in everything that it was lent (docs/FORMAT.md, 7 and 8).
--   Verdict                    what is granted, or the refusal
--   read, write, row           the reader, the writer, the row accessor
--   settle_spread, settle       settling with a spread; settling without one
--   plan, step, Target         the planner, its step, the count for a target
use Rattle.std.specs.Prelude.{cond, List, [], ◌≡◌, ℕ, ltb, length, ℤ}
use Rattle.std.proofs.Math.Option.{none, some}
use Rattle.std.specs.Int.{w32}
use Rattle.std.proofs.Common.{to_z}
use Rattle.arithmetic.specs.Writing.{table, overwrite}
use Rattle.model.specs.declared.Settings.{Settings}
use Rattle.model.specs.Refusals.{Refusal}
use Rattle.model.specs.RoundSheet.{settings_at, entry_count, sheet_length, mark_at, bits_at, row_part, sheet_bytes}
use Rattle.model.specs.AnswerSheet.{answer_length, answer_bytes}
use Rattle.model.specs.Steps.{round_at}
use Rattle.model.specs.Planner.{Plan, plan_from, advance, after, Reaches}
use Rattle.model.specs.Refusals.{Check, first_of, read_checks, write_checks, row_checks, settle_checks}
use Rattle.model.specs.Refusals.{plan_checks, step_checks, target_checks}

-- "one answer sheet or one numbered refusal"
pub data Verdict (A : Type 0) : Type 0 where
  granted : A → Verdict A
  refused : Refusal → Verdict A

module _ {A : Type 0} where
  -- what a call grants unless a check refuses
  abbrev pub verdict : Check → A → Verdict A
  verdict none a = granted a
  verdict (some r) a = refused r

  -- what is lent: written anew unless a check refuses. "Nothing lent is written" by a refusal
  abbrev pub lent : Check → A → A → A
  lent none new old = new
  lent (some r) new old = old

-- ---- "The reader gives back the settings and fills two lent arrays, marks and readings"

pub record Read : Type 0 where
  pub verdict : Verdict Settings
  pub marks : List ℕ
  pub readings : List ℤ

abbrev pub marks_of : List ℕ → List ℕ
marks_of s = table (mark_at s) (entry_count (settings_at s))

abbrev pub ticks_of : List ℕ → List ℤ
ticks_of s = table (λ e. to_z w32 (bits_at s (entry_count (settings_at s)) e)) (entry_count (settings_at s))

-- "entries past E keep what they had"
abbrev pub read_after : Check → List ℕ → List ℕ → List ℤ → Read
read_after check s marks readings =
    record {
      verdict = verdict check (settings_at s);
      marks = lent check (overwrite (marks_of s) marks) marks;
      readings = lent check (overwrite (ticks_of s) readings) readings;
    }

unfoldable pub read : List ℕ → List ℕ → List ℤ → Read
read s marks readings = read_after (first_of (read_checks s (length marks) (length readings))) s marks readings

-- ---- "The writer takes the settings and two arrays"; "Bytes past the sheet keep what they had". It grants the sheet's
-- length

pub record Outcome : Type 0 where
  pub verdict : Verdict ℕ
  pub buffer : List ℕ

abbrev pub written_after : Check → ℕ → List ℕ → List ℕ → Outcome
written_after check size bytes buffer =
    record { verdict = verdict check size; buffer = lent check (overwrite bytes buffer) buffer }

unfoldable pub write : Settings → List ℕ → List ℤ → List ℕ → Outcome
write c marks readings buffer =
    written_after
    (first_of (write_checks c marks readings (length buffer)))
    (sheet_length c)
    (sheet_bytes c marks readings)
    buffer

-- ---- "One cabinet's row of readings is shown as the part of the sheet that holds it"

-- "A sheet that checks 1 to 6, 8 or 9 refuse, or a cabinet number of N or above, shows an empty part"
unfoldable pub row : List ℕ → ℕ → List ℕ
row s r = lent (first_of (row_checks s)) (cond (ltb r (settings_at s).n) (row_part s (settings_at s) r) []) []

-- ---- Settling: "it leaves as one answer sheet or one numbered refusal". It grants the answer sheet's length

abbrev pub settle_after : Check → List ℕ → ℕ → List ℕ → Outcome
settle_after check s D answer =
    written_after check (answer_length (settings_at s).n) (answer_bytes (settings_at s).n (round_at s D)) answer

-- document 02, request 2: "The FCA caller now gives a spread D"
unfoldable pub settle_spread : List ℕ → ℕ → List ℕ → Outcome
settle_spread s D answer = settle_after (first_of (settle_checks s D (length answer))) s D answer

-- settling without a spread is settling with D 0
unfoldable pub settle : List ℕ → List ℕ → Outcome
settle s answer = settle_spread s 0 answer

-- ---- The planner: "From N, m, rule, estimator, δ, accuracy κ and 0 to 32 rounds it gives the window and the accuracy
-- after them"

unfoldable pub plan : Settings → ℕ → ℕ → Verdict Plan
plan c κ k = verdict (first_of (plan_checks c κ k)) (after k (plan_from c κ))

unfoldable pub step : Plan → Verdict Plan
step p = verdict (first_of (step_checks p)) (advance p)

-- "it also gives a round count of at most 32 whose window is at or below the target": a refusal is the first check that
-- refuses, and any count that reaches the target may be granted where none does
abbrev pub Target : Settings → ℕ → ℕ → Verdict ℕ → Type 0
Target c κ target (granted k) = (first_of (target_checks c κ target) ≡ none) × Reaches c κ target k
Target c κ target (refused r) = first_of (target_checks c κ target) ≡ some r
