-- INNER: no reader needs this page to believe a public promise. A row's copies, as bytes
-- (Rattle.copies.specs.Copies), and their decision.
--   copy_at              the copy
--   decision_of          what the bits of a decided value, or none, say in document 01's terms
--   row_decision         document 01's decision of a row of at most 64 copies, of which need are more than half
-- What the functions below it give:
--   Elected             the candidate of the majority vote
use Rattle.std.specs.Prelude.{Bool, cond, not, ◌||◌, List, Option, Some, None, ℕ, ◌*◌, ◌/◌, leb, ltb, eqb, length}
use Rattle.std.specs.Int.{w32}
use Rattle.std.proofs.Common.{to_z}
use Rattle.model.specs.Ensemble.{Readings, missing, present, max_cabinets}
use Rattle.model.specs.Steps.{Decision, decided, known_faulty, decide_row}
use Rattle.copies.specs.Copies.{marked_at, copy_bits, holds_copy}
use Rattle.decisions.specs.Majority.{Candidate}

abbrev pub copy_at : List ℕ → List ℕ → Readings
copy_at marks row t = cond (marked_at marks t) (present (to_z w32 (copy_bits row t))) missing

abbrev pub decision_of : Option ℕ → Decision
decision_of (Some b) = decided (to_z w32 b)
decision_of None = known_faulty

abbrev pub row_misfit : ℕ → List ℕ → List ℕ → Bool
row_misfit need marks row =
    ltb max_cabinets (length marks) || (not (eqb (length row) (4 * length marks)) || leb need (length marks / 2))

unfoldable pub row_decision : ℕ → List ℕ → List ℕ → Decision
row_decision need marks row =
    cond (row_misfit need marks row) known_faulty (decide_row need (length marks) (copy_at marks row))

-- ---- the functions below it

-- the vote's candidate, with a counter that we do not name
pub record Elected (marks row : List ℕ) (c : ℕ) : Type 0 where
  pub lead : ℕ
  pub vote : Candidate (holds_copy marks row) c lead (length marks)
