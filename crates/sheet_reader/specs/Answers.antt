-- What the reader leaves, in document 01's terms.
use Rattle.std.specs.Prelude.{List, Result, ℕ, ℤ}
use Rattle.model.specs.declared.Settings.{Settings}
use Rattle.model.specs.Calls.{Read}
use Rattle.refusals.specs.declared.Refusal.{Refusal}
use Rattle.refusals.specs.Answers.{verdict_of}

-- the reader's answer, with the two lent arrays as it leaves them
abbrev pub read_of : Result Settings Refusal → List ℕ → List ℤ → Read
read_of r marks readings = record { verdict = verdict_of r; marks = marks; readings = readings }
