-- What replaying answers, in the terms of document 02 and document 01.
--   replaying_of    a replay's answer, the bytes of the final values or the refusal, and what the lent buffer holds after
--                   it
use Rattle.std.specs.Prelude.{Result, List, ℕ}
use Rattle.model.specs.Calls.{Outcome}
use Rattle.refusals.specs.declared.Refusal.{Refusal}
use Rattle.refusals.specs.Answers.{verdict_of}

abbrev pub replaying_of : Result ℕ Refusal → List ℕ → Outcome
replaying_of r values = record { verdict = verdict_of r; buffer = values }
