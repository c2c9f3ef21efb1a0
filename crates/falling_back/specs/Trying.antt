-- Inner: what is given after a refusal of the crusaders sheet, by settling the direct sheet.
use Rattle.std.specs.Prelude.{cond, List, ℕ, eqb}
use Rattle.model.specs.Refusals.{Refusal}
use Rattle.model.specs.Refusals.{too_many_faults_number}
use Rattle.model.specs.Calls.{Verdict, granted, refused, settle}
use Rattle.sheet_pairs.specs.Fallback.{direct, Settlement}

abbrev pub settled_direct : Verdict ℕ → Verdict Settlement
settled_direct (granted size) = granted (record { source = direct; size = size })
settled_direct (refused r) = refused r

unfoldable pub tried_verdict : Refusal → List ℕ → List ℕ → Verdict Settlement
tried_verdict r b answer =
    cond (eqb r.number too_many_faults_number) (settled_direct (settle b answer).verdict) (refused r)

unfoldable pub tried_buffer : Refusal → List ℕ → List ℕ → List ℕ
tried_buffer r b answer = cond (eqb r.number too_many_faults_number) (settle b answer).buffer answer
