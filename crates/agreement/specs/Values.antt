-- INNER: no reader needs this page to believe a public promise. Document 01's round of the readings that a list of
-- marks and a list of values hold (Rattle.held.specs.Held).
--   agreed_round              document 01's round of the readings
--   unagreed                 nothing is agreed on: the lists do not fit, nothing is accepted, or two accepted readings
--                            lie farther apart than twice the widest span
--   agreed_of                 what `agree` gives: the accepted count, the estimate and the new value
--   mark_at, agreed_marks      document 01's mark of a reading; the marks that `agree` leaves
use Rattle.std.specs.Prelude.{Bool, cond, ◌||◌, List, ℕ, eqb, length}
use Rattle.arithmetic.specs.Naturals.{up}
use Rattle.arithmetic.specs.Writing.{table}
use Rattle.arithmetic.specs.Words.{two_to31}
use Rattle.model.specs.Steps.{estimate, mark_of, Round, round_with}
use Rattle.held.specs.Held.{readings_in, value_at, unfit}
use Rattle.summaries.specs.Summaries.{far_apart}
use Rattle.estimates.specs.Values.{nothing}
use Rattle.estimates.specs.declared.Estimated.{Estimated}
use Rattle.acceptance.specs.Values.{accepted_in, accepted_count}

abbrev pub agreed_round : ℕ → ℕ → ℕ → List ℕ → List ℕ → Round
agreed_round w need kind marks values =
    round_with (length marks) (readings_in marks values) (accepted_in w need marks values)
    (estimate kind (accepted_in w need marks values) (length marks) (readings_in marks values))

-- the law `agreed-near` (proofs/Near) says that accepted readings never lie so far apart where more than half must
-- agree and the span is no wider than the widest
abbrev pub unagreed : ℕ → ℕ → List ℕ → List ℕ → Bool
unagreed w need marks values =
    unfit (length marks) (length values)
    || (eqb (accepted_count w need marks values) 0
    || far_apart (accepted_in w need marks values) (length marks) (value_at values))

-- the estimate and the new value are moved up by 2^31
unfoldable pub agreed_of : ℕ → ℕ → ℕ → List ℕ → List ℕ → Estimated
agreed_of w need kind marks values =
    cond (unagreed w need marks values) nothing
    (record {
      count = accepted_count w need marks values;
      estimate = up two_to31 (agreed_round w need kind marks values).estimate;
      value = up two_to31 (agreed_round w need kind marks values).value;
    })

abbrev pub mark_at : ℕ → ℕ → List ℕ → List ℕ → ℕ → ℕ
mark_at w need marks values r = mark_of (accepted_in w need marks values r) (readings_in marks values r)

-- the marks are left as they are where nothing is accepted, or the lists do not fit
unfoldable pub agreed_marks : ℕ → ℕ → List ℕ → List ℕ → List ℕ
agreed_marks w need marks values =
    cond (unfit (length marks) (length values)) marks
    (cond (eqb (accepted_count w need marks values) 0) marks (table (mark_at w need marks values) (length marks)))
