-- INNER: no reader needs this page to believe a public promise. What a cabinet hears in a round of a recorded run, held
-- as marks and values (Rattle.held.specs.Held): of a sound cabinet what that holds, of a faulty one what was recorded.
--   spoken               what one sender is heard to say
--   heard_from            what receiver p hears of sender r
--   audible              sizes that fit
--   marks_heard, values_heard    the lists that `hear` leaves
use Rattle.std.specs.Prelude.{Bool, cond, ◌&&◌, List, ℕ, ◌+◌, ◌*◌, leb, ltb, eqb, length, get_or}
use Rattle.arithmetic.specs.Naturals.{down}
use Rattle.arithmetic.specs.Words.{two_to31}
use Rattle.arithmetic.specs.Writing.{table}
use Rattle.model.specs.Ensemble.{Reading, present, Readings, max_cabinets}
use Rattle.model.specs.RoundSheet.{byte, word}
use Rattle.held.specs.Held.{entry_reading, held_mark, held_value}

-- a sound sender (role 1) holds this value; entry e of marks and readings is what a faulty one sent
abbrev pub spoken : ℕ → ℕ → List ℕ → List ℕ → ℕ → Reading
spoken role value sent readings e =
    cond (eqb role 1) (present (down two_to31 value)) (entry_reading (byte sent e) (word readings (4 * e)))

-- a round's entries are ordered by sender and receiver
abbrev pub heard_from : List ℕ → List ℕ → List ℕ → List ℕ → ℕ → Readings
heard_from roles held sent readings p r =
    spoken (get_or roles r 0) (get_or held r 0) sent readings (r * length roles + p)

-- at most 64 roles, a value, a mark and a place for each, and an entry for each pair of them
unfoldable pub audible : ℕ → ℕ → ℕ → ℕ → ℕ → ℕ → ℕ → Bool
audible n held sent readings p marks values =
    (leb n max_cabinets && ltb p n)
    && (((eqb held n && eqb sent (n * n)) && eqb readings (4 * (n * n))) && (eqb marks n && eqb values n))

unfoldable pub marks_heard : List ℕ → List ℕ → List ℕ → List ℕ → ℕ → List ℕ → List ℕ → List ℕ
marks_heard roles held sent readings p marks values =
    cond
    (audible (length roles) (length held) (length sent) (length readings) p (length marks) (length values))
    (table (λ r. held_mark (heard_from roles held sent readings p r)) (length roles))
    marks

unfoldable pub values_heard : List ℕ → List ℕ → List ℕ → List ℕ → ℕ → List ℕ → List ℕ → List ℕ
values_heard roles held sent readings p marks values =
    cond
    (audible (length roles) (length held) (length sent) (length readings) p (length marks) (length values))
    (table (λ r. held_value (heard_from roles held sent readings p r)) (length roles))
    values
