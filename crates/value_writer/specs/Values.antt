-- INNER: no reader needs this page to believe a public promise. The values that a replay writes, from lists of roles
-- and of what sound cabinets hold, moved up by 2^31.
--   shown_of       a cabinet's value; 0 for a faulty one
--   unfit         fewer values are held than there are roles, or they do not fit into the buffer
--   size_put       how many bytes are written
--   values_put     what is left in the lent buffer
use Rattle.std.specs.Prelude.{Bool, cond, ◌||◌, List, ℕ, ◌*◌, ◌/◌, eqb, ltb, ℤ, pos, length, get_or}
use Rattle.arithmetic.specs.Naturals.{down}
use Rattle.arithmetic.specs.Words.{two_to31}
use Rattle.arithmetic.specs.Writing.{table, overwrite}
use Rattle.model.specs.RoundSheet.{reading_bytes}

abbrev pub shown_of : List ℕ → List ℕ → ℕ → ℤ
shown_of roles held p = cond (eqb (get_or roles p 0) 1) (down two_to31 (get_or held p 0)) (pos 0)

abbrev pub unfit : ℕ → ℕ → ℕ → Bool
unfit cabinets held room = ltb held cabinets || ltb (room / 4) cabinets

unfoldable pub size_put : List ℕ → List ℕ → List ℕ → ℕ
size_put roles held values = cond (unfit (length roles) (length held) (length values)) 0 (4 * length roles)

unfoldable pub values_put : List ℕ → List ℕ → List ℕ → List ℕ
values_put roles held values =
    cond (unfit (length roles) (length held) (length values)) values
    (overwrite (reading_bytes (table (shown_of roles held) (length roles))) values)
