-- INNER: no reader needs this page to believe a public promise. One round of a recorded run, of lists: the roles, what
-- the sound ones hold (moved up by 2^31), and the round's marks and readings, ordered by sender and receiver.
--   heard_round            document 01's round of what receiver p hears
--   meets_too_many          p is sound and accepts nothing
--   next_value             what p holds next, moved up by 2^31; 0 for a faulty one
--   first_refused          how many cabinets stand before the first that meets too many faults; all where none does
--   round_fits             sizes that fit, fewer faults than half, and a window that is no wider than the widest
--   refused_given, next_given    what `settle_round` gives, and what it leaves in the lent list
use Rattle.std.specs.Prelude.{Bool, cond, ◌&&◌, List, ℕ, ◌*◌, leb, ltb, eqb, length, get_or}
use Rattle.std.proofs.Math.Option.{Option, none, some}
use Rattle.arithmetic.specs.Counting.{lowest}
use Rattle.arithmetic.specs.Naturals.{up}
use Rattle.arithmetic.specs.Words.{two_to31}
use Rattle.arithmetic.specs.Writing.{table, overwrite}
use Rattle.model.specs.declared.Settings.{Settings}
use Rattle.model.specs.Ensemble.{max_window}
use Rattle.model.specs.Steps.{Round, round_of}
use Rattle.hearing.specs.Heard.{heard_from, audible}

module _ (c : Settings) (roles held sent readings : List ℕ) where
  abbrev pub heard_round : ℕ → Round
  heard_round p = round_of c 0 (heard_from roles held sent readings p)

  unfoldable pub meets_too_many : ℕ → Bool
  meets_too_many p = eqb (get_or roles p 0) 1 && eqb (heard_round p).count 0

  unfoldable pub next_value : ℕ → ℕ
  next_value p = cond (eqb (get_or roles p 0) 1) (up two_to31 (heard_round p).value) 0

  abbrev pub place_of : Option ℕ → ℕ
  place_of (some p) = p
  place_of none = length roles

  unfoldable pub first_refused : ℕ
  first_refused = place_of (lowest meets_too_many (length roles))

  unfoldable pub round_fits : List ℕ → Bool
  round_fits next =
      (eqb c.n (length roles) && (ltb (2 * c.m) (length roles) && leb c.window max_window))
      && audible (length roles) (length held) (length sent) (length readings) 0 (length roles) (length next)

  -- else nothing is settled
  unfoldable pub refused_given : List ℕ → ℕ
  refused_given next = cond (round_fits next) first_refused (length roles)

  unfoldable pub next_given : List ℕ → List ℕ
  next_given next = cond (round_fits next) (overwrite (table next_value first_refused) next) next
