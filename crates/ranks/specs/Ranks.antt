-- INNER: no reader needs this page to believe a public promise. The ranks of the numbers of a list.
--   below_number, below_of   how many numbers are below one; what `count_below` gives: at most 64 numbers are asked
--   rank_at             how many come before an index (Rattle.round_laws.specs.Naturals)
--   misfit, ranks_of    what `rank` leaves in the lent list: at most 64 numbers and a list no shorter are asked
-- What the functions below it give:
--   below_at            how many numbers are below that of an index
--   Seen               of each number below 64, how many of the first r indices have so many below them
use Rattle.std.specs.Prelude.{Bool, cond, Option, Some, None, ◌||◌, List, ◌≡◌, ℕ, ◌<◌, ltb, eqb, length, get_or}
use Rattle.arithmetic.specs.Counting.{count}
use Rattle.arithmetic.specs.Writing.{table, overwrite}
use Rattle.model.specs.Ensemble.{max_cabinets}
use Rattle.round_laws.specs.Naturals.{rank_nat}
use Rattle.held.specs.Held.{value_at}

abbrev pub below_number : List ℕ → ℕ → ℕ
below_number values v = count (λ t. ltb (value_at values t) v) (length values)

unfoldable pub below_of : List ℕ → ℕ → Option ℕ
below_of values v = cond (ltb max_cabinets (length values)) None (Some (below_number values v))

abbrev pub rank_at : List ℕ → ℕ → ℕ
rank_at values r = rank_nat (length values) (value_at values) r

abbrev pub misfit : ℕ → ℕ → Bool
misfit n room = ltb max_cabinets n || ltb room n

unfoldable pub ranks_of : List ℕ → List ℕ → List ℕ
ranks_of values old =
    cond (misfit (length values) (length old)) old (overwrite (table (rank_at values) (length values)) old)

-- ---- the functions below it

abbrev pub below_at : List ℕ → ℕ → ℕ
below_at values r = below_number values (value_at values r)

pub record Seen (values : List ℕ) (r : ℕ) (seen : List ℕ) : Type 0 where
  pub long : length seen ≡ max_cabinets
  pub has : (h : ℕ) → h < max_cabinets → get_or seen h 0 ≡ count (λ s. eqb (below_at values s) h) r
