-- INNER: no reader needs this page to believe a public promise. What the functions give that drop the m lowest and the
-- m highest readings by their ranks.
--   between      an index has a rank from low to high
--   Ranked       a list has the ranks of a list of numbers
use Rattle.std.specs.Prelude.{Bool, ◌&&◌, List, ◌≡◌, ℕ, ◌<◌, leb, ltb, length, get_or}
use Rattle.round_laws.specs.Naturals.{rank_nat}
use Rattle.held.specs.Held.{value_at}

abbrev pub between : List ℕ → ℕ → ℕ → ℕ → Bool
between ranks low high r = leb low (get_or ranks r 0) && ltb (get_or ranks r 0) high

-- the ranks are those of the numbers
abbrev pub Ranked : List ℕ → List ℕ → Type 0
Ranked numbers ranks = (r : ℕ) → r < length numbers → get_or ranks r 0 ≡ rank_nat (length numbers) (value_at numbers) r
