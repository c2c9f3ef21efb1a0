-- INNER: no reader needs this page to believe a public promise. Fields with a space before each.
--   spaced          any fields
--   spaced_values    those of cabinets' values
use Rattle.std.specs.Prelude.{List, [], ◌∷◌, ◌++◌, ℕ, ℤ}
use Rattle.arithmetic.specs.Writing.{table}
use Rattle.model.specs.Listing.{signed_decimal}

unfoldable pub spaced : List (List ℕ) → List ℕ
spaced [] = []
spaced (field ∷ rest) = (32 ∷ field) ++ spaced rest

abbrev pub spaced_values : (ℕ → ℤ) → ℕ → List ℕ
spaced_values value n = spaced (table (λ p. signed_decimal (value p)) n)
