-- Lists written out, and a lent list of which the first entries are written anew.
--   table f n            the list f 0, f 1, .., f (n-1)
--   overwrite new old    old with its first entries replaced by new; later entries keep what they had
use Rattle.std.specs.Prelude.{ℕ, zero, suc, List, [], ◌∷◌, ◌++◌, length, drop}

module _ {A : Type 0} where
  unfoldable pub table : (ℕ → A) → ℕ → List A
  table f zero = []
  table f (suc n) = table f n ++ (f n ∷ [])

  unfoldable pub overwrite : List A → List A → List A
  overwrite new old = new ++ drop (length new) old
