-- A number of four bytes stored in a lent buffer.
--   put_word b i x    b with the four bytes of x from byte i on; b itself where they do not all lie in it
use Rattle.std.specs.Prelude.{cond, List, ◌++◌, ℕ, ◌+◌, leb, length, take, drop}
use Rattle.model.specs.RoundSheet.{bytes4}

unfoldable pub put_word : List ℕ → ℕ → ℕ → List ℕ
put_word b i x = cond (leb (i + 4) (length b)) (take i b ++ (bytes4 x ++ drop (i + 4) b)) b
