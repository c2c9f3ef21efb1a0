-- INNER: no reader needs this page to believe a public promise. Parts of a trace, of any bytes.
--   part_from    so many bytes from a place on; nothing where they do not all lie in the list
use Rattle.std.specs.Prelude.{cond, List, [], ℕ, ◌+◌, ltb, length, take, drop}

unfoldable pub part_from : List ℕ → ℕ → ℕ → List ℕ
part_from s start size = cond (ltb (length s) (start + size)) [] (take size (drop start s))
