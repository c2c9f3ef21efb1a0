-- INNER: no reader needs this page to believe a public promise.
--   sizes_put    a buffer with the sizes in bytes 0 to 7; itself where they do not all lie in it
use Rattle.std.specs.Prelude.{cond, List, ℕ, ltb, length}
use Rattle.arithmetic.specs.Writing.{overwrite}
use Rattle.model.specs.declared.Settings.{Settings}
use Rattle.model.specs.RoundSheet.{header_size, size_bytes}

unfoldable pub sizes_put : Settings → List ℕ → List ℕ
sizes_put c buffer = cond (ltb (length buffer) header_size) buffer (overwrite (size_bytes c) buffer)
