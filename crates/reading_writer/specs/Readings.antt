-- INNER: no reader needs this page to believe a public promise.
--   readings_put    a buffer with readings of four bytes each from byte 0 on; itself where they do not all lie in it
use Rattle.std.specs.Prelude.{cond, List, ℕ, ◌/◌, ltb, ℤ, length}
use Rattle.arithmetic.specs.Writing.{overwrite}
use Rattle.model.specs.RoundSheet.{reading_bytes}

unfoldable pub readings_put : List ℤ → List ℕ → List ℕ
readings_put readings buffer =
    cond (ltb (length buffer / 4) (length readings)) buffer (overwrite (reading_bytes readings) buffer)
