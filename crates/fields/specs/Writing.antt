-- What a writer has written.
--   Writes    the same buffer is lent, and the bytes are put into it from the position on, which is now after the last
use Rattle.std.specs.Prelude.{List, ◌≡◌, ℕ}
use Rattle.fields.specs.declared.Writer.{Writer}
use Rattle.fields.specs.Putting.{Puts}

pub record Writes (old : Writer) (bytes : List ℕ) (new : Writer) : Type 0 where
  pub same_reference : new.bytes.ghost_name ≡ old.bytes.ghost_name
  pub puts : Puts old.bytes.now old.at bytes new.bytes.now new.at
