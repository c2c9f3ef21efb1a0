-- Bytes put into a lent buffer from a position on, as many as it has room for. The functions that put them hand on the
-- position after the last.
--   Page            a buffer, and the position of the next byte
--   put_byte, put    a byte put where there is room; bytes put one after the other
--   Puts            the buffer and the position that putting bytes leaves
use Rattle.std.specs.Prelude.{cond, List, [], ◌∷◌, ◌≡◌, ℕ, ◌+◌, leb, length, set}

pub record Page : Type 0 where
  pub buffer : List ℕ
  pub at : ℕ

abbrev pub page : List ℕ → ℕ → Page
page buffer at = record { buffer = buffer; at = at }

unfoldable pub put_byte : Page → ℕ → Page
put_byte p b = cond (leb (length p.buffer) p.at) p (page (set p.buffer p.at b) (p.at + 1))

unfoldable pub put : Page → List ℕ → Page
put p [] = p
put p (b ∷ bytes) = put (put_byte p b) bytes

pub record Puts (old : List ℕ) (at : ℕ) (bytes : List ℕ) (new : List ℕ) (next : ℕ) : Type 0 where
  pub same : page new next ≡ put (page old at) bytes
