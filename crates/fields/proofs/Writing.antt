-- Writing after writing, and one byte more of a list.
-- Assumes nothing.
use Rattle.std.proofs.Common.{ℕ, ◌+◌, ◌<◌, List, [], ◌∷◌, ◌++◌, length, take, get_or, refl, ◌∙◌}
use Rattle.fields.specs.declared.Writer.{Writer}
use Rattle.fields.specs.Writing.{Writes}
use Rattle.fields.proofs.Putting.{puts_none, puts_then, puts_more}

pub writes_none : (w : Writer) → Writes w [] w
writes_none w = record { same_reference = refl; puts = puts_none w.bytes.now w.at }

-- what is put next follows what was put before
pub writes_then : {old mid new : Writer} {a b : List ℕ} → Writes old a mid → Writes mid b new → Writes old (a ++ b) new
writes_then p q = record { same_reference = q.same_reference ∙ p.same_reference; puts = puts_then p.puts q.puts }

pub writes_more : {old mid new : Writer} (bytes : List ℕ) (i : ℕ) → i < length bytes → Writes old (take i bytes) mid
    → Writes mid (get_or bytes i 0 ∷ []) new
    → Writes old (take (i + 1) bytes) new
writes_more bytes i h p q =
    record { same_reference = q.same_reference ∙ p.same_reference; puts = puts_more bytes i h p.puts q.puts }
