-- A part that fits is stored.
-- Assumes nothing.
use Rattle.std.proofs.Common.{◌≡◌, List, ℕ, ◌≤◌, length, leb, le-leb}
use Rattle.arithmetic.specs.Writing.{overwrite}
use Rattle.part_writer.specs.Parts.{part_put}

pub part_fits : (part list : List ℕ) → length part ≤ length list → part_put part list ≡ overwrite part list
unfolding part_put
part_fits part list h = rw (le-leb (length part) (length list) h)
