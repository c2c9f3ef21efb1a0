-- What is held of a reading is the reading: of one that is missing, of the 32 bits of one that was sent, and of an entry.
-- Assumes nothing.
use Rattle.std.proofs.Common.{◌≡◌, ℕ, ◌+◌, ◌%◌, ◌<◌, Bool, true, false, cond, eqb, sym, subst, w32, to_z}
use Rattle.arithmetic.specs.Words.{two_to31, two_to32}
use Rattle.model.specs.Ensemble.{Reading, missing, present}
use Rattle.round_laws.specs.Naturals.{shift}
use Rattle.held.specs.Held.{held_mark, held_value}
use Rattle.held.proofs.Held.{missing-held, reading-held}
use Rattle.held.proofs.Biasing.{wrapped_up}

abbrev pub Kept : Reading → Type 0
Kept z = shift two_to31 (eqb (held_mark z) 1) (held_value z) ≡ z

pub bits-kept : (x : ℕ) → x < two_to32 → Kept (present (to_z w32 x))
bits-kept x h = subst (λ z. Kept (present z)) (sym (wrapped_up x h)) (reading-held ((x + two_to31) % two_to32))

pub entry_kept : (b : Bool) (x : ℕ) → x < two_to32 → Kept (cond b (present (to_z w32 x)) missing)
entry_kept true x h = bits-kept x h
entry_kept false x h = missing-held
