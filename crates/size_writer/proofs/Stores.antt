-- The sizes stored in a buffer in which they lie.
-- Assumes nothing.
use mathlib.Core.List.{List, [], ◌∷◌}
use mathlib.Core.Path.{◌≡◌, refl, ap, ◌∙◌}
use Prim.Native.Nat.{ℕ, ◌≤◌}
use native.Mathlib.Omega.{arith}
use lib.ListN.{length, set}
use lib.Seq.{sets-eq}
use Rattle.arithmetic.specs.Writing.{overwrite}
use Rattle.model.specs.declared.Settings.{Settings}
use Rattle.model.specs.RoundSheet.{header_size, size_bytes}
use Rattle.sheet_laws.specs.Storing.{put_word}
use Rattle.sheet_laws.proofs.Storing.{put-word-next}

-- the four bytes and the number of the sizes
pub sizes-stored :
    (c : Settings) (b : List ℕ) → header_size ≤ length b
    → put_word (set (set (set (set b 0 c.n) 1 c.m) 2 c.rule) 3 c.estimator) 4 c.window ≡ overwrite
    (size_bytes c) b
unfolding size_bytes
sizes-stored c b h =
    ap (λ (l : List ℕ). put_word l 4 c.window) first
    ∙ put-word-next (c.n ∷ c.m ∷ c.rule ∷ c.estimator ∷ []) b 4 c.window refl h
  where
    first :
        set (set (set (set b 0 c.n) 1 c.m) 2 c.rule) 3 c.estimator ≡ overwrite
        (c.n ∷ c.m ∷ c.rule ∷ c.estimator ∷ []) b
    first = unfold overwrite in sets-eq (c.n ∷ c.m ∷ c.rule ∷ c.estimator ∷ []) b 0 (omega arith)
