-- A list filled from its start: the first p places hold f, and the others what they held.
-- Assumes nothing.
use mathlib.Core.Bool.{cond}
use mathlib.Core.List.{List, ◌++◌}
use mathlib.Core.Path.{◌≡◌, refl, ap, ◌∙◌, subst}
use Prim.Native.Nat.{ℕ, ◌+◌, ◌≤◌, ◌<◌, zero-le}
use native.Mathlib.Omega.{arith}
use borrow.Author.Tests.{eq-eqb, ne_eqb}
use lib.Dec.{eqb}
use lib.ListN.{length, get_or, set, drop, length-set}
use lib.Seq.{get_or-append-add, get_or-drop, set-get_or}
use Rattle.arithmetic.specs.Writing.{table, overwrite}
use Rattle.arithmetic.proofs.Writing.{length-table, overwrite-whole}
use Rattle.loop_laws.proofs.Loops.{store-none, store-next, store-ended}

module _ (f : ℕ → ℕ) (old : List ℕ) where
  pub record Filling (now : List ℕ) (p : ℕ) : Type 0 where
    pub up_to : p ≤ length old
    pub stored : now ≡ overwrite (table f p) old
    pub room : length now ≡ length old

  pub begin : Filling old 0
  begin = record { up_to = zero-le; stored = store-none f old; room = refl }

  module _ (now : List ℕ) (p : ℕ) (so_far : Filling now p) where
    pub fill : p < length old → (x : ℕ) → x ≡ f p → Filling (set now p x) (p + 1)
    fill l x e =
        record {
          up_to = omega arith;
          stored = store-next f p old now x so_far.stored e l;
          room = length-set now p x ∙ so_far.room;
        }

    pub filled : length old ≤ p → now ≡ table f (length old)
    filled l =
        store-ended f (length old) p old now so_far.up_to l so_far.stored
        ∙ overwrite-whole (table f (length old)) old (let t = length-table f (length old) in omega arith)

    -- a place that is not filled yet
    pub unfilled : p < length old → get_or now p 0 ≡ get_or old p 0
    unfolding overwrite
    unfilled l =
        ap (λ (xs : List ℕ). get_or xs p 0) so_far.stored
        ∙ ap (λ (i : ℕ). get_or (table f p ++ drop (length (table f p)) old) i 0)
        (let t = length-table f p in omega arith)
        ∙ get_or-append-add (table f p) (drop (length (table f p)) old) 0 0
        ∙ get_or-drop (length (table f p)) old 0 0
        ∙ ap (λ (i : ℕ). get_or old i 0) (let t = length-table f p in omega arith)

-- what a cabinet holds after the sound ones have taken their next values over
abbrev pub taking : List ℕ → List ℕ → List ℕ → ℕ → ℕ
taking roles next held q = cond (eqb (get_or roles q 0) 1) (get_or next q 0) (get_or held q 0)

module _ (roles next held now : List ℕ) (p : ℕ) (so_far : Filling (taking roles next held) held now p)
    (room : p < length held) where
  pub taken : get_or roles p 0 ≡ 1 → Filling (taking roles next held) held (set now p (get_or next p 0)) (p + 1)
  taken sound =
      fill (taking roles next held) held now p so_far room (get_or next p 0) (rw (eq-eqb (get_or roles p 0) 1 sound) refl)

  pub kept : (get_or roles p 0 ≡ 1 → ⊥) → Filling (taking roles next held) held now (p + 1)
  kept faulty =
      subst (λ (l : List ℕ). Filling (taking roles next held) held l (p + 1)) (set-get_or now p 0)
      (fill (taking roles next held) held now p so_far room (get_or now p 0)
      (unfilled (taking roles next held) held now p so_far room ∙ rw (ne_eqb (get_or roles p 0) 1 faulty) refl))
