-- A reading that is held is read back: by its mark and its number. What lists that fit are; a local array's part for n
-- cabinets.
-- Assumes nothing.
use Rattle.std.proofs.Common.{◌≡◌, ℕ, ◌≤◌, Bool, true, false, not, eqb, ltb, length, take, replicate, ℤ, sym, refl, ap, ◌∙◌, length-take-le, ltb-false, le-ltb, eq-eqb, eqb-true}
use Rattle.arithmetic.proofs.Bools.{clash, or_false, or_left, or_right}
use Rattle.arithmetic.specs.Words.{two_to31}
use Rattle.arithmetic.specs.Naturals.{down, up}
use Rattle.arithmetic.proofs.Shift.{up-down}
use Rattle.model.specs.Ensemble.{missing, present, max_cabinets}
use Rattle.model.specs.Steps.{mark_of}
use Rattle.round_laws.specs.Naturals.{shift}
use Rattle.held.specs.Held.{held_mark, held_value, kept_mark, unfit}

pub missing-held : shift two_to31 (eqb (held_mark missing) 1) (held_value missing) ≡ missing
missing-held = refl

pub reading-held :
    (x : ℕ)
    → shift two_to31 (eqb (held_mark (present (down two_to31 x))) 1) (held_value (present (down two_to31 x)))
    ≡ present (down two_to31 x)
reading-held x = ap (λ (v : ℕ). present (down two_to31 v)) (up-down two_to31 x)

-- a number that was moved down, moved up and down again
pub moved_back : (z : ℤ) (x : ℕ) → z ≡ down two_to31 x → down two_to31 (up two_to31 z) ≡ z
moved_back z x e = ap (λ y. down two_to31 (up two_to31 y)) e ∙ ap (down two_to31) (up-down two_to31 x) ∙ sym e

-- the mark that is kept is document 01's
pub mark-kept : (accepted : Bool) (mark x : ℕ) → kept_mark accepted mark ≡ mark_of accepted (shift two_to31 (eqb mark 1) x)
mark-kept accepted mark x = go (eqb mark 1) refl
  where
    go : (b : Bool) → eqb mark 1 ≡ b → kept_mark accepted mark ≡ mark_of accepted (shift two_to31 (eqb mark 1) x)
    go true e = rw e
    go false e = rw e

-- lists that fit are of at most 64 cabinets, and equally long
module _ (marks values : ℕ) where
  pub fit-few : unfit marks values ≡ false → marks ≤ max_cabinets
  fit-few e = ltb-false max_cabinets marks (or_left (ltb max_cabinets marks) _ e)

  pub fit-even : unfit marks values ≡ false → values ≡ marks
  fit-even e = go (eqb values marks) refl (or_right (ltb max_cabinets marks) _ e)
    where
      go : (b : Bool) → eqb values marks ≡ b → not b ≡ false → values ≡ marks
      go true p q = eqb-true values marks p
      go false p q = clash refl q

  pub fit_intro : marks ≤ max_cabinets → values ≡ marks → unfit marks values ≡ false
  fit_intro l e = or_false (le-ltb max_cabinets marks l) (ap not (eq-eqb values marks e))

-- the first n places of 64
pub first-places : (n : ℕ) → n ≤ max_cabinets → length {A = ℕ} (take n (replicate 64 0)) ≡ n
first-places n h = length-take-le n (replicate 64 0) h
