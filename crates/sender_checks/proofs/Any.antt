-- Whether an index below a number passes a test: index by index, over two parts, and with a test that is the same of
-- all.
-- Assumes nothing.
use mathlib.Core.Bool.{Bool, true, false, ◌&&◌, ◌||◌}
use mathlib.Core.List.{List, [], ◌∷◌}
use mathlib.Core.Path.{◌≡◌, refl, sym, ap, ◌∙◌}
use Prim.Native.Nat.{ℕ, zero, suc, ◌+◌}
use native.Mathlib.Nat.{add-zero, add-suc}
use lib.ListN.{length, get_or}
use Rattle.std.specs.List.{list_any}
use Rattle.arithmetic.specs.Counting.{any_below}
use Rattle.arithmetic.proofs.Counting.{any_false}

or_none : (a : Bool) → a ≡ (a || false)
or_none true = refl
or_none false = refl

or_assoc : (a b c : Bool) → ((a || b) || c) ≡ (a || (b || c))
or_assoc true b c = refl
or_assoc false b c = refl

module _ (p : ℕ → Bool) where
  pub any_none : false ≡ any_below p 0
  unfolding any_below
  any_none = refl

  -- the first a indices, and the b that follow
  pub any-parts : (a b : ℕ) → any_below p (a + b) ≡ (any_below p a || any_below (λ j. p (a + j)) b)
  unfolding any_below
  any-parts a zero = ap (any_below p) (add-zero a) ∙ or_none (any_below p a)
  any-parts a (suc b) =
      ap (any_below p) (add-suc a b)
      ∙ ap (λ (x : Bool). x || p (a + b)) (any-parts a b)
      ∙ or_assoc (any_below p a) (any_below (λ j. p (a + j)) b) (p (a + b))

  pub any-both : (c : Bool) (n : ℕ) → any_below (λ j. c && p j) n ≡ (c && any_below p n)
  any-both true n = refl
  any-both false n = any_false (λ j. false && p j) n (λ i h. refl)

-- the first index, and those that follow
any-front : (p : ℕ → Bool) (n : ℕ) → any_below p (suc n) ≡ (p 0 || any_below (λ i. p (suc i)) n)
unfolding any_below
any-front p zero = or_none (p 0)
any-front p (suc n) =
    ap (λ (b : Bool). b || p (suc n)) (any-front p n) ∙ or_assoc (p 0) (any_below (λ i. p (suc i)) n) (p (suc n))

-- a list's own question, asked by index
pub any-listed : (p : ℕ → Bool) (xs : List ℕ) → list_any p xs ≡ any_below (λ i. p (get_or xs i 0)) (length xs)
unfolding any_below
any-listed p [] = refl
any-listed p (x ∷ xs) =
    ap (λ (b : Bool). p x || b) (any-listed p xs)
    ∙ sym (any-front (λ i. p (get_or (x ∷ xs) i 0)) (length xs))
