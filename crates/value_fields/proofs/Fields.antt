-- The values of one cabinet more.
-- Assumes nothing.
use mathlib.Core.List.{List, [], ◌∷◌, ◌++◌, append_assoc, append-nil}
use mathlib.Core.Path.{◌≡◌, refl, sym, ap, ◌∙◌}
use Prim.Native.Nat.{ℕ, suc, ◌+◌, ◌*◌}
use native.Mathlib.Numerals.{add-one}
use lib.IntN.{ℤ}
use Rattle.arithmetic.specs.Writing.{table}
use Rattle.model.specs.RoundSheet.{word}
use Rattle.model.specs.Listing.{signed_decimal}
use Rattle.fields.specs.declared.Writer.{Writer}
use Rattle.fields.specs.Writing.{Writes}
use Rattle.fields.proofs.Writing.{writes_then}
use Rattle.value_lines.specs.Values.{value_at}
use Rattle.value_fields.specs.Spaced.{spaced, spaced_values}

spaced_append : (a b : List (List ℕ)) → spaced (a ++ b) ≡ spaced a ++ spaced b
unfolding spaced
spaced_append [] b = refl
spaced_append (x ∷ a) b =
    ap (λ (l : List ℕ). (32 ∷ x) ++ l) (spaced_append a b) ∙ sym (append_assoc (32 ∷ x) (spaced a) (spaced b))

module _ (value : ℕ → ℤ) where
  pub values-next : (n : ℕ) → spaced_values value (suc n) ≡ spaced_values value n ++ (32 ∷ signed_decimal (value n))
  unfolding table spaced
  values-next n =
      spaced_append (table (λ p. signed_decimal (value p)) n) (signed_decimal (value n) ∷ [])
      ∙ ap (λ (l : List ℕ). spaced_values value n ++ (32 ∷ l)) (append-nil (signed_decimal (value n)))

  pub values-none : spaced_values value 0 ≡ []
  unfolding table spaced
  values-none = refl

-- one value more, of what the bytes say
pub value-put :
    (values : List ℕ) (p bits : ℕ) → bits ≡ word values (4 * p)
    → {old mid new : Writer} → Writes old (spaced_values (value_at values) p) mid
    → Writes mid (32 ∷ signed_decimal (mir.Val.to_z mir.Syntax.w32 bits)) new
    → Writes old (spaced_values (value_at values) (p + 1)) new
value-put values p bits e before here =
    rw (add-one p, values-next (value_at values) p) (writes_then before (rw e at here))
