-- A line by its fields, with a space before each but the first; how long the line of the values after some rounds is,
-- at most.
-- Assumes nothing.
use mathlib.Core.List.{List, [], ◌∷◌, ◌++◌, append_assoc}
use mathlib.Core.Path.{◌≡◌, refl, sym, ap, ◌∙◌}
use Prim.Native.Nat.{ℕ, zero, suc, ◌*◌, ◌≤◌, ◌<◌}
use native.Mathlib.Omega.{arith}
use lib.IntN.{ℤ}
use lib.ListN.{length, length-append}
use Rattle.arithmetic.specs.Writing.{table}
use Rattle.model.specs.Listing.{decimal, signed_decimal, line}
use Rattle.trace.specs.ReplayText.{after_word, after_text}
use Rattle.fields.specs.declared.Writer.{Writer}
use Rattle.fields.specs.Writing.{Writes}
use Rattle.fields.proofs.Digits.{length-decimal-byte}
use Rattle.fields.proofs.Signed.{length_signed}
use Rattle.fields.proofs.Writing.{writes_then}
use Rattle.value_fields.specs.Spaced.{spaced, spaced_values}
use Rattle.value_fields.proofs.Fields.{values-next}
use Rattle.after_text.specs.After.{after_capacity}

line-spaced : (first : List ℕ) (rest : List (List ℕ)) → line first rest ≡ first ++ (spaced rest ++ (10 ∷ []))
unfolding line spaced
line-spaced first [] = refl
line-spaced first (next ∷ rest) =
    ap (λ (l : List ℕ). first ++ (32 ∷ l))
    (line-spaced next rest ∙ sym (append_assoc next (spaced rest) (10 ∷ [])))

-- ---- the values

module _ (value : ℕ → ℤ) where
  length-values : (n : ℕ) → length (spaced_values value n) ≤ 12 * n
  unfolding table spaced
  length-values zero = omega arith
  length-values (suc n) =
      let ih = length-values n in
      let last = length_signed (value n) in
      let whole = length-append (spaced_values value n) (32 ∷ signed_decimal (value n)) in
      let same = ap length (values-next value n) in
      omega arith

-- ---- the line

module _ (n k : ℕ) (value : ℕ → ℤ) where
  after-spaced :
      after_text n k value ≡ after_word ++ ((32 ∷ decimal k) ++ (spaced_values value n ++ (10 ∷ [])))
  unfolding after_text spaced
  after-spaced =
      line-spaced after_word (decimal k ∷ table (λ p. signed_decimal (value p)) n)
      ∙ ap (λ (l : List ℕ). after_word ++ l) (append_assoc (32 ∷ decimal k) (spaced_values value n) (10 ∷ []))

  pub after-put : {start a b c end : Writer} → Writes start after_word a → Writes a (32 ∷ decimal k) b
      → Writes b (spaced_values value n) c
      → Writes c (10 ∷ []) end
      → Writes start (after_text n k value) end
  after-put p q r s = rw after-spaced (writes_then p (writes_then q (writes_then r s)))

  pub length-after : n < 256 → k < 256 → length (after_text n k value) ≤ after_capacity
  length-after few small =
      let whole = ap length after-spaced in
      let values = length-values value n in
      let number = length-decimal-byte k small in
      let a = length-append after_word ((32 ∷ decimal k) ++ (spaced_values value n ++ (10 ∷ []))) in
      let b = length-append (32 ∷ decimal k) (spaced_values value n ++ (10 ∷ [])) in
      let c = length-append (spaced_values value n) (10 ∷ []) in
      omega arith
