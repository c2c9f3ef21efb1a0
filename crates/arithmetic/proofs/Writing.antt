-- Laws of lists written out and of lent lists written anew.
-- Assumes nothing.
use mathlib.Core.List.{List, [], ◌∷◌, ◌++◌, append_assoc}
use mathlib.Core.Logic.{⊎_elim}
use mathlib.Core.Path.{◌≡◌, refl, sym, ap, ap₂, ◌∙◌}
use Prim.Native.Nat.{ℕ, zero, suc, ◌≤◌, ◌<◌}
use native.Mathlib.Nat.{not-suc-le-zero}
use native.Mathlib.Numerals.{add-one}
use native.Mathlib.Omega.{arith}
use lib.ListN.{length, get_or, take, drop, set, length-append, length-drop, drop_of_length-le, get_or-append}
use lib.Seq.{get_or_at, drop-cons, set_at, take_at}
use Rattle.arithmetic.specs.Writing.{table, overwrite}
use Rattle.arithmetic.proofs.Counting.{initial, last, split-last}

module _ {A : Type 0} where
  pub length-table : (f : ℕ → A) (n : ℕ) → length (table f n) ≡ n
  unfolding table
  length-table f zero = refl
  length-table f (suc n) =
      let ih = length-table f n in
      let l = length-append (table f n) (f n ∷ []) in
      omega arith

  pub get_d_table : (f : ℕ → A) (n i : ℕ) (d : A) → i < n → get_or (table f n) i d ≡ f i
  unfolding table
  get_d_table f zero i d h = absurd (not-suc-le-zero h)
  get_d_table f (suc n) i d h =
      ⊎_elim
      (λ l. get_or-append (table f n) (f n ∷ []) d i (rw (length-table f n) l) ∙ get_d_table f n i d l)
      (λ e. rw e (get_or_at (table f n) (f n) [] d n (length-table f n)))
      (split-last i n h)

  pub table_ext : (f g : ℕ → A) (n : ℕ) → ((i : ℕ) → i < n → f i ≡ g i) → table f n ≡ table g n
  unfolding table
  table_ext f g zero h = refl
  table_ext f g (suc n) h = ap₂ {B = A} (λ (xs : List A) (x : A). xs ++ (x ∷ [])) (table_ext f g n (initial h)) (last h)

  -- a list is the table of its entries
  pub table_get_d : (xs : List A) (d : A) → table (λ i. get_or xs i d) (length xs) ≡ xs
  table_get_d xs d =
      lib.Seq.ext_get_or d (table (λ i. get_or xs i d) (length xs)) xs (length-table (λ i. get_or xs i d) (length xs))
      (λ i h. get_d_table (λ j. get_or xs j d) (length xs) i d (rw (length-table (λ j. get_or xs j d) (length xs)) at h))

  pub overwrite_nil : (old : List A) → overwrite [] old ≡ old
  unfolding overwrite
  overwrite_nil old = refl

  pub length-overwrite : (new old : List A) → length new ≤ length old → length (overwrite new old) ≡ length old
  unfolding overwrite
  length-overwrite new old h =
      let a = length-append new (drop (length new) old) in
      let d = length-drop (length new) old in
      omega arith

  -- the next entry stored
  pub overwrite_snoc : (new old : List A) (x : A) → length new < length old → set (overwrite new old) (length new) x ≡ overwrite (new ++ (x ∷ [])) old
  unfolding overwrite
  overwrite_snoc new old x h =
      ap (λ (l : List A). set (new ++ l) (length new) x) (drop-cons old (length new) x h)
      ∙ set_at new (get_or old (length new) x) (drop (suc (length new)) old) x (length new) refl
      ∙ sym (append_assoc new (x ∷ []) (drop (suc (length new)) old))
      ∙ ap (λ (k : ℕ). (new ++ (x ∷ [])) ++ drop k old) (sym (length-append new (x ∷ []) ∙ add-one (length new)))

  -- what is written stands there, and what comes later keeps what it had
  pub get_d_overwrite : (new old : List A) (i : ℕ) (d : A) → i < length new → get_or (overwrite new old) i d ≡ get_or new i d
  unfolding overwrite
  get_d_overwrite new old i d h = get_or-append new (drop (length new) old) d i h

  pub drop-overwrite : (new old : List A) → drop (length new) (overwrite new old) ≡ drop (length new) old
  unfolding overwrite
  drop-overwrite new old = lib.Seq.drop_at new (drop (length new) old) (length new) refl

  pub take-overwrite : (new old : List A) → take (length new) (overwrite new old) ≡ new
  unfolding overwrite
  take-overwrite new old = take_at new (drop (length new) old) (length new) refl

  -- a buffer of just the length written holds what was written
  pub overwrite-whole : (new old : List A) → length old ≤ length new → overwrite new old ≡ new
  unfolding overwrite
  overwrite-whole new old h = ap (λ (l : List A). new ++ l) (drop_of_length-le old h) ∙ mathlib.Core.List.append-nil new
