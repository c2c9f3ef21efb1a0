-- Stores into a lent buffer, one after another from the front.
-- Assumes nothing.
use mathlib.Core.List.{List, [], ◌∷◌, ◌++◌, append_assoc, append-nil}
use mathlib.Core.Path.{◌≡◌, refl, sym, ap, ap₂, ◌∙◌}
use Prim.Native.Nat.{ℕ, ◌+◌, ◌*◌, ◌-◌, ◌≤◌, ◌<◌}
use native.Mathlib.Nat.{le_of_eq}
use native.Mathlib.Numerals.{add-one}
use native.Mathlib.Omega.{arith}
use borrow.Author.Tests.{le-leb}
use lib.IntN.{ℤ, pos}
use lib.ListN.{get_or, length, take, drop, length-append, length-drop, drop_of_length-le}
use lib.Seq.{length-take-le, take-suc, take_all, take-length, take_at, drop_at, drop-append-add, drop-drop}
use mir.Syntax.{w32}
use mir.Val.{of_z}
use Rattle.arithmetic.specs.Writing.{overwrite}
use Rattle.model.specs.RoundSheet.{bytes4, reading_bytes}
use Rattle.sheet_laws.specs.Storing.{put_word}
use Rattle.sheet_laws.proofs.Readings.{length-bytes4, length-reading_bytes, reading_bytes_append}

-- the next number stored behind what was written
pub put-word-next :
    (new old : List ℕ) (i x : ℕ) → length new ≡ i → i + 4 ≤ length old
    → put_word (overwrite new old) i x ≡ overwrite (new ++ bytes4 x) old
unfolding put_word overwrite
put-word-next new old i x e h =
    rw (le-leb (i + 4) (length (new ++ drop (length new) old)) room)
    (ap₂ (λ (l r : List ℕ). l ++ (bytes4 x ++ r)) (take_at new (drop (length new) old) i e) later
    ∙ sym (append_assoc new (bytes4 x) (drop (length (new ++ bytes4 x)) old)))
  where
    long : length (new ++ bytes4 x) ≡ i + 4
    long = length-append new (bytes4 x) ∙ ap₂ (λ (a b : ℕ). a + b) e (length-bytes4 x)

    room : i + 4 ≤ length (new ++ drop (length new) old)
    room =
        let a = length-append new (drop (length new) old) in
        let d = length-drop (length new) old in
        omega arith

    later : drop (i + 4) (new ++ drop (length new) old) ≡ drop (length (new ++ bytes4 x)) old
    later =
        ap (λ (k : ℕ). drop (k + 4) (new ++ drop (length new) old)) (sym e)
        ∙ drop-append-add new (drop (length new) old) 4
        ∙ drop-drop 4 (length new) old
        ∙ ap (λ (k : ℕ). drop k old) (ap (λ (k : ℕ). k + 4) e ∙ sym long)

module _ {A : Type 0} where
  -- a whole list copied to the front
  pub copy_overwrites : (new old : List A) → take (length new) new ++ drop (length new) old ≡ overwrite new old
  unfolding overwrite
  copy_overwrites new old = ap (λ (l : List A). l ++ drop (length new) old) (take-length new)

  -- a part written behind what was written
  pub overwrite_append :
      (p q old : List A) (k : ℕ) → length p ≡ k
      → take k (overwrite p old) ++ overwrite q (drop k (overwrite p old)) ≡ overwrite (p ++ q) old
  unfolding overwrite
  overwrite_append p q old k e =
      ap₂ (λ (l r : List A). l ++ (q ++ drop (length q) r)) (take_at p (drop (length p) old) k e)
      (drop_at p (drop (length p) old) k e)
      ∙ ap (λ (r : List A). p ++ (q ++ r))
      (drop-drop (length q) (length p) old ∙ ap (λ (j : ℕ). drop j old) (sym (length-append p q)))
      ∙ sym (append_assoc p q (drop (length (p ++ q)) old))

  -- a tail that was lent and written, put back behind what was written
  pub tail_written :
      (p q old b t : List A) (k : ℕ) → length p ≡ k → b ≡ overwrite p old
      → t ≡ overwrite q (take (length b - k) (drop k b))
      → take k b ++ (t ++ drop (length b - k) (drop k b)) ≡ overwrite (p ++ q) old
  tail_written p q old b t k e s w =
      ap₂ (λ (l r : List A). take k b ++ (l ++ r)) (w ∙ ap (overwrite q) whole)
      (drop_of_length-le (drop k b) (le_of_eq (length-drop k b)))
      ∙ ap (λ (l : List A). take k b ++ l) (append-nil (overwrite q (drop k b)))
      ∙ ap (λ (l : List A). take k l ++ overwrite q (drop k l)) s
      ∙ overwrite_append p q old k e
    where
      whole : take (length b - k) (drop k b) ≡ drop k b
      whole = take_all (length b - k) (drop k b) (le_of_eq (length-drop k b))

-- readings stored one by one: none yet, the next, all of them
pub put-none : (zs : List ℤ) (old : List ℕ) → old ≡ overwrite (reading_bytes (take 0 zs)) old
unfolding reading_bytes overwrite
put-none zs old = refl

pub put_next :
    (zs : List ℤ) (e : ℕ) (old now : List ℕ) (x : ℕ) → now ≡ overwrite (reading_bytes (take e zs)) old → e < length zs
    → x ≡ of_z w32 (get_or zs e (pos 0)) → 4 * length zs ≤ length old
    → put_word now (4 * e) x ≡ overwrite (reading_bytes (take (e + 1) zs)) old
put_next zs e old now x s h v room =
    ap₂ (λ (l : List ℕ) (y : ℕ). put_word l (4 * e) y) s v
    ∙ put-word-next (reading_bytes (take e zs)) old (4 * e) (of_z w32 (get_or zs e (pos 0))) long (omega arith)
    ∙ ap (λ (l : List ℕ). overwrite l old) (sym more)
  where
    long : length (reading_bytes (take e zs)) ≡ 4 * e
    long = length-reading_bytes (take e zs) ∙ ap (λ (k : ℕ). 4 * k) (length-take-le e zs (omega arith))

    more : reading_bytes (take (e + 1) zs) ≡ reading_bytes (take e zs) ++ bytes4 (of_z w32 (get_or zs e (pos 0)))
    more =
        ap (λ (k : ℕ). reading_bytes (take k zs)) (add-one e)
        ∙ ap reading_bytes (take-suc zs e (pos 0) h)
        ∙ reading_bytes_append (take e zs) (get_or zs e (pos 0) ∷ [])
        ∙ ap (λ (l : List ℕ). reading_bytes (take e zs) ++ l)
        (unfold reading_bytes in append-nil (bytes4 (of_z w32 (get_or zs e (pos 0)))))

pub put_ended :
    (zs : List ℤ) (e : ℕ) (old now : List ℕ) → length zs ≤ e → now ≡ overwrite (reading_bytes (take e zs)) old
    → now ≡ overwrite (reading_bytes zs) old
put_ended zs e old now h s = s ∙ ap (λ (l : List ℤ). overwrite (reading_bytes l) old) (take_all e zs h)
