-- Loops that count indices below n, or store a table, one at a time; sums of one index more.
--   Counts p n c t       c counts those below t that pass p
--   Storing f n old now t    the first t of n entries are stored in a list
-- Assumes nothing.
use mathlib.Core.Bool.{Bool, true, false}
use mathlib.Core.List.{List, [], ◌∷◌, ◌++◌}
use mathlib.Core.Path.{◌≡◌, refl, sym, ap, ap₂, ◌∙◌}
use Prim.Native.Nat.{ℕ, ◌+◌, ◌≤◌, ◌<◌, zero-le}
use native.Mathlib.Nat.{add-zero, le_refl, le_antisymm}
use native.Mathlib.Numerals.{add-one}
use native.Mathlib.Omega.{arith}
use lib.ListN.{length, get_or, set, drop}
use lib.Seq.{get_or-append-add, get_or-drop}
use mir.Val.{bool_byte}
use Rattle.arithmetic.specs.Counting.{bit, count}
use Rattle.arithmetic.specs.Writing.{table, overwrite}
use Rattle.arithmetic.proofs.Writing.{length-table, length-overwrite, overwrite_snoc}
use Rattle.arithmetic.proofs.Counting.{count-le}
use Rattle.arithmetic.specs.Naturals.{total}

-- a flag as a number
pub flag : (b : Bool) → bool_byte b ≡ bit b
flag true = refl
flag false = refl

pub flag_small : (b : Bool) → bool_byte b ≤ 1
flag_small true = le_refl 1
flag_small false = zero-le

pub count_next : (p : ℕ → Bool) (n : ℕ) → count p (n + 1) ≡ count p n + bit (p n)
unfolding count
count_next p n = rw (add-one n)

pub total-next : (f : ℕ → ℕ) (n : ℕ) → total f (n + 1) ≡ total f n + f n
unfolding total
total-next f n = rw (add-one n)

pub record Counts (p : ℕ → Bool) (n c t : ℕ) : Type 0 where
  pub up_to : t ≤ n
  pub exact : c ≡ count p t

module _ (p : ℕ → Bool) (n : ℕ) where
  pub count_none : Counts p n 0 0
  unfolding count
  count_none = record { up_to = zero-le; exact = refl }

  module _ {c t : ℕ} (so_far : Counts p n c t) where
    pub count_small : c ≤ t
    count_small = let l = count-le p t in omega (arith, so_far.exact)

    pub count-one : t < n → Counts p n (c + bool_byte (p t)) (t + 1)
    count-one h =
        record {
          up_to = omega arith;
          exact = ap₂ (λ (a b : ℕ). a + b) so_far.exact (flag (p t)) ∙ sym (count_next p t);
        }

    pub count-all : n ≤ t → c ≡ count p n
    count-all h = let e : t ≡ n = omega (arith, so_far.up_to) in rw (← e) so_far.exact

module _ {A : Type 0} where
  -- a table stored entry by entry: nothing yet, the next entry, all of them
  pub store-none : (f : ℕ → A) (old : List A) → old ≡ overwrite (table f 0) old
  unfolding table overwrite
  store-none f old = refl

  pub store-next : (f : ℕ → A) (n : ℕ) (old now : List A) (x : A) → now ≡ overwrite (table f n) old → x ≡ f n → n < length old → set now n x ≡ overwrite (table f (n + 1)) old
  unfolding table
  store-next f n old now x s e h =
      ap₂ (λ (l : List A) (k : ℕ). set l k x) s (sym (length-table f n))
      ∙ overwrite_snoc (table f n) old x (rw (length-table f n) h)
      ∙ ap (λ (y : A). overwrite (table f n ++ (y ∷ [])) old) e
      ∙ ap (λ (k : ℕ). overwrite (table f k) old) (sym (add-one n))

  pub store-ended : (f : ℕ → A) (n e : ℕ) (old now : List A) → e ≤ n → n ≤ e → now ≡ overwrite (table f e) old → now ≡ overwrite (table f n) old
  store-ended f n e old now a b s = s ∙ ap (λ (k : ℕ). overwrite (table f k) old) (le_antisymm a b)

  -- what comes behind the entries stored is what was there
  pub stored-behind : (f : ℕ → A) (r : ℕ) (old : List A) (d : A) → get_or (overwrite (table f r) old) r d ≡ get_or old r d
  unfolding overwrite
  stored-behind f r old d =
      let long = length-table f r in
      ap (λ (k : ℕ). get_or (overwrite (table f r) old) k d) (sym (add-zero r) ∙ ap (λ (k : ℕ). k + 0) (sym long))
      ∙ get_or-append-add (table f r) (drop (length (table f r)) old) 0 d
      ∙ get_or-drop (length (table f r)) old 0 d
      ∙ ap (λ (k : ℕ). get_or old k d) (add-zero (length (table f r)) ∙ long)

  -- a list in which a table of n entries is stored, one at a time
  module _ (f : ℕ → A) (n : ℕ) (old : List A) where
    pub record Storing (now : List A) (t : ℕ) : Type 0 where
      pub up_to : t ≤ n
      pub room : n ≤ length old
      pub written : now ≡ overwrite (table f t) old

    pub storing_none : n ≤ length old → Storing old 0
    storing_none room = record { up_to = zero-le; room = room; written = store-none f old }

    module _ (now : List A) (t : ℕ) (so_far : Storing now t) where
      pub storing_long : length now ≡ length old
      storing_long =
          ap length so_far.written
          ∙ length-overwrite (table f t) old (rw (length-table f t) (omega (arith, so_far.up_to, so_far.room)))

      pub storing_behind : (d : A) → get_or now t d ≡ get_or old t d
      storing_behind d = ap (λ (l : List A). get_or l t d) so_far.written ∙ stored-behind f t old d

      pub storing_next : t < n → (x : A) → x ≡ f t → Storing (set now t x) (t + 1)
      storing_next here x e =
          record {
            up_to = omega arith;
            room = so_far.room;
            written = store-next f t old now x so_far.written e (omega (arith, so_far.room));
          }

      pub storing_all : n ≤ t → now ≡ overwrite (table f n) old
      storing_all ended = store-ended f n t old now so_far.up_to ended so_far.written
