-- Numbers in decimal: as many digits as the number has, each of them a digit, no leading zero, and read back they are
-- the number.
-- Assumes nothing.
use mathlib.Core.List.{List, [], ◌∷◌, ◌++◌}
use mathlib.Core.Logic.{⊎_elim}
use mathlib.Core.Path.{◌≡◌, refl, sym, ap, ◌∙◌}
use Prim.Native.Nat.{ℕ, zero, suc, ◌+◌, ◌*◌, ◌-◌, ◌/◌, ◌%◌, ◌^◌, ◌≤◌, ◌<◌}
use native.Mathlib.Nat.{not-suc-le-zero, pow-suc, div-lt_iff_lt-mul}
use native.Mathlib.Omega.{arith}
use borrow.Author.Tests.{lt-ltb, le-ltb, ltb-true, ltb-false}
use lib.Dec.{ltb, lit<}
use lib.ListN.{length, get_or, length-append, get_or-append}
use lib.Seq.{get_or_at}
use Rattle.arithmetic.proofs.Bools.{both_ways}
use Rattle.arithmetic.proofs.Counting.{split-last}
use Rattle.arithmetic.specs.Words.{two_to32}
use Rattle.model.specs.Listing.{digits_up_to, decimal}

-- ---- one digit, or one digit more than the tenth part has

digits_small : (k x : ℕ) → x < 10 → digits_up_to (suc k) x ≡ (48 + x) ∷ []
unfolding digits_up_to
digits_small k x h = rw (lt-ltb x 10 h, digits_up_to)

digits_large : (k x : ℕ) → 10 ≤ x → digits_up_to (suc k) x ≡ digits_up_to k (x / 10) ++ ((48 + x % 10) ∷ [])
unfolding digits_up_to
digits_large k x h = rw (le-ltb x 10 h, digits_up_to)

digits_cases : (P : List ℕ → Type 0) (k x : ℕ) → (x < 10 → P ((48 + x) ∷ []))
    → (10 ≤ x → P (digits_up_to k (x / 10) ++ ((48 + x % 10) ∷ []))) → P (digits_up_to (suc k) x)
digits_cases P k x small large =
    ⊎_elim
    (λ t. let h = ltb-true x 10 t in rw (digits_small k x h) (small h))
    (λ f. let h = ltb-false x 10 f in rw (digits_large k x h) (large h))
    (both_ways (ltb x 10))

tenth-below : (k x : ℕ) → x < 10 ^ suc k → x / 10 < 10 ^ k
tenth-below k x h = (div-lt_iff_lt-mul (lit< tt)).1 (rw pow-suc at h)

-- ---- how many digits

length_digits : (k x : ℕ) → length (digits_up_to k x) ≤ k
unfolding digits_up_to
length_digits zero x = omega arith
length_digits (suc k) x =
    digits_cases (λ l. length l ≤ suc k) k x
    (λ h. omega arith)
    (λ h.
    let ih = length_digits k (x / 10) in
    let l = length-append (digits_up_to k (x / 10)) ((48 + x % 10) ∷ []) in
    omega arith)

digits_some : (k x : ℕ) → 0 < length (digits_up_to (suc k) x)
digits_some k x =
    digits_cases (λ l. 0 < length l) k x
    (λ h. omega arith)
    (λ h.
    let l = length-append (digits_up_to k (x / 10)) ((48 + x % 10) ∷ []) in
    omega arith)

-- a number below 10^j has at most j digits
length_digits_below : (k j x : ℕ) → x < 10 ^ suc j → length (digits_up_to k x) ≤ suc j
unfolding digits_up_to
length_digits_below zero j x below = omega arith
length_digits_below (suc k) zero x below =
    digits_cases (λ l. length l ≤ 1) k x (λ h. omega arith) (λ h. let b : x < 10 = below in omega arith)
length_digits_below (suc k) (suc j) x below =
    digits_cases (λ l. length l ≤ suc (suc j)) k x
    (λ h. omega arith)
    (λ h.
    let ih = length_digits_below k j (x / 10) (tenth-below (suc j) x below) in
    let l = length-append (digits_up_to k (x / 10)) ((48 + x % 10) ∷ []) in
    omega arith)

-- room for more digits than a number has changes nothing
digits_enough : (k x : ℕ) → x < 10 ^ suc k → digits_up_to (suc (suc k)) x ≡ digits_up_to (suc k) x
digits_enough zero x below = digits_small 1 x below ∙ sym (digits_small 0 x below)
digits_enough (suc k) x below =
    digits_cases (λ l. l ≡ digits_up_to (suc (suc k)) x) (suc (suc k)) x
    (λ h. sym (digits_small (suc k) x h))
    (λ h.
    ap (λ (l : List ℕ). l ++ ((48 + x % 10) ∷ [])) (digits_enough k (x / 10) (tenth-below (suc k) x below))
    ∙ sym (digits_large (suc k) x h))

-- ---- each byte is a digit, and only 0 begins with the digit 0

abbrev pub AllDigits : List ℕ → Type 0
AllDigits l = (i : ℕ) → i < length l → (48 ≤ get_or l i 0) × (get_or l i 0 ≤ 57)

digit-more : (l : List ℕ) (d : ℕ) → AllDigits l → d < 10 → AllDigits (l ++ ((48 + d) ∷ []))
digit-more l d all small i h =
    ⊎_elim
    (λ (before : i < length l). rw (get_or-append l ((48 + d) ∷ []) 0 i before) (all i before))
    (λ (e : i ≡ length l). rw (get_or_at l (48 + d) [] 0 i (sym e)) (omega arith))
    (split-last i (length l) (omega (arith, length-append l ((48 + d) ∷ []))))

pub all_digits : (k x : ℕ) → AllDigits (digits_up_to k x)
unfolding digits_up_to
all_digits zero x = λ i h. absurd (not-suc-le-zero h)
all_digits (suc k) x =
    digits_cases AllDigits k x
    (λ h. digit-more [] x (λ i l. absurd (not-suc-le-zero l)) h)
    (λ h. digit-more (digits_up_to k (x / 10)) (x % 10) (all_digits k (x / 10)) (omega arith))

first-stays : (l m : List ℕ) → 48 < get_or l 0 0 → 48 < get_or (l ++ m) 0 0
first-stays [] m h = omega arith
first-stays (d ∷ l) m h = h

first-digit-some : (k x : ℕ) → 0 < x → x < 10 ^ k → 48 < get_or (digits_up_to k x) 0 0
first-digit-some zero x some below = let b : x < 1 = below in omega arith
first-digit-some (suc k) x some below =
    digits_cases (λ l. 48 < get_or l 0 0) k x
    (λ h. omega arith)
    (λ h.
    let first = first-digit-some k (x / 10) (omega arith) (tenth-below k x below) in
    first-stays (digits_up_to k (x / 10)) ((48 + x % 10) ∷ []) first)

-- ---- read back

-- the number that digits say, after the digits of a
unfoldable pub read_from : ℕ → List ℕ → ℕ
read_from a [] = a
read_from a (d ∷ ds) = read_from (10 * a + (d - 48)) ds

read_from_append : (a : ℕ) (xs ys : List ℕ) → read_from a (xs ++ ys) ≡ read_from (read_from a xs) ys
unfolding read_from
read_from_append a [] ys = refl
read_from_append a (x ∷ xs) ys = read_from_append (10 * a + (x - 48)) xs ys

read_digits : (k x : ℕ) → x < 10 ^ k → read_from 0 (digits_up_to k x) ≡ x
unfolding digits_up_to read_from
read_digits zero x below = let b : x < 1 = below in omega arith
read_digits (suc k) x below =
    digits_cases (λ l. read_from 0 l ≡ x) k x
    (λ h. omega arith)
    (λ h.
    let ih = read_digits k (x / 10) (tenth-below k x below) in
    read_from_append 0 (digits_up_to k (x / 10)) ((48 + x % 10) ∷ []) ∙ omega arith)

-- ---- numbers of 32 bits

pub decimal-small : (x : ℕ) → x < 10 → decimal x ≡ (48 + x % 10) ∷ []
decimal-small x h = digits_small 9 x h ∙ ap (λ (d : ℕ). (48 + d) ∷ []) last
  where
    last : x ≡ x % 10
    last = omega arith

-- the tenth part in decimal, then the last digit
pub decimal_large : (x : ℕ) → x < two_to32 → 10 ≤ x → decimal x ≡ decimal (x / 10) ++ ((48 + x % 10) ∷ [])
decimal_large x fits h =
    digits_large 9 x h ∙ ap (λ (l : List ℕ). l ++ ((48 + x % 10) ∷ [])) (sym (digits_enough 8 (x / 10) tenth))
  where
    tenth : x / 10 < 1_000_000_000
    tenth = omega arith

pub length-decimal : (x : ℕ) → length (decimal x) ≤ 10
length-decimal x = length_digits 10 x

pub length-decimal-byte : (x : ℕ) → x < 256 → length (decimal x) ≤ 3
length-decimal-byte x h = length_digits_below 10 2 x below
  where
    below : x < 1000
    below = omega arith

pub decimal-some : (x : ℕ) → 0 < length (decimal x)
decimal-some x = digits_some 9 x

module _ (x : ℕ) (fits : x < two_to32) where
  below-ten_digits : x < 10_000_000_000
  below-ten_digits = omega arith

  pub read-decimal : read_from 0 (decimal x) ≡ x
  read-decimal = read_digits 10 x below-ten_digits

  pub no_leading-zero : 0 < x → 48 < get_or (decimal x) 0 0
  no_leading-zero some = first-digit-some 10 x some below-ten_digits

pub decimal-zero : decimal 0 ≡ 48 ∷ []
unfolding digits_up_to
decimal-zero = refl
