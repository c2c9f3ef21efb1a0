-- Numbers of four bytes: read back from where they were written, and written back from where they were read.
-- Assumes nothing.
use mathlib.Core.Bool.{Bool, true, ◌&&◌}
use mathlib.Core.List.{List, [], ◌∷◌, ◌++◌}
use mathlib.Core.Path.{◌≡◌, sym, ap, ◌∙◌}
use Prim.Native.Nat.{ℕ, zero, suc, ◌+◌, ◌*◌, ◌/◌, ◌%◌, ◌≤◌, ◌<◌}
use native.Mathlib.Nat.{add-zero, add_assoc, mod-eq_of_lt}
use native.Mathlib.Numerals.{add-one, add-two, add-three}
use native.Mathlib.Omega.{arith}
use borrow.Author.Tests.{ltb-true}
use lib.Arith.{mod-mul}
use lib.Dec.{ltb, lit<}
use lib.ListN.{length, take, drop, get_or-append}
use lib.Seq.{get_or-append-add, drop-cons}
use Rattle.arithmetic.specs.Words.{two_to32}
use Rattle.arithmetic.proofs.Bools.{and_left, and_right}
use Rattle.model.specs.RoundSheet.{byte, word, bytes4}

-- ---- a number's own bytes

-- the four digits of a number below 2^32, to the base 256, make the number
pub digits4 :
    (x : ℕ) → x < two_to32
    → x % 256 + 256 * (x / 256 % 256) + 65536 * (x / 65536 % 256) + 16777216 * (x / 16777216 % 256) ≡ x
digits4 x h =
    sums (x % 256) (x / 256 % 256) (x / 65536 % 256) (x / 16777216 % 256) (x % 65536) (x % 16777216) (x % two_to32) x
    (mod-mul x {m = 256} {c = 256} (lit< tt) (lit< tt))
    (mod-mul x {m = 256} {c = 65536} (lit< tt) (lit< tt))
    (mod-mul x {m = 256} {c = 16777216} (lit< tt) (lit< tt))
    (mod-eq_of_lt h)
  where
    sums :
        (a b c d p q r x : ℕ) → p ≡ b * 256 + a → q ≡ c * 65536 + p → r ≡ d * 16777216 + q → r ≡ x
        → a + 256 * b + 65536 * c + 16777216 * d ≡ x
    sums a b c d p q r x e f g h = omega arith

pub word-bytes4 : (x : ℕ) (rest : List ℕ) → x < two_to32 → word (bytes4 x ++ rest) 0 ≡ x
unfolding word bytes4
word-bytes4 x rest h = digits4 x h

-- ---- a number inside a longer list

-- what is read past the first list is read in the second
pub byte_append_right : (p q : List ℕ) (k i : ℕ) → length p ≡ k → byte (p ++ q) (k + i) ≡ byte q i
byte_append_right p q k i e = rw (← e) (get_or-append-add p q i 0)

pub byte_append_left : (p q : List ℕ) (i : ℕ) → i < length p → byte (p ++ q) i ≡ byte p i
byte_append_left p q i h = get_or-append p q 0 i h

-- numbers of four bytes are equal where their bytes are
pub word_ext : (s t : List ℕ) (i j : ℕ) → ((b : ℕ) → b < 4 → byte s (i + b) ≡ byte t (j + b)) → word s i ≡ word t j
unfolding word
word_ext s t i j f =
    let first : byte s i ≡ byte t j = ap (byte s) (sym (add-zero i)) ∙ f 0 (lit< tt) ∙ ap (byte t) (add-zero j) in
    let second = f 1 (lit< tt) in
    let third = f 2 (lit< tt) in
    let fourth = f 3 (lit< tt) in
    omega arith

pub word_append_right : (p q : List ℕ) (k i : ℕ) → length p ≡ k → word (p ++ q) (k + i) ≡ word q i
word_append_right p q k i e =
    word_ext (p ++ q) q (k + i) i (λ b h. ap (byte (p ++ q)) (add_assoc k i b) ∙ byte_append_right p q k (i + b) e)

-- four bytes read one after another and joined are the number there
pub word-joined :
    (s : List ℕ) (i x : ℕ)
    → x ≡ byte s i + 256 * byte s (i + 1) + 65536 * byte s (i + 2) + 16777216 * byte s (i + 3) → x ≡ word s i
unfolding word
word-joined s i x e = e

-- a number of four bytes is below 2^32
pub word_fits : (s : List ℕ) (i : ℕ) → ((j : ℕ) → byte s j < 256) → word s i < two_to32
unfolding word
word_fits s i small =
    let first = small i in
    let second = small (i + 1) in
    let third = small (i + 2) in
    let fourth = small (i + 3) in
    omega arith

-- ---- bytes written back

-- the digits of a number made of four bytes are those bytes
pub bytes4_digits :
    (a b c d : ℕ) → a < 256 → b < 256 → c < 256 → d < 256
    → bytes4 (a + 256 * b + 65536 * c + 16777216 * d) ≡ a ∷ b ∷ c ∷ d ∷ []
unfolding bytes4
bytes4_digits a b c d ha hb hc hd =
    let x = a + 256 * b + 65536 * c + 16777216 * d in
    let one : x / 256 ≡ b + 256 * c + 65536 * d = omega arith in
    let two : x / 65536 ≡ c + 256 * d = omega arith in
    let three : x / 16777216 ≡ d = omega arith in
    let low : x % 256 ≡ a = omega arith in
    let second : (b + 256 * c + 65536 * d) % 256 ≡ b = omega arith in
    let third : (c + 256 * d) % 256 ≡ c = omega arith in
    let fourth : d % 256 ≡ d = omega arith in
    rw (low, one, two, three, second, third, fourth)

-- the four bytes at a place, one by one
pub take4 :
    (s : List ℕ) (i : ℕ) → i + 4 ≤ length s
    → take 4 (drop i s) ≡ byte s i ∷ byte s (i + 1) ∷ byte s (i + 2) ∷ byte s (i + 3) ∷ []
take4 s i h =
    let first : drop i s ≡ byte s i ∷ drop (suc i) s = drop-cons s i 0 (omega arith) in
    let second : drop (suc i) s ≡ byte s (suc i) ∷ drop (suc (suc i)) s = drop-cons s (suc i) 0 (omega arith) in
    let third : drop (suc (suc i)) s ≡ byte s (suc (suc i)) ∷ drop (suc (suc (suc i))) s =
    drop-cons s (suc (suc i)) 0 (omega arith) in
    let fourth : drop (suc (suc (suc i))) s ≡ byte s (suc (suc (suc i))) ∷ drop (suc (suc (suc (suc i)))) s =
    drop-cons s (suc (suc (suc i))) 0 (omega arith) in
    rw (add-one, add-two, add-three, first, second, third, fourth)

-- the four bytes at a place, of a list of bytes
pub bytes4-word :
    (s : List ℕ) (i : ℕ) → ((j : ℕ) → byte s j < 256) → i + 4 ≤ length s → bytes4 (word s i) ≡ take 4 (drop i s)
unfolding word
bytes4-word s i small h =
    bytes4_digits (byte s i) (byte s (i + 1)) (byte s (i + 2)) (byte s (i + 3))
    (small i) (small (i + 1)) (small (i + 2)) (small (i + 3))
    ∙ sym (take4 s i h)

-- a list that is written out has bytes alone
abbrev pub all-bytes : List ℕ → Bool
all-bytes [] = true
all-bytes (b ∷ bs) = ltb b 256 && all-bytes bs

pub bytes-tested : (s : List ℕ) → all-bytes s ≡ true → (j : ℕ) → byte s j < 256
bytes-tested [] e j = lit< tt
bytes-tested (b ∷ bs) e zero = ltb-true b 256 (and_left (ltb b 256) (all-bytes bs) e)
bytes-tested (b ∷ bs) e (suc j) = bytes-tested bs (and_right (ltb b 256) (all-bytes bs) e) j
