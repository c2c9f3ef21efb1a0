-- Numbers of 32 bits in decimal digits. 2^32 stands for a text that is none.
--   grown        a number with one more digit
--   leading      the number of the first i characters
--   numeral      the number of a text
--   number_of    such a number, where it is one of 32 bits
use Rattle.std.specs.Prelude.{cond, ◌||◌, List, ℕ, zero, suc, ◌+◌, ◌*◌, ◌-◌, leb, ltb, eqb, length, get_or, Option, Some, None}
use Rattle.arithmetic.specs.Words.{two_to32}

-- "0" to "9" are 48 to 57
unfoldable pub grown : ℕ → ℕ → ℕ
grown value digit =
    cond (leb two_to32 value || (ltb digit 48 || ltb 57 digit)) two_to32
    (cond (ltb (10 * value + (digit - 48)) two_to32) (10 * value + (digit - 48)) two_to32)

unfoldable pub leading : List ℕ → ℕ → ℕ
leading text zero = 0
leading text (suc i) = grown (leading text i) (get_or text i 0)

unfoldable pub numeral : List ℕ → ℕ
numeral text = cond (eqb (length text) 0) two_to32 (leading text (length text))

unfoldable pub number_of : ℕ → Option ℕ
number_of value = cond (ltb value two_to32) (Some value) None
