-- Document 01, "The round sheet" (docs/FORMAT.md, 3).
--   fca, cca, trimmed_midpoint, trimmed_mean    the rules, 0 to 3; trims, whether one is 2 or 3
--   byte, word               a byte; a number of four bytes, least significant first
--   settings_at               the sizes, bytes 0 to 7
--   entry_count (E)           the number of entries
--   mark_at, bits_at, entry_at  an entry's mark, the four bytes of its reading, the entry itself
--   sheet_length              8 + 5E
--   row_start, row_length      where one cabinet's row of readings starts, and its bytes
--   row_part                  the part of the sheet that is the row
--   bytes4, reading_bytes     a number, and a list of readings, as bytes
--   bits_in                   the bits of an entry's reading in a list of readings
--   sheet_bytes               the sheet that settings, marks and readings make
use Rattle.std.specs.Prelude.{Bool, cond, List, [], ◌∷◌, ◌++◌, ℕ, ◌+◌, ◌*◌, ◌/◌, ◌%◌, ltb, eqb, get_or, take, drop, ℤ, pos}
use Rattle.std.specs.Int.{w32}
use Rattle.std.proofs.Common.{to_z, of_z}
use Rattle.model.specs.declared.Settings.{Settings}
use Rattle.model.specs.Ensemble.{Reading, missing, present}

-- "byte 2 rule (0 FCA, 1 CCA); byte 3 estimator (0 average, 1 median, 2 midpoint)"
abbrev pub fca : ℕ
fca = 0

abbrev pub cca : ℕ
cca = 1

-- document 02, request 5: "Rule 2 drops the m lowest and m highest of N and takes half the sum of the extremes left;
-- rule 3 takes the mean of those left"
abbrev pub trimmed_midpoint : ℕ
trimmed_midpoint = 2

abbrev pub trimmed_mean : ℕ
trimmed_mean = 3

-- whether a rule drops the lowest and the highest: of those that check 4 passes, 2 and 3
abbrev pub trims : ℕ → Bool
trims rule = ltb cca rule

abbrev pub average : ℕ
average = 0

abbrev pub median : ℕ
median = 1

abbrev pub midpoint : ℕ
midpoint = 2

-- the sizes take bytes 0 to 7
abbrev pub header_size : ℕ
header_size = 8

-- "Least significant byte first"
abbrev pub byte : List ℕ → ℕ → ℕ
byte s i = get_or s i 0

unfoldable pub word : List ℕ → ℕ → ℕ
word s i = byte s i + 256 * byte s (i + 1) + 65536 * byte s (i + 2) + 16777216 * byte s (i + 3)

-- "Sizes: byte 0 N; byte 1 m; byte 2 rule; byte 3 estimator; bytes 4 to 7 δ, unsigned"
abbrev pub settings_at : List ℕ → Settings
settings_at s = record { n = byte s 0; m = byte s 1; rule = byte s 2; estimator = byte s 3; window = word s 4 }

-- "E is N for FCA. For CCA it is N × N"; document 02, request 5: "The sheet layout follows FCA"
unfoldable pub entry_count : Settings → ℕ
entry_count c = cond (eqb c.rule cca) (c.n * c.n) c.n

-- "Length is 8 + 5E"
abbrev pub sheet_length : Settings → ℕ
sheet_length c = header_size + 5 * entry_count c

-- "Then two parallel arrays of E entries: E marks of one byte (1 present, 0 missing), then E readings of four bytes"
abbrev pub mark_at : List ℕ → ℕ → ℕ
mark_at s e = byte s (header_size + e)

abbrev pub bits_at : List ℕ → ℕ → ℕ → ℕ
bits_at s E e = word s (header_size + E + 4 * e)

-- "signed numbers in two's complement"
unfoldable pub entry_at : List ℕ → ℕ → ℕ → Reading
entry_at s E e = cond (eqb (mark_at s e) 1) (present (to_z w32 (bits_at s E e))) missing

-- "For FCA that is its one reading of four bytes, for CCA its N readings"; rules 2 and 3 follow FCA
unfoldable pub row_entries : Settings → ℕ
row_entries c = cond (eqb c.rule cca) c.n 1

abbrev pub row_start : Settings → ℕ → ℕ
row_start c r = header_size + entry_count c + 4 * (r * row_entries c)

abbrev pub row_length : Settings → ℕ
row_length c = 4 * row_entries c

unfoldable pub row_part : List ℕ → Settings → ℕ → List ℕ
row_part s c r = take (row_length c) (drop (row_start c r) s)

-- a number of 32 bits as four bytes
unfoldable pub bytes4 : ℕ → List ℕ
bytes4 x = (x % 256) ∷ (x / 256 % 256) ∷ (x / 65536 % 256) ∷ (x / 16777216 % 256) ∷ []

abbrev pub bits_in : List ℤ → ℕ → ℕ
bits_in readings e = of_z w32 (get_or readings e (pos 0))

unfoldable pub reading_bytes : List ℤ → List ℕ
reading_bytes [] = []
reading_bytes (z ∷ zs) = bytes4 (of_z w32 z) ++ reading_bytes zs

unfoldable pub size_bytes : Settings → List ℕ
size_bytes c = (c.n ∷ c.m ∷ c.rule ∷ c.estimator ∷ []) ++ bytes4 c.window

-- the writer's bytes: the sizes, the marks, the readings
unfoldable pub sheet_bytes : Settings → List ℕ → List ℤ → List ℕ
sheet_bytes c marks readings = size_bytes c ++ (marks ++ reading_bytes readings)
