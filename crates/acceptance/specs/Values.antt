-- INNER: no reader needs this page to believe a public promise. Document 01's acceptance of the readings that a list
-- of marks and a list of values hold (Rattle.held.specs.Held).
--   accepted_in             document 01's test of a reading
--   accepted_count          how many readings are accepted
--   count_given, flags_of    what `accept` counts, and what it leaves in the lent list: at most 64 marks, as many values
--                          and a list no shorter are asked
-- What the functions below it give:
--   enough_at               whether the span that starts at a reading holds enough
--   admits, admitted       a present reading's span holds a number and enough readings; some reading's does
--   Holds                  a start is a present reading's, and its span holds enough
--   Begins                 a number is that of such a start
--   Remembered             what the memory of counted spans says of each start
--   one_pass, passed_at,     the readings of a span are counted one by one, or from some number on all at once
--   Counting
use Rattle.std.specs.Prelude.{Bool, true, cond, not, ◌&&◌, ◌||◌, List, ◌⊎◌, ◌≡◌, ℕ, ◌+◌, ◌≤◌, ◌<◌, leb, ltb, eqb, length, get_or}
use Rattle.arithmetic.specs.Counting.{count, any_below}
use Rattle.arithmetic.specs.Writing.{table, overwrite}
use Rattle.model.specs.Steps.{accepted}
use Rattle.model.specs.Ensemble.{max_cabinets}
use Rattle.held.specs.Held.{readings_in, value_at, present_in}
use Rattle.spans.specs.Spans.{in_span, held_at}
use Rattle.starts.specs.declared.Known.{Known}
use Rattle.starts.specs.declared.Known.TheVariants.{Uncounted}
use Rattle.starts.specs.Starts.{judged_of}

unfoldable pub accepted_in : ℕ → ℕ → List ℕ → List ℕ → ℕ → Bool
accepted_in w need marks values r = accepted w need (length marks) (readings_in marks values) r

unfoldable pub accepted_count : ℕ → ℕ → List ℕ → List ℕ → ℕ
accepted_count w need marks values = count (accepted_in w need marks values) (length marks)

abbrev pub lists_misfit : List ℕ → List ℕ → List Bool → Bool
lists_misfit marks values old =
    ltb max_cabinets (length marks) || (not (eqb (length values) (length marks)) || ltb (length old) (length marks))

unfoldable pub count_given : ℕ → ℕ → List ℕ → List ℕ → List Bool → ℕ
count_given w need marks values old = cond (lists_misfit marks values old) 0 (accepted_count w need marks values)

unfoldable pub flags_of : ℕ → ℕ → List ℕ → List ℕ → List Bool → List Bool
flags_of w need marks values old =
    cond (lists_misfit marks values old) old (overwrite (table (accepted_in w need marks values) (length marks)) old)

-- ---- the functions below it

-- whether the span that starts at a's reading holds enough
unfoldable pub enough_at : ℕ → ℕ → List ℕ → List ℕ → ℕ → Bool
enough_at w need marks values a = leb need (count (held_at (value_at values a) w marks values) (length marks))

unfoldable pub admits : ℕ → ℕ → List ℕ → List ℕ → ℕ → ℕ → Bool
admits w need marks values v a =
    (present_in marks a && in_span (value_at values a) w v) && enough_at w need marks values a

unfoldable pub admitted : ℕ → ℕ → List ℕ → List ℕ → ℕ → Bool
admitted w need marks values v = any_below (admits w need marks values v) (length marks)

-- of a start among the readings
abbrev pub Holds : ℕ → ℕ → List ℕ → List ℕ → ℕ → Type 0
Holds w need marks values a =
    (a < length marks) × (present_in marks a ≡ true) × (enough_at w need marks values a ≡ true)

-- of the number of a start
abbrev pub Begins : ℕ → ℕ → List ℕ → List ℕ → ℕ → Type 0
Begins w need marks values v = (a : ℕ) × Holds w need marks values a × (value_at values a ≡ v)

abbrev pub Remembered : ℕ → ℕ → List ℕ → List ℕ → List Known → Type 0
Remembered w need marks values known =
    (a : ℕ)
    → a < length marks
    → (get_or known a Uncounted ≡ Uncounted) ⊎ (get_or known a Uncounted ≡ judged_of (enough_at w need marks values a))

-- from this number of readings on a span is counted in one pass
abbrev pub one_pass : ℕ
one_pass = 8

-- how many of n readings are counted after t of them
abbrev pub passed_at : ℕ → ℕ → ℕ
passed_at n t = cond (leb one_pass n) n (t + 1)

-- the span from a start holds c of the t readings that are counted
abbrev pub Counting : ℕ → List ℕ → List ℕ → ℕ → ℕ → ℕ → Type 0
Counting w marks values start c t =
    (c ≡ count (held_at start w marks values) t) × (t < length marks → one_pass ≤ length marks → t ≡ 0)
