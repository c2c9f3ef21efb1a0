-- INNER: no reader needs this page to believe a public promise. The order of the present readings that two lists hold.
--   count_below, count_up_to    how many are below a number, and at or below it
--   numbered_at               the one numbered h from below, moved up by 2^31; 2^31 where there is none
--   numbered_of               what `numbered` gives: lists of at most 64 readings, equally long, are asked
use Rattle.std.specs.Prelude.{cond, ◌&&◌, List, ℕ, leb, ltb, length}
use Rattle.arithmetic.specs.Counting.{count}
use Rattle.arithmetic.specs.Words.{two_to31}
use Rattle.round_laws.specs.Naturals.{numbered_nat}
use Rattle.held.specs.Held.{present_in, value_at, unfit}

abbrev pub count_below : List ℕ → List ℕ → ℕ → ℕ
count_below marks values v = count (λ t. present_in marks t && ltb (value_at values t) v) (length marks)

abbrev pub count_up_to : List ℕ → List ℕ → ℕ → ℕ
count_up_to marks values v = count (λ t. present_in marks t && leb (value_at values t) v) (length marks)

abbrev pub numbered_at : List ℕ → List ℕ → ℕ → ℕ
numbered_at marks values h = numbered_nat two_to31 (present_in marks) (length marks) (value_at values) h

unfoldable pub numbered_of : List ℕ → List ℕ → ℕ → ℕ
numbered_of marks values h =
    cond (unfit (length marks) (length values)) two_to31 (numbered_at marks values h)
