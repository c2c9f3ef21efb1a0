-- INNER: no reader needs this page to believe a public promise. What is known of the starts of spans.
--   judged_of          what is known of a span that was counted, by whether it holds enough
--   is_short           a span is known as one of too few readings
--   spanned_from       a start, if there is one and its span holds a value
use Rattle.std.specs.Prelude.{Option, None, Some, Bool, true, false, cond, ℕ}
use Rattle.spans.specs.Spans.{in_span}
use Rattle.starts.specs.declared.Known.{Known}
use Rattle.starts.specs.declared.Known.TheVariants.{Uncounted, Short, Enough}

abbrev pub judged_of : Bool → Known
judged_of enough = cond enough Enough Short

abbrev pub is_short : Known → Bool
is_short Uncounted = false
is_short Short = true
is_short Enough = false

abbrev pub spanned_from : Option ℕ → ℕ → ℕ → Option ℕ
spanned_from None w v = None
spanned_from (Some start) w v = cond (in_span start w v) (Some start) None
