-- Ticks as seconds with nine decimals, for the program `plan`.
--   billion                     the parts of a second that nine decimals tell
--   whole_seconds                the whole seconds of some ticks
--   billionths, billionths_up    what is left of a second, rounded down and up
--   digit, decimals             a decimal digit of a number, as a character; nine of them
--   InSeconds                   what is left of a second is below one, rounded up too, so that nine digits tell it; the
--                               theorem is `in_seconds` of proofs/Rounding.antt
use Rattle.std.specs.Prelude.{List, [], ◌∷◌, ℕ, ◌+◌, ◌*◌, ◌/◌, ◌%◌, ◌<◌}
use Rattle.model.specs.Ensemble.{ticks_per_second}
use Rattle.model.specs.Planner.{ceil_div}

abbrev pub billion : ℕ
billion = 1_000_000_000

abbrev pub whole_seconds : ℕ → ℕ
whole_seconds ticks = ticks / ticks_per_second

abbrev pub billionths : ℕ → ℕ
billionths ticks = ticks % ticks_per_second * billion / ticks_per_second

abbrev pub billionths_up : ℕ → ℕ
billionths_up ticks = ceil_div (ticks % ticks_per_second * billion) ticks_per_second

-- "0" is 48
abbrev pub digit : ℕ → ℕ → ℕ
digit n unit = 48 + n / unit % 10

unfoldable pub decimals : ℕ → List ℕ
decimals n =
    digit n 100_000_000
    ∷ digit n 10_000_000
    ∷ digit n 1_000_000
    ∷ digit n 100_000
    ∷ digit n 10_000
    ∷ digit n 1_000
    ∷ digit n 100
    ∷ digit n 10
    ∷ digit n 1
    ∷ []

abbrev pub InSeconds : Type 0
InSeconds = (ticks : ℕ) → (billionths ticks < billion) × (billionths_up ticks < billion)
