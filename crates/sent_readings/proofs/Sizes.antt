-- All readings are taken where they fit.
-- Assumes nothing.
use mathlib.Core.Path.{◌≡◌}
use Prim.Native.Nat.{ℕ, ◌/◌, ◌≤◌}
use borrow.Author.Tests.{le-leb}
use Rattle.sent_readings.specs.Sizes.{readings_taken}

pub all-readings :
    (sent row marks values : ℕ) → sent ≤ row / 4 → sent ≤ marks → sent ≤ values
    → readings_taken sent row marks values ≡ sent
unfolding readings_taken
all-readings sent row marks values a b c = rw (le-leb sent (row / 4) a, le-leb sent marks b, le-leb sent values c)
