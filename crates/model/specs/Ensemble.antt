-- Document 01, "The ensemble" (docs/FORMAT.md, 1 and 2).
--   max_cabinets, max_window           the limits of N and of the window
--   max_spread                        the limit of a caller's spread (document 02, request 2)
--   ticks_per_second                   the tick: 1/16,777,216 second
--   lowest_reading, highest_reading    the ends of a signed 32-bit number of ticks
--   Reading, Readings                a reading, present or missing; one for each cabinet, numbered from 0
--   quorum                           N-m
use Rattle.std.specs.Prelude.{Bool, true, false, ℕ, ◌-◌, ℤ, pos, negsuc}
use Rattle.model.specs.declared.Settings.{Settings}

-- "N is 1 to 64"
abbrev pub max_cabinets : ℕ
max_cabinets = 64

-- "The window δ is 0 to 1,000,000 ticks"
abbrev pub max_window : ℕ
max_window = 1_000_000

-- document 02, request 2: "The FCA caller now gives a spread D, 0 to 100,000 ticks"
abbrev pub max_spread : ℕ
max_spread = 100_000

-- "The tick carries its own fixed figures: ticks per second, lowest and highest reading"
abbrev pub ticks_per_second : ℕ
ticks_per_second = 16_777_216

abbrev pub lowest_reading : ℤ
lowest_reading = negsuc 2_147_483_647

abbrev pub highest_reading : ℤ
highest_reading = pos 2_147_483_647

-- "A reading is a signed 32-bit number of ticks"; "A reading may be missing (timed out)"
pub data Reading : Type 0 where
  missing : Reading
  present : ℤ → Reading

-- "Cabinets are numbered 0 to N-1, everywhere": the reading of each cabinet, by its number
abbrev pub Readings : Type 0
Readings = ℕ → Reading

abbrev pub is_present : Reading → Bool
is_present missing = false
is_present (present z) = true

-- the ticks of a reading; a missing one has none, and shows 0
abbrev pub ticks : Reading → ℤ
ticks missing = pos 0
ticks (present z) = z

-- N-m, the readings that a span must hold and the copies that a decision needs
abbrev pub quorum : Settings → ℕ
quorum c = c.n - c.m
