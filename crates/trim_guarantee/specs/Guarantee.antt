-- Document 02, "Paper 5. Trimming rules" (docs/FORMAT.md, 14): where the new values of sound cabinets lie, and how far
-- apart they can be, where at most m cabinets are faulty, whatever the faulty ones send to whom. It is said of sheets
-- in bytes. The theorem is `trim_guarantee` of proofs/Guarantee.antt; Witnesses.antt has the sheets that reach the
-- limits.
--
-- δ is any number of ticks within which the sound readings lie of each other: the sheet's window, or less, or more. The
-- rules themselves do not look at the window.
-- `sound` may be any set of sound cabinets; t counts all others, so that a sound one whose reading is missing can count
-- as faulty.
-- What is not claimed: anything where the faulty and the missing are more than m together, where two sound cabinets
-- read a sound one differently, or of a second round: no plan has these rules.
--
--   Reads, Alike          what is asked of one cabinet's sheet, and of two (Cabinet, reading, settled, new_value and bad
--                         are those of crates/spread_guarantee/specs/Guarantee.antt, with the spread 0)
--   InRange               a value within the sound readings' range
--   midpoint_gap, mean_gap  the two limits; odd_mean_gap, the second where N-2m is odd
--   TrimLimits            what holds of all sound cabinets
--   TrimGuarantee         of all settings by rules 2 and 3, windows and sound sets
use Rattle.std.specs.Prelude.{Bool, true, ◌≡◌, ℕ, ◌*◌, ◌-◌, ◌%◌, ◌≤◌, ◌<◌, ℤ, ◌≤ℤ◌}
use Rattle.model.specs.declared.Settings.{Settings}
use Rattle.model.specs.Ensemble.{is_present, ticks}
use Rattle.model.specs.RoundSheet.{trimmed_midpoint, trimmed_mean, trims, settings_at}
use Rattle.model.specs.AnswerSheet.{answer_length}
use Rattle.model.specs.Steps.{kept_count}
use Rattle.model.specs.Planner.{ceil_div, past_div}
use Rattle.model.specs.Calls.{granted}
use Rattle.demand_1_2.specs.Demand2.{Bytes, Passed}
use Rattle.demand_3.specs.Guarantee.{apart}
use Rattle.spread_guarantee.specs.Guarantee.{Cabinet, reading, settled, new_value, bad}

-- ---- What is asked

-- of a sound cabinet: its sheet and its answer buffer pass checks 1 to 9 and 16, and its settings are c; "all sound
-- readings are present and lie within δ"
pub record Reads (c : Settings) (δ : ℕ) (sound : ℕ → Bool) (p : Cabinet) : Type 0 where
  pub bytes : Bytes p.sheet
  pub passes : Passed p.sheet 0 p.buffer
  pub settings : settings_at p.sheet ≡ c
  pub present : (r : ℕ) → r < c.n → sound r ≡ true → is_present (reading p r) ≡ true
  pub precise :
      (r s : ℕ) → r < c.n → s < c.n → sound r ≡ true → sound s ≡ true
      → apart (ticks (reading p r)) (ticks (reading p s)) ≤ δ

-- two read the same of a sound one: "D must be 0 here"
abbrev pub Alike : Settings → (ℕ → Bool) → Cabinet → Cabinet → Type 0
Alike c sound p q = (r : ℕ) → r < c.n → sound r ≡ true → ticks (reading p r) ≡ ticks (reading q r)

-- ---- The limits

-- "new values stay within the sound readings' range": some sound reading is at most the value, and some at least
pub record InRange (c : Settings) (sound : ℕ → Bool) (p : Cabinet) (z : ℤ) : Type 0 where
  pub low : ℕ
  pub low_sound : (low < c.n) × (sound low ≡ true)
  pub above : ticks (reading p low) ≤ℤ z
  pub high : ℕ
  pub high_sound : (high < c.n) × (sound high ≡ true)
  pub below : z ≤ℤ ticks (reading p high)

-- "Two of them differ by at most the whole part of δ/2 plus one (rule 2)"
abbrev pub midpoint_gap : ℕ → ℕ
midpoint_gap δ = past_div δ 2

-- "or of tδ/(N-2m) plus one (rule 3, t faulty)"
abbrev pub mean_gap : Settings → ℕ → ℕ → ℕ
mean_gap c δ t = past_div (t * δ) (kept_count c.n c.m)

-- beyond what is asked: where N-2m is odd no mean is a half, and ⌈tδ/(N-2m)⌉ holds
abbrev pub odd_mean_gap : Settings → ℕ → ℕ → ℕ
odd_mean_gap c δ t = ceil_div (t * δ) (kept_count c.n c.m)

-- ---- The statement

pub record TrimLimits (c : Settings) (δ : ℕ) (sound : ℕ → Bool) : Type 0 where
  -- no sound cabinet is refused
  pub unrefused : (p : Cabinet) → Reads c δ sound p → (settled 0 p).verdict ≡ granted (answer_length c.n)
  pub range : (p : Cabinet) → Reads c δ sound p → InRange c sound p (new_value 0 p)
  pub midpoints :
      c.rule ≡ trimmed_midpoint
      → (p q : Cabinet) → Reads c δ sound p → Reads c δ sound q → Alike c sound p q
      → apart (new_value 0 p) (new_value 0 q) ≤ midpoint_gap δ
  pub means :
      c.rule ≡ trimmed_mean
      → (p q : Cabinet) → Reads c δ sound p → Reads c δ sound q → Alike c sound p q
      → apart (new_value 0 p) (new_value 0 q) ≤ mean_gap c δ (bad c sound)
  pub odd_means :
      c.rule ≡ trimmed_mean → kept_count c.n c.m % 2 ≡ 1
      → (p q : Cabinet) → Reads c δ sound p → Reads c δ sound q → Alike c sound p q
      → apart (new_value 0 p) (new_value 0 q) ≤ odd_mean_gap c δ (bad c sound)

-- "Suppose at most m cabinets are faulty"
abbrev pub TrimGuarantee : Type 0
TrimGuarantee =
    (c : Settings) (δ : ℕ) (sound : ℕ → Bool) → trims c.rule ≡ true → bad c sound ≤ c.m → TrimLimits c δ sound
