-- What the call that falls back hands over, in document 02's terms: the answer sheet's length, the number of the sheet
-- that settled the round and where its readings stand in it, or a refusal with zeros.
--   source_number    1 crusaders, 2 direct
--   falling_by       a sheet that settled the round
--   falling_of       either of the two, or a refusal
use Rattle.std.specs.Prelude.{List, ℕ}
use Rattle.model.specs.declared.Settings.{Settings}
use Rattle.model.specs.RoundSheet.{settings_at}
use Rattle.model.specs.Calls.{Verdict, granted, refused}
use Rattle.sheet_pairs.specs.Fallback.{Source, crusaders, direct, sheet_by, readings_start, readings_length, Settlement}
use Rattle.packed_refusals.specs.Answers.{packed_refusal}
use Rattle.fallback_packing.specs.declared.Falling.{Falling}

-- "settled_by 1 crusaders, 2 direct"
abbrev pub source_number : Source → ℕ
source_number crusaders = 1
source_number direct = 2

-- start and length of the readings in a sheet with these settings
abbrev pub falling_by : Settings → ℕ → ℕ → Falling
falling_by c size source =
    record { answer = size; source = source; start = readings_start c; length = readings_length c }

abbrev pub falling_of : Verdict Settlement → List ℕ → List ℕ → Falling
falling_of (granted x) a b = falling_by (settings_at (sheet_by x.source a b)) x.size (source_number x.source)
falling_of (refused r) a b = record { answer = packed_refusal r; source = 0; start = 0; length = 0 }
