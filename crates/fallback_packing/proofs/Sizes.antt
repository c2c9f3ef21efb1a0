-- Sizes of a byte make few entries, and so numbers of 32 bits.
-- Assumes nothing.
use Rattle.std.proofs.Common.{◌≤◌}
use Rattle.model.specs.declared.Settings.{Settings}
use Rattle.model.specs.RoundSheet.{entry_count}
use Rattle.sheet_sizes.specs.Bounds.{most_entries}
use Rattle.sheet_sizes.proofs.Bounds.{byte-entries-most}

pub few_entries : (c : Settings) → c.n ≤ 255 → entry_count c ≤ most_entries
few_entries = byte-entries-most
