-- The version of this repository, 0.7.0, as the library and the programs give it.
--   major, minor, patch    its three numbers
--   version_number          major × 2^16 + minor × 2^8 + patch
--   version_text            its text, a digit for each, parted by full stops
use Rattle.std.specs.Prelude.{List, [], ◌∷◌, ℕ, ◌+◌, ◌*◌}

abbrev pub major : ℕ
major = 0

abbrev pub minor : ℕ
minor = 7

abbrev pub patch : ℕ
patch = 0

abbrev pub version_number : ℕ
version_number = 65536 * major + 256 * minor + patch

-- "0" is 48, and a full stop 46
abbrev pub version_text : List ℕ
version_text = (48 + major) ∷ 46 ∷ (48 + minor) ∷ 46 ∷ (48 + patch) ∷ []
