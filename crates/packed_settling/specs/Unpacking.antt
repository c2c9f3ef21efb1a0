-- Inner: what a packed answer says.
--   unpacked    the length or the refusal
--   Packs       a length, or a refusal under 1 to 19
use Rattle.std.specs.Prelude.{◌≤◌, cond, ℕ, ◌%◌, ltb}
use Rattle.arithmetic.specs.Words.{two_to32}
use Rattle.model.specs.Refusals.{refusal}
use Rattle.model.specs.Calls.{Verdict, granted, refused}
use Rattle.packed_refusals.specs.Answers.{upper_half, lower_half}

unfoldable pub unpacked : ℕ → Verdict ℕ
unpacked said =
    cond (ltb said two_to32) (granted said) (refused (refusal (upper_half said % 256) (lower_half said)))

abbrev pub Packs : ℕ → Type 0
Packs said = two_to32 ≤ said → (1 ≤ upper_half said) × (upper_half said ≤ 19)
